use Rattle.std.proofs.Common.{◌≡◌}
use Rattle.std.specs.Prelude.{vec_len}
use Rattle.fj_monitor.proofs.condvars.several.Given as goal

-- as many as were counted
abbrev pub invariant-loop-place : goal.invariant-loop-place
invariant-loop-place l = vec_len l.condvars ≡ l._place
