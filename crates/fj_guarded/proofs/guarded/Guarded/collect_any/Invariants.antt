use Rattle.std.proofs.Common.{◌≡◌}
use Rattle.fj_guarded.specs.Asked.{AreAwaited}
use Rattle.fj_guarded.proofs.guarded.Guarded.collect_any.Given as goal

-- the outcomes so far are still to come
abbrev pub invariant-loop-place : goal.invariant-loop-place
invariant-loop-place g l = (l.self ≡ l.fn.self) × AreAwaited l.place l.fn.tickets l.fn.self
