use Rattle.std.proofs.Common.{ℕ, ◌≡◌, ◌<◌, Some}
use Rattle.fj_rules.specs.Hooks.{hand}
use Rattle.fj_bodies.proofs.hooked.is_hooked.Given as goal

abbrev pub invariant-loop-w : goal.invariant-loop-w
invariant-loop-w l = (j : ℕ) → j < l.w → hand l.machine.events j ≡ Some l.t → ⊥
