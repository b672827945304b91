-- The hand of one worker, as the history has it.
use Rattle.std.specs.Prelude.{ℕ, ◌≡◌}
use Rattle.fj_rules.specs.Stacks.{stack as held}
use Rattle.fj_rules.specs.Hooks.{hand as hook_of}
use Rattle.fj_rules.specs.Pasts.{Past}

-- the worker has the same bodies, and the same completion action, in hand
pub record KeepsHand (v : ℕ) (old new : Past) : Type 0 where
  pub bodies : held new.events v ≡ held old.events v
  pub hook : hook_of new.events v ≡ hook_of old.events v
