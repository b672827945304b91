-- A hand that fits its store.
use Rattle.std.specs.Prelude.{◌≡◌, ◌<◌}
use Rattle.fj_rules.specs.Stacks.{stack as held}
use Rattle.fj_rules.specs.Hooks.{hand as hook_of}
use Rattle.fj_rules.specs.Pasts.{Past}
use Rattle.fj_slots.specs.Aside.{numbers}
use Rattle.fj_slots.specs.Hands.{HandState, hook_number}

-- the bodies and the hook have the task numbers that the machine has for the worker
pub record Fits {B : Type 0} (past : Past) (hand : HandState B) : Type 0 where
  pub there : hand.worker < past.pool.limits.workers
  pub bodies : numbers hand.stack ≡ held past.events hand.worker
  pub hook : hook_number hand.hook ≡ hook_of past.events hand.worker
