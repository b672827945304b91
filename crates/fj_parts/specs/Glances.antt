-- What a pool does at one moment.
use Rattle.std.specs.Prelude.{ℕ, zero, suc, ◌≡◌, ◌+◌, ◌||◌, Bool, true, false, not, is_some, List, length}
use Rattle.fj_rules.specs.declared.event.Event.{Event}
use Rattle.fj_rules.specs.Hooks.{hand}
use Rattle.fj_rules.specs.Lists.{is_empty}
use Rattle.fj_rules.specs.Pasts.{Past, present}
use Rattle.fj_rules.specs.Places.{open_tasks}
use Rattle.fj_rules.specs.Stacks.{stack}
use Rattle.fj_rules.specs.Tasks.{live}
use Rattle.fj_ledger.specs.Counts.{queued}
use Rattle.fj_parts.specs.declared.glance.Glance.{Glance}

-- whether a worker has a task, or a completion action
abbrev pub is_busy : List Event → ℕ → Bool
is_busy h w = not (is_empty (stack h w)) || is_some (hand h w)

abbrev pub one_if : Bool → ℕ
one_if true = 1
one_if false = 0

-- how many of the first workers have something to do
abbrev pub busy_below : List Event → ℕ → ℕ
busy_below h zero = 0
busy_below h (suc w) = busy_below h w + one_if (is_busy h w)

-- each number is that of this history, the events those since the last seal; each worker has something to do or rests
pub record IsGlance (past : Past) (glance : Glance) : Type 0 where
  pub queued : glance.queued ≡ queued past.pool.limits past.events
  pub running : glance.running ≡ busy_below past.events past.pool.limits.workers
  pub resting : glance.running + glance.resting ≡ past.pool.limits.workers
  pub «open» : glance.«open» ≡ length (open_tasks past.events)
  pub live : glance.live ≡ live past.events
  pub events : glance.events ≡ length (present past)
