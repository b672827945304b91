-- Which events are counted as what.
use Rattle.std.specs.Prelude.{Bool, true, false}
use Rattle.fj_rules.specs.declared.event.Event.{Event}
use Rattle.fj_rules.specs.declared.event.Event.TheVariants.{Acc, Make, Out, Skip, Settle, Rel}
use Rattle.fj_rules.specs.declared.owner.Owner.TheVariants.{Sub, Work}
use Rattle.fj_rules.specs.declared.status.Status.TheVariants.{Exceptional, Cancelled}

-- a task was accepted into the queue of a submitter
abbrev pub is_submission : Event → Bool
is_submission (Acc t (Sub s) k) = true
is_submission _ = false

-- a task was accepted into the queue of a worker
abbrev pub is_fork : Event → Bool
is_fork (Acc t (Work w) k) = true
is_fork _ = false

-- a trigger was made
abbrev pub is_trigger : Event → Bool
is_trigger (Make t k) = true
is_trigger _ = false

-- a task was handed to a worker to run
abbrev pub is_beginning : Event → Bool
is_beginning (Out t w) = true
is_beginning _ = false

-- a task was taken by a worker, and not run
abbrev pub is_skip : Event → Bool
is_skip (Skip t w) = true
is_skip _ = false

-- a task ended with a fault
abbrev pub is_failure : Event → Bool
is_failure (Settle t (Exceptional code)) = true
is_failure _ = false

-- a task was cancelled
abbrev pub is_cancellation : Event → Bool
is_cancellation (Settle t Cancelled) = true
is_cancellation _ = false

-- a task was released
abbrev pub is_release : Event → Bool
is_release (Rel t) = true
is_release _ = false
