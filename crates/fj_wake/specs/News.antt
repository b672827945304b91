-- Which events concern those who sleep.
use Rattle.std.specs.Prelude.{ℕ, Bool, true, false, drop}
use Rattle.std.specs.List.{list_any}
use Rattle.fj_rules.specs.declared.event.Event.{Event}
use Rattle.fj_rules.specs.declared.event.Event.TheVariants.{Acc, Settle, Stop, Rel}
use Rattle.fj_rules.specs.Pasts.{present}
use Rattle.fj_calls.specs.declared.taken_in.Intake.{Intake}
use Rattle.fj_calls.specs.declared.taken_in.Intake.TheVariants.{Took}
use Rattle.fj_calls.specs.Cores.{CoreState}

-- whether a task is queued by it
abbrev pub queues_task : Event → Bool
queues_task (Acc t o k) = true
queues_task _ = false

-- whether a task may be done, or released, by it
abbrev pub ends_task : Event → Bool
ends_task (Settle t s) = true
ends_task Stop = true
ends_task (Rel t) = true
ends_task _ = false

-- whether an intake took a parcel
abbrev pub takes : Intake → Bool
takes (Took serial) = true
takes _ = false

-- whether a task may be done, or released, by an event of the present history from this place on
abbrev pub has_ended : {B K O : Type 0} → ℕ → CoreState B K O → Bool
has_ended since core = list_any ends_task (drop since (present core.store.past))
