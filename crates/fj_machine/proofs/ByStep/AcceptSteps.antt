-- Steps that accept a task.
use Rattle.std.proofs.Common.{ℕ, ◌≡◌, None, true, refl}
use Rattle.fj_rules.specs.declared.event.Event.TheVariants as event
use Rattle.fj_rules.specs.declared.kind.Kind.{Kind}
use Rattle.fj_rules.specs.declared.kind.Kind.TheVariants.{Completer}
use Rattle.fj_rules.specs.declared.kind.SubmittedKind.{SubmittedKind}
use Rattle.fj_rules.specs.declared.owner.Owner.TheVariants.{Sub, Work}
use Rattle.fj_rules.specs.declared.said.Said.TheVariants as says
use Rattle.fj_rules.specs.declared.step.Step.TheVariants.{Submit, Fork, Trigger}
use Rattle.fj_rules.specs.Tasks.{accepted, submitted_kind}
use Rattle.fj_rules.specs.Answers.{refusals_of, first_that_stands, events_of, reply_of}
use Rattle.fj_rules.specs.Runs.{Past}
use Rattle.fj_machine.proofs.Outcomes.OneEvent.{IsOf}

pub submits : (now : Past) (s : ℕ) (k : SubmittedKind) → first_that_stands (refusals_of now.pool now.events (Submit s k)) ≡ None
    → IsOf now (Submit s k) (event.Acc (accepted now.events) (Sub s) (submitted_kind k))
unfolding events_of
submits now s k stands = record { stands = stands; event = refl }

pub submit_says : (now : Past) (s : ℕ) (k : SubmittedKind) → says.Task (accepted now.events) ≡ reply_of now.pool now.events (Submit s k)
unfolding reply_of
submit_says now s k = refl

pub forks : (now : Past) (w : ℕ) (k : Kind) → first_that_stands (refusals_of now.pool now.events (Fork w k)) ≡ None
    → IsOf now (Fork w k) (event.Acc (accepted now.events) (Work w) k)
unfolding events_of
forks now w k stands = record { stands = stands; event = refl }

pub fork_says : (now : Past) (w : ℕ) (k : Kind) → says.Task (accepted now.events) ≡ reply_of now.pool now.events (Fork w k)
unfolding reply_of
fork_says now w k = refl

pub makes_trigger : (now : Past) (w count : ℕ) → first_that_stands (refusals_of now.pool now.events (Trigger w count)) ≡ None
    → IsOf now (Trigger w count) (event.Make (accepted now.events) (Completer true count None))
unfolding events_of
makes_trigger now w count stands = record { stands = stands; event = refl }

pub trigger_says : (now : Past) (w count : ℕ) → says.Task (accepted now.events) ≡ reply_of now.pool now.events (Trigger w count)
unfolding reply_of
trigger_says now w count = refl
