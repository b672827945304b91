-- A step that releases a task.
use Rattle.std.proofs.Common.{ℕ, ◌≡◌, None, refl}
use Rattle.fj_rules.specs.declared.event.Event.TheVariants as event
use Rattle.fj_rules.specs.declared.said.Said.TheVariants as says
use Rattle.fj_rules.specs.declared.step.Step.TheVariants.{Release}
use Rattle.fj_rules.specs.Answers.{refusals_of, first_that_stands, events_of, reply_of}
use Rattle.fj_rules.specs.Runs.{Past}
use Rattle.fj_machine.proofs.Outcomes.OneEvent.{IsOf}

pub releases : (now : Past) (t : ℕ) → first_that_stands (refusals_of now.pool now.events (Release t)) ≡ None → IsOf now (Release t) (event.Rel t)
unfolding events_of
releases now t stands = record { stands = stands; event = refl }

pub release_says : (now : Past) (t : ℕ) → says.Done ≡ reply_of now.pool now.events (Release t)
unfolding reply_of
release_says now t = refl
