-- Submissions, forks and triggers.
use Rattle.std.specs.Prelude.{◌≡◌, true, false, [], ◌∷◌, Some, None, refl}
use Rattle.fj_rules.specs.declared.event.Event.TheVariants as event
use Rattle.fj_rules.specs.declared.kind.SubmittedKind.TheVariants as submitted
use Rattle.fj_rules.specs.declared.place.Place.TheVariants as at
use Rattle.fj_rules.specs.declared.status.Status.TheVariants as status_is
use Rattle.fj_rules.specs.declared.step.Ending.TheVariants as ending
use Rattle.fj_rules.specs.declared.step.Step.TheVariants as ask
use Rattle.fj_rules.specs.declared.refusal.Refusal.TheVariants as refused
use Rattle.fj_rules.specs.declared.said.Said.TheVariants as says
use Rattle.fj_rules.specs.declared.owner.Owner.TheVariants.{Sub}
use Rattle.fj_rules.specs.declared.mode.Mode.TheVariants.{Async}
use Rattle.fj_rules.specs.declared.kind.Kind.TheVariants.{Completer}
use Rattle.fj_rules.proofs.Samples.Scripts.{pool_of, IsReplayed, history_of, computing}

pub a_fork_may_name_a_spent_parent : IsReplayed (pool_of Async 1 1 4 64)
    ((ask.Submit 0 (submitted.Completer true 0), says.Task 0) ∷ (ask.Submit 0 submitted.Plain, says.Task 1) ∷ (ask.Poll 0 0, says.Run 0) ∷
    (ask.End 0 ending.Pass, says.Root 0) ∷ (ask.Poll 0 0, says.Run 1) ∷ (ask.Fork 0 (Completer true 0 (Some 0)), says.Task 2) ∷
    (ask.Help 0 0, says.Run 2) ∷ (ask.End 0 ending.Pass, says.Spent 0) ∷ [])
unfolding computing
a_fork_may_name_a_spent_parent = (refl, refl)

pub a_trigger_is_open_where_its_event_just_fits : IsReplayed (pool_of Async 1 1 4 3)
    ((ask.Submit 0 submitted.Plain, says.Task 0) ∷ (ask.Poll 0 0, says.Run 0) ∷ (ask.State 1, says.Refused refused.Unknown) ∷
    (ask.Trigger 0 1, says.Task 1) ∷ (ask.State 1, says.State at.Open status_is.Undone) ∷ [])
unfolding computing
a_trigger_is_open_where_its_event_just_fits = (refl, refl)

pub a_completer_keeps_its_relay_word_and_a_trigger_relays :
    history_of (pool_of Async 1 1 4 64) (ask.Submit 0 (submitted.Completer false 0) ∷ ask.Poll 0 0 ∷ ask.Trigger 0 2 ∷ [])
    ≡ event.Acc 0 (Sub 0) (Completer false 0 None) ∷ event.Out 0 0 ∷ event.Make 1 (Completer true 2 None) ∷ []
unfolding computing
a_completer_keeps_its_relay_word_and_a_trigger_relays = refl
