-- Releases.
use Rattle.std.specs.Prelude.{◌≡◌, true, [], ◌∷◌, Some, refl}
use Rattle.fj_rules.specs.declared.kind.SubmittedKind.TheVariants as submitted
use Rattle.fj_rules.specs.declared.place.Place.TheVariants as at
use Rattle.fj_rules.specs.declared.status.Status.TheVariants as status_is
use Rattle.fj_rules.specs.declared.step.Ending.TheVariants as ending
use Rattle.fj_rules.specs.declared.step.Step.TheVariants as ask
use Rattle.fj_rules.specs.declared.refusal.Refusal.TheVariants as refused
use Rattle.fj_rules.specs.declared.said.Said.TheVariants as says
use Rattle.fj_rules.specs.declared.owner.Owner.TheVariants.{Sub}
use Rattle.fj_rules.specs.declared.mode.Mode.TheVariants.{Async}
use Rattle.fj_rules.specs.declared.kind.Kind.TheVariants.{Completer}
use Rattle.fj_rules.specs.Places.{gone}
use Rattle.fj_rules.proofs.Samples.Scripts.{pool_of, IsReplayed, history_of, computing}

-- it makes room for another task
pub a_parent_is_released_after_its_children : IsReplayed (pool_of Async 1 1 3 64)
    ((ask.Submit 0 (submitted.Completer true 0), says.Task 0) ∷ (ask.Poll 0 0, says.Run 0) ∷
    (ask.Fork 0 (Completer true 0 (Some 0)), says.Task 1) ∷ (ask.End 0 ending.Try, says.Hook 0) ∷ (ask.HookDone 0, says.Root 0) ∷
    (ask.Release 0, says.Refused refused.NotDone) ∷ (ask.Cancel 1, says.Yes) ∷ (ask.Poll 0 0, says.Skip 1) ∷ (ask.Release 1, says.Done) ∷
    (ask.Release 0, says.Done) ∷ (ask.State 0, says.Refused refused.Unknown) ∷ (ask.Submit 0 submitted.Plain, says.Task 2) ∷ [])
unfolding computing
a_parent_is_released_after_its_children = (refl, refl)

pub a_hook_in_hand_outlasts_the_release_of_its_completer : IsReplayed (pool_of Async 1 1 2 64)
    ((ask.Submit 0 (submitted.Completer true 0), says.Task 0) ∷ (ask.Poll 0 0, says.Run 0) ∷ (ask.End 0 ending.Try, says.Hook 0) ∷
    (ask.Release 0, says.Done) ∷ (ask.Submit 0 submitted.Plain, says.Task 1) ∷ (ask.Stop, says.Done) ∷ (ask.HookDone 0, says.Spent 0) ∷
    (ask.State 0, says.Refused refused.Unknown) ∷ (ask.State 1, says.State (at.Queued (Sub 0)) status_is.Cancelled) ∷ [])
unfolding computing
a_hook_in_hand_outlasts_the_release_of_its_completer = (refl, refl)

pub a_released_task_stays_gone :
    gone (history_of (pool_of Async 1 1 4 64) (ask.Submit 0 submitted.Plain ∷ ask.Poll 0 0 ∷ ask.End 0 ending.Ok ∷ ask.Release 0 ∷ []))
    ≡ 0 ∷ []
unfolding computing
a_released_task_stays_gone = refl

-- it makes room for another task, which the history has no room for
pub a_release_where_it_just_fits : IsReplayed (pool_of Async 1 1 1 5)
    ((ask.Submit 0 submitted.Plain, says.Task 0) ∷ (ask.Poll 0 0, says.Run 0) ∷ (ask.End 0 ending.Ok, says.Done) ∷
    (ask.Release 0, says.Done) ∷ (ask.State 0, says.Refused refused.Unknown) ∷
    (ask.Submit 0 submitted.Plain, says.Refused refused.LogFull) ∷ [])
unfolding computing
a_release_where_it_just_fits = (refl, refl)

-- the task stays gone and kept
pub a_release_where_it_does_not_fit : IsReplayed (pool_of Async 1 1 1 4)
    ((ask.Submit 0 submitted.Plain, says.Task 0) ∷ (ask.Poll 0 0, says.Run 0) ∷ (ask.End 0 ending.Ok, says.Done) ∷ (ask.Cancel 0, says.No) ∷
    (ask.Release 0, says.Refused refused.LogFull) ∷ (ask.State 0, says.State at.Gone status_is.Normal) ∷
    (ask.Submit 0 submitted.Plain, says.Refused refused.TooManyTasks) ∷ [])
unfolding computing
a_release_where_it_does_not_fit = (refl, refl)
