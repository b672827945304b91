-- Faults and cancels.
use Rattle.std.specs.Prelude.{true, [], ◌∷◌, Some, refl}
use Rattle.fj_rules.specs.declared.kind.SubmittedKind.TheVariants as submitted
use Rattle.fj_rules.specs.declared.place.Place.TheVariants as at
use Rattle.fj_rules.specs.declared.status.Status.TheVariants as status_is
use Rattle.fj_rules.specs.declared.step.Ending.TheVariants as ending
use Rattle.fj_rules.specs.declared.step.Step.TheVariants as ask
use Rattle.fj_rules.specs.declared.refusal.Refusal.TheVariants as refused
use Rattle.fj_rules.specs.declared.said.Said.TheVariants as says
use Rattle.fj_rules.specs.declared.owner.Owner.TheVariants.{Sub, Work}
use Rattle.fj_rules.specs.declared.mode.Mode.TheVariants.{Async}
use Rattle.fj_rules.specs.declared.kind.Kind.TheVariants.{Completer}
use Rattle.fj_rules.proofs.Samples.Scripts.{pool_of, IsReplayed, computing}

-- a task that has ended is not
pub a_cancelled_task_is_kept_and_may_be_cancelled_again : IsReplayed (pool_of Async 1 1 2 16)
    ((ask.Submit 0 submitted.Plain, says.Task 0) ∷ (ask.Cancel 0, says.Yes) ∷ (ask.Cancel 0, says.Yes) ∷
    (ask.Submit 0 submitted.Plain, says.Task 1) ∷ (ask.Submit 0 submitted.Plain, says.Refused refused.TooManyTasks) ∷
    (ask.Poll 0 0, says.Skip 0) ∷ (ask.Poll 0 0, says.Run 1) ∷ (ask.End 0 ending.Ok, says.Done) ∷ (ask.Cancel 1, says.No) ∷
    (ask.Fault 1 5, says.No) ∷ [])
unfolding computing
a_cancelled_task_is_kept_and_may_be_cancelled_again = (refl, refl)

pub queued_held_and_open_parents_pass_the_code_on : IsReplayed (pool_of Async 2 1 4 64)
    ((ask.Submit 0 (submitted.Completer true 1), says.Task 0) ∷ (ask.Poll 0 0, says.Run 0) ∷
    (ask.Fork 0 (Completer true 1 (Some 0)), says.Task 1) ∷ (ask.End 0 ending.Quiet, says.Done) ∷ (ask.Poll 0 0, says.Run 1) ∷
    (ask.Fork 0 (Completer true 1 (Some 1)), says.Task 2) ∷ (ask.Poll 1 0, says.Run 2) ∷
    (ask.Fork 1 (Completer true 1 (Some 2)), says.Task 3) ∷ (ask.End 1 ending.Quiet, says.Done) ∷ (ask.Fault 3 4, says.Yes) ∷
    (ask.State 3, says.State (at.Queued (Work 1)) (status_is.Exceptional 4)) ∷ (ask.State 2, says.State at.Gone (status_is.Exceptional 4)) ∷
    (ask.State 1, says.State (at.Held 0) (status_is.Exceptional 4)) ∷ (ask.State 0, says.State at.Gone (status_is.Exceptional 4)) ∷
    (ask.End 0 ending.Quiet, says.Done) ∷ (ask.Poll 0 0, says.Skip 3) ∷ [])
unfolding computing
queued_held_and_open_parents_pass_the_code_on = (refl, refl)

pub a_cancelled_parent_stops_the_code_and_is_not_jumped_over : IsReplayed (pool_of Async 1 1 4 64)
    ((ask.Submit 0 (submitted.Completer true 1), says.Task 0) ∷ (ask.Poll 0 0, says.Run 0) ∷
    (ask.Fork 0 (Completer true 1 (Some 0)), says.Task 1) ∷ (ask.Fork 0 (Completer true 0 (Some 1)), says.Task 2) ∷
    (ask.Cancel 1, says.Yes) ∷ (ask.Fault 2 8, says.Yes) ∷ (ask.State 2, says.State (at.Queued (Work 0)) (status_is.Exceptional 8)) ∷
    (ask.State 1, says.State (at.Queued (Work 0)) status_is.Cancelled) ∷ (ask.State 0, says.State (at.Held 0) status_is.Undone) ∷ [])
unfolding computing
a_cancelled_parent_stops_the_code_and_is_not_jumped_over = (refl, refl)

-- later faults and cancels append nothing, so they are not refused
pub a_fault_of_one_task_where_it_just_fits : IsReplayed (pool_of Async 1 1 4 2)
    ((ask.Submit 0 submitted.Plain, says.Task 0) ∷ (ask.Fault 0 7, says.Yes) ∷
    (ask.State 0, says.State (at.Queued (Sub 0)) (status_is.Exceptional 7)) ∷ (ask.Fault 0 8, says.No) ∷ (ask.Cancel 0, says.No) ∷ [])
unfolding computing
a_fault_of_one_task_where_it_just_fits = (refl, refl)
