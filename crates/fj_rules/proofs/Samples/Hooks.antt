-- Ends of hooks.
use Rattle.std.specs.Prelude.{true, [], ◌∷◌, Some, refl}
use Rattle.fj_rules.specs.declared.kind.SubmittedKind.TheVariants as submitted
use Rattle.fj_rules.specs.declared.place.Place.TheVariants as at
use Rattle.fj_rules.specs.declared.status.Status.TheVariants as status_is
use Rattle.fj_rules.specs.declared.step.Ending.TheVariants as ending
use Rattle.fj_rules.specs.declared.step.Step.TheVariants as ask
use Rattle.fj_rules.specs.declared.refusal.Refusal.TheVariants as refused
use Rattle.fj_rules.specs.declared.said.Said.TheVariants as says
use Rattle.fj_rules.specs.declared.mode.Mode.TheVariants.{Async}
use Rattle.fj_rules.specs.declared.kind.Kind.TheVariants.{Completer}
use Rattle.fj_rules.proofs.Samples.Scripts.{pool_of, IsReplayed, computing}

pub a_trigger_fires_at_the_arrival_of_its_last_child : IsReplayed (pool_of Async 1 1 4 64)
    ((ask.Submit 0 submitted.Plain, says.Task 0) ∷ (ask.Poll 0 0, says.Run 0) ∷ (ask.Trigger 0 1, says.Task 1) ∷
    (ask.Fork 0 (Completer true 0 (Some 1)), says.Task 2) ∷ (ask.Fork 0 (Completer true 0 (Some 1)), says.Task 3) ∷
    (ask.End 0 ending.Ok, says.Done) ∷ (ask.Poll 0 0, says.Run 2) ∷ (ask.End 0 ending.Try, says.Hook 2) ∷ (ask.HookDone 0, says.Counted 1) ∷
    (ask.Poll 0 0, says.Run 3) ∷ (ask.End 0 ending.Try, says.Hook 3) ∷ (ask.HookDone 0, says.Hook 1) ∷ (ask.HookDone 0, says.Root 1) ∷
    (ask.State 1, says.State at.Gone status_is.Normal) ∷ (ask.State 2, says.State at.Gone status_is.Undone) ∷ [])
unfolding computing
a_trigger_fires_at_the_arrival_of_its_last_child = (refl, refl)

pub an_arrival_after_the_last_finds_the_trigger_spent : IsReplayed (pool_of Async 1 1 5 64)
    ((ask.Submit 0 submitted.Plain, says.Task 0) ∷ (ask.Poll 0 0, says.Run 0) ∷ (ask.Trigger 0 1, says.Task 1) ∷
    (ask.Fork 0 (Completer true 0 (Some 1)), says.Task 2) ∷ (ask.Fork 0 (Completer true 0 (Some 1)), says.Task 3) ∷
    (ask.Fork 0 (Completer true 0 (Some 1)), says.Task 4) ∷ (ask.End 0 ending.Ok, says.Done) ∷ (ask.Poll 0 0, says.Run 2) ∷
    (ask.End 0 ending.Try, says.Hook 2) ∷ (ask.HookDone 0, says.Counted 1) ∷ (ask.Poll 0 0, says.Run 3) ∷
    (ask.End 0 ending.Try, says.Hook 3) ∷ (ask.HookDone 0, says.Hook 1) ∷ (ask.HookDone 0, says.Root 1) ∷
    (ask.State 1, says.State at.Gone status_is.Normal) ∷ (ask.State 2, says.State at.Gone status_is.Undone) ∷ (ask.Poll 0 0, says.Run 4) ∷
    (ask.End 0 ending.Try, says.Hook 4) ∷ (ask.HookDone 0, says.Spent 1) ∷ [])
unfolding computing
an_arrival_after_the_last_finds_the_trigger_spent = (refl, refl)

pub an_arrival_at_a_held_completer_is_early_and_it_fires_by_its_own_end : IsReplayed (pool_of Async 2 1 4 64)
    ((ask.Submit 0 (submitted.Completer true 0), says.Task 0) ∷ (ask.Poll 0 0, says.Run 0) ∷
    (ask.Fork 0 (Completer true 0 (Some 0)), says.Task 1) ∷ (ask.Poll 1 1, says.Run 1) ∷ (ask.End 1 ending.Try, says.Hook 1) ∷
    (ask.HookDone 1, says.Early 0) ∷ (ask.End 0 ending.Try, says.Hook 0) ∷ (ask.HookDone 0, says.Root 0) ∷ [])
unfolding computing
an_arrival_at_a_held_completer_is_early_and_it_fires_by_its_own_end = (refl, refl)

pub a_hook_goes_to_the_worker_whose_hook_ended_not_to_the_one_that_ran_the_completer : IsReplayed (pool_of Async 2 1 4 64)
    ((ask.Submit 0 (submitted.Completer true 0), says.Task 0) ∷ (ask.Poll 0 0, says.Run 0) ∷
    (ask.Fork 0 (Completer true 0 (Some 0)), says.Task 1) ∷ (ask.End 0 ending.Quiet, says.Done) ∷ (ask.Poll 1 0, says.Run 1) ∷
    (ask.End 1 ending.Try, says.Hook 1) ∷ (ask.HookDone 1, says.Hook 0) ∷ (ask.HookDone 0, says.Refused refused.NotRunning) ∷
    (ask.HookDone 1, says.Root 0) ∷ (ask.IsQuiescent, says.Yes) ∷ [])
unfolding computing
a_hook_goes_to_the_worker_whose_hook_ended_not_to_the_one_that_ran_the_completer = (refl, refl)

pub a_hook_goes_to_the_worker_whose_step_fired_it_though_another_ended_a_body_meanwhile : IsReplayed (pool_of Async 2 1 8 64)
    ((ask.Submit 0 submitted.Plain, says.Task 0) ∷ (ask.Submit 0 submitted.Plain, says.Task 1) ∷ (ask.Poll 0 0, says.Run 0) ∷
    (ask.Trigger 0 0, says.Task 2) ∷ (ask.Fork 0 (Completer true 0 (Some 2)), says.Task 3) ∷ (ask.Help 0 0, says.Run 3) ∷
    (ask.End 0 ending.Try, says.Hook 3) ∷ (ask.Poll 1 0, says.Run 1) ∷ (ask.End 1 ending.Ok, says.Done) ∷ (ask.HookDone 0, says.Hook 2) ∷
    (ask.HookDone 0, says.Root 2) ∷ (ask.IsQuiescent, says.No) ∷ [])
unfolding computing
a_hook_goes_to_the_worker_whose_step_fired_it_though_another_ended_a_body_meanwhile = (refl, refl)

pub the_hook_of_a_root_that_is_normal_already_ends_without_making_it_so : IsReplayed (pool_of Async 2 1 4 64)
    ((ask.Submit 0 (submitted.Completer true 1), says.Task 0) ∷ (ask.Submit 0 submitted.Plain, says.Task 1) ∷ (ask.Poll 0 0, says.Run 0) ∷
    (ask.Poll 1 0, says.Run 1) ∷ (ask.End 0 ending.Complete, says.Hook 0) ∷ (ask.QuietRoot 1 0, says.Root 0) ∷
    (ask.HookDone 0, says.Spent 0) ∷ (ask.State 0, says.State at.Gone status_is.Normal) ∷ [])
unfolding computing
the_hook_of_a_root_that_is_normal_already_ends_without_making_it_so = (refl, refl)

pub the_hook_of_a_released_child_ends_at_a_parent_that_a_stop_cancelled : IsReplayed (pool_of Async 1 1 4 64)
    ((ask.Submit 0 (submitted.Completer true 1), says.Task 0) ∷ (ask.Poll 0 0, says.Run 0) ∷
    (ask.Fork 0 (Completer true 3 (Some 0)), says.Task 1) ∷ (ask.End 0 ending.Quiet, says.Done) ∷ (ask.Poll 0 0, says.Run 1) ∷
    (ask.End 0 ending.Complete, says.Hook 1) ∷ (ask.Release 1, says.Done) ∷ (ask.Stop, says.Done) ∷ (ask.HookDone 0, says.Spent 0) ∷ [])
unfolding computing
the_hook_of_a_released_child_ends_at_a_parent_that_a_stop_cancelled = (refl, refl)

pub the_end_of_the_hook_of_a_released_child_where_the_arrival_does_not_fit : IsReplayed (pool_of Async 1 1 2 10)
    ((ask.Submit 0 (submitted.Completer true 1), says.Task 0) ∷ (ask.Poll 0 0, says.Run 0) ∷
    (ask.Fork 0 (Completer true 3 (Some 0)), says.Task 1) ∷ (ask.End 0 ending.Quiet, says.Done) ∷ (ask.Poll 0 0, says.Run 1) ∷
    (ask.End 0 ending.Complete, says.Hook 1) ∷ (ask.Release 1, says.Done) ∷ (ask.HookDone 0, says.Refused refused.LogFull) ∷
    (ask.IsQuiescent, says.No) ∷ (ask.State 0, says.State at.Open status_is.Undone) ∷ [])
unfolding computing
the_end_of_the_hook_of_a_released_child_where_the_arrival_does_not_fit = (refl, refl)
