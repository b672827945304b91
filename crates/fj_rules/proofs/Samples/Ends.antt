-- Ends of bodies.
use Rattle.std.specs.Prelude.{◌≡◌, true, false, [], ◌∷◌, Some, refl}
use Rattle.fj_rules.specs.declared.kind.SubmittedKind.TheVariants as submitted
use Rattle.fj_rules.specs.declared.place.Place.TheVariants as at
use Rattle.fj_rules.specs.declared.status.Status.TheVariants as status_is
use Rattle.fj_rules.specs.declared.step.Ending.TheVariants as ending
use Rattle.fj_rules.specs.declared.step.Step.TheVariants as ask
use Rattle.fj_rules.specs.declared.refusal.Refusal.TheVariants as refused
use Rattle.fj_rules.specs.declared.said.Said.TheVariants as says
use Rattle.fj_rules.specs.declared.owner.Owner.TheVariants.{Sub}
use Rattle.fj_rules.specs.declared.mode.Mode.TheVariants.{Async}
use Rattle.fj_rules.specs.declared.kind.Kind.TheVariants.{Completer}
use Rattle.fj_rules.specs.Places.{gone}
use Rattle.fj_rules.proofs.Samples.Scripts.{pool_of, IsReplayed, history_of, computing}

pub one_task_runs_to_its_end : IsReplayed (pool_of Async 1 1 1 4)
    ((ask.Submit 0 submitted.Plain, says.Task 0) ∷ (ask.Poll 0 0, says.Run 0) ∷ (ask.End 0 ending.Ok, says.Done) ∷ [])
unfolding computing
one_task_runs_to_its_end = (refl, refl)

pub a_pass_climbs_to_the_root_and_makes_it_normal : IsReplayed (pool_of Async 1 1 4 64)
    ((ask.Submit 0 (submitted.Completer true 0), says.Task 0) ∷ (ask.Poll 0 0, says.Run 0) ∷
    (ask.Fork 0 (Completer true 0 (Some 0)), says.Task 1) ∷ (ask.End 0 ending.Quiet, says.Done) ∷ (ask.Poll 0 0, says.Run 1) ∷
    (ask.Fork 0 (Completer true 0 (Some 1)), says.Task 2) ∷ (ask.End 0 ending.Quiet, says.Done) ∷ (ask.Poll 0 0, says.Run 2) ∷
    (ask.End 0 ending.Pass, says.Root 0) ∷ (ask.State 0, says.State at.Gone status_is.Normal) ∷
    (ask.State 1, says.State at.Gone status_is.Undone) ∷ [])
unfolding computing
a_pass_climbs_to_the_root_and_makes_it_normal = (refl, refl)

pub a_pass_is_early_at_a_queued_parent : IsReplayed (pool_of Async 1 1 4 64)
    ((ask.Submit 0 submitted.Plain, says.Task 0) ∷ (ask.Submit 0 (submitted.Completer true 0), says.Task 1) ∷ (ask.Poll 0 0, says.Run 0) ∷
    (ask.Fork 0 (Completer true 0 (Some 1)), says.Task 2) ∷ (ask.Help 0 0, says.Run 2) ∷ (ask.End 0 ending.Pass, says.Early 1) ∷
    (ask.State 2, says.State at.Gone status_is.Undone) ∷ (ask.State 1, says.State (at.Queued (Sub 0)) status_is.Undone) ∷ [])
unfolding computing
a_pass_is_early_at_a_queued_parent = (refl, refl)

pub an_early_arrival_and_then_a_count_that_is_added_fire_nothing : IsReplayed (pool_of Async 1 1 4 64)
    ((ask.Submit 0 (submitted.Completer true 0), says.Task 0) ∷ (ask.Poll 0 0, says.Run 0) ∷
    (ask.Fork 0 (Completer true 0 (Some 0)), says.Task 1) ∷ (ask.Help 0 0, says.Run 1) ∷ (ask.End 0 ending.Try, says.Hook 1) ∷
    (ask.HookDone 0, says.Early 0) ∷ (ask.Add 0 0 1, says.Count 1) ∷ (ask.End 0 ending.Try, says.Counted 0) ∷
    (ask.State 0, says.State at.Open status_is.Undone) ∷ (ask.IsQuiescent, says.Yes) ∷ [])
unfolding computing
an_early_arrival_and_then_a_count_that_is_added_fire_nothing = (refl, refl)

pub a_complete_fires_at_any_count : IsReplayed (pool_of Async 1 1 1 64)
    ((ask.Submit 0 (submitted.Completer true 5), says.Task 0) ∷ (ask.Poll 0 0, says.Run 0) ∷ (ask.Add 0 0 2, says.Count 7) ∷
    (ask.Add 0 0 65535, says.Refused refused.CountTooLarge) ∷ (ask.End 0 ending.Ok, says.Refused refused.NotCompleter) ∷
    (ask.End 0 ending.Complete, says.Hook 0) ∷ (ask.Poll 0 0, says.Refused refused.NotIdle) ∷ (ask.HookDone 0, says.Root 0) ∷
    (ask.HookDone 0, says.Refused refused.NotRunning) ∷ [])
unfolding computing
a_complete_fires_at_any_count = (refl, refl)

pub a_complete_leaves_the_count : IsReplayed (pool_of Async 2 1 4 64)
    ((ask.Submit 0 (submitted.Completer true 2), says.Task 0) ∷ (ask.Submit 0 submitted.Plain, says.Task 1) ∷ (ask.Poll 0 0, says.Run 0) ∷
    (ask.Poll 1 0, says.Run 1) ∷ (ask.End 0 ending.Complete, says.Hook 0) ∷ (ask.Add 1 0 0, says.Count 2) ∷
    (ask.State 0, says.State at.Gone status_is.Undone) ∷ (ask.HookDone 0, says.Root 0) ∷
    (ask.State 0, says.State at.Gone status_is.Normal) ∷ [])
unfolding computing
a_complete_leaves_the_count = (refl, refl)

pub a_complete_of_a_done_completer_fires_nothing : IsReplayed (pool_of Async 2 1 8 64)
    ((ask.Submit 0 (submitted.Completer true 0), says.Task 0) ∷ (ask.Poll 0 0, says.Run 0) ∷ (ask.QuietRoot 0 0, says.Root 0) ∷
    (ask.End 0 ending.Complete, says.Spent 0) ∷ (ask.State 0, says.State at.Gone status_is.Normal) ∷ [])
unfolding computing
a_complete_of_a_done_completer_fires_nothing = (refl, refl)

pub a_code_goes_up_to_the_parent_that_says_stop : IsReplayed (pool_of Async 1 1 4 64)
    ((ask.Submit 0 (submitted.Completer true 0), says.Task 0) ∷ (ask.Poll 0 0, says.Run 0) ∷
    (ask.Fork 0 (Completer false 0 (Some 0)), says.Task 1) ∷ (ask.End 0 ending.Quiet, says.Done) ∷ (ask.Poll 0 0, says.Run 1) ∷
    (ask.Fork 0 (Completer true 0 (Some 1)), says.Task 2) ∷ (ask.End 0 ending.Quiet, says.Done) ∷ (ask.Poll 0 0, says.Run 2) ∷
    (ask.Fork 0 (Completer true 0 (Some 2)), says.Task 3) ∷ (ask.End 0 ending.Quiet, says.Done) ∷ (ask.Poll 0 0, says.Run 3) ∷
    (ask.End 0 (ending.Fail 7), says.Done) ∷ (ask.State 3, says.State at.Gone (status_is.Exceptional 7)) ∷
    (ask.State 2, says.State at.Gone (status_is.Exceptional 7)) ∷ (ask.State 1, says.State at.Gone (status_is.Exceptional 7)) ∷
    (ask.State 0, says.State at.Open status_is.Undone) ∷ [])
unfolding computing
a_code_goes_up_to_the_parent_that_says_stop = (refl, refl)

pub a_body_that_is_done_already_ends_and_its_code_is_lost : IsReplayed (pool_of Async 1 1 4 64)
    ((ask.Submit 0 (submitted.Completer true 1), says.Task 0) ∷ (ask.Poll 0 0, says.Run 0) ∷
    (ask.Fork 0 (Completer true 0 (Some 0)), says.Task 1) ∷ (ask.End 0 ending.Quiet, says.Done) ∷ (ask.Poll 0 0, says.Run 1) ∷
    (ask.Cancel 1, says.Yes) ∷ (ask.End 0 (ending.Fail 7), says.Done) ∷ (ask.State 1, says.State at.Gone status_is.Cancelled) ∷
    (ask.State 0, says.State at.Open status_is.Undone) ∷ [])
unfolding computing
a_body_that_is_done_already_ends_and_its_code_is_lost = (refl, refl)

pub a_parent_whose_hook_is_in_hand_takes_the_code : IsReplayed (pool_of Async 2 1 4 64)
    ((ask.Submit 0 (submitted.Completer true 0), says.Task 0) ∷ (ask.Poll 0 0, says.Run 0) ∷
    (ask.Fork 0 (Completer true 0 (Some 0)), says.Task 1) ∷ (ask.End 0 ending.Try, says.Hook 0) ∷ (ask.Poll 1 0, says.Run 1) ∷
    (ask.End 1 (ending.Fail 7), says.Done) ∷ (ask.State 1, says.State at.Gone (status_is.Exceptional 7)) ∷
    (ask.State 0, says.State at.Gone (status_is.Exceptional 7)) ∷ (ask.HookDone 0, says.Spent 0) ∷ [])
unfolding computing
a_parent_whose_hook_is_in_hand_takes_the_code = (refl, refl)

pub a_relayed_code_makes_open_tasks_gone_upward :
    gone (history_of (pool_of Async 1 1 4 64) (ask.Submit 0 (submitted.Completer true 1) ∷ ask.Poll 0 0 ∷
    ask.Fork 0 (Completer true 1 (Some 0)) ∷ ask.End 0 ending.Quiet ∷ ask.Poll 0 0 ∷ ask.Fork 0 (Completer true 0 (Some 1)) ∷
    ask.End 0 ending.Quiet ∷ ask.Poll 0 0 ∷ ask.End 0 (ending.Fail 5) ∷ []))
    ≡ 2 ∷ 1 ∷ 0 ∷ []
unfolding computing
a_relayed_code_makes_open_tasks_gone_upward = refl

pub a_failing_end_that_does_not_fit_leaves_its_task_held_and_undone : IsReplayed (pool_of Async 1 1 4 3)
    ((ask.Submit 0 submitted.Plain, says.Task 0) ∷ (ask.Poll 0 0, says.Run 0) ∷ (ask.End 0 (ending.Fail 7), says.Refused refused.LogFull) ∷
    (ask.State 0, says.State (at.Held 0) status_is.Undone) ∷ [])
unfolding computing
a_failing_end_that_does_not_fit_leaves_its_task_held_and_undone = (refl, refl)
