-- Which refusal comes first, and that a step without events is never refused for a full history.
use Rattle.std.specs.Prelude.{true, [], ◌∷◌, Some, None, refl}
use Rattle.fj_rules.specs.declared.kind.SubmittedKind.TheVariants as submitted
use Rattle.fj_rules.specs.declared.place.Place.TheVariants as at
use Rattle.fj_rules.specs.declared.status.Status.TheVariants as status_is
use Rattle.fj_rules.specs.declared.step.Ending.TheVariants as ending
use Rattle.fj_rules.specs.declared.step.Step.TheVariants as ask
use Rattle.fj_rules.specs.declared.refusal.Refusal.TheVariants as refused
use Rattle.fj_rules.specs.declared.said.Said.TheVariants as says
use Rattle.fj_rules.specs.declared.mode.Mode.TheVariants.{Async}
use Rattle.fj_rules.specs.declared.kind.Kind.TheVariants.{Plain, Completer}
use Rattle.fj_rules.proofs.Samples.Scripts.{pool_of, IsReplayed, computing}

pub too_large_a_count_comes_before_too_many_tasks : IsReplayed (pool_of Async 1 1 1 64)
    ((ask.Submit 0 (submitted.Completer true 0), says.Task 0) ∷ (ask.Poll 0 0, says.Run 0) ∷
    (ask.Submit 0 (submitted.Completer true 65536), says.Refused refused.CountTooLarge) ∷
    (ask.Submit 0 (submitted.Completer true 0), says.Refused refused.TooManyTasks) ∷
    (ask.Fork 0 (Completer true 65536 (Some 0)), says.Refused refused.CountTooLarge) ∷
    (ask.Fork 0 (Completer true 0 (Some 0)), says.Refused refused.TooManyTasks) ∷
    (ask.Trigger 0 65536, says.Refused refused.CountTooLarge) ∷ (ask.Trigger 0 0, says.Refused refused.TooManyTasks) ∷ [])
unfolding computing
too_large_a_count_comes_before_too_many_tasks = (refl, refl)

pub a_fork_and_a_trigger_are_refused_for_the_first_cause : IsReplayed (pool_of Async 1 1 1 64)
    ((ask.Submit 0 submitted.Plain, says.Task 0) ∷ (ask.Fork 0 Plain, says.Refused refused.NotRunning) ∷ (ask.Poll 0 0, says.Run 0) ∷
    (ask.Stop, says.Done) ∷ (ask.Fork 1 Plain, says.Refused refused.NoSuch) ∷
    (ask.Fork 0 (Completer true 0 (Some 9)), says.Refused refused.Unknown) ∷
    (ask.Fork 0 (Completer true 0 (Some 0)), says.Refused refused.NotCompleter) ∷
    (ask.Fork 0 (Completer true 65536 None), says.Refused refused.Closed) ∷ (ask.Trigger 0 65536, says.Refused refused.Closed) ∷
    (ask.Trigger 0 0, says.Refused refused.Closed) ∷ (ask.Fork 0 Plain, says.Refused refused.Closed) ∷ [])
unfolding computing
a_fork_and_a_trigger_are_refused_for_the_first_cause = (refl, refl)

pub each_of_these_comes_before_a_full_history : IsReplayed (pool_of Async 2 2 8 3)
    ((ask.Submit 0 submitted.Plain, says.Task 0) ∷ (ask.Poll 0 0, says.Run 0) ∷ (ask.Fork 0 Plain, says.Task 1) ∷
    (ask.Submit 9 submitted.Plain, says.Refused refused.NoSuch) ∷
    (ask.Submit 0 (submitted.Completer true 65536), says.Refused refused.CountTooLarge) ∷
    (ask.Fork 1 Plain, says.Refused refused.NotRunning) ∷ (ask.Fork 0 (Completer true 0 (Some 9)), says.Refused refused.Unknown) ∷
    (ask.Fork 0 (Completer true 0 (Some 0)), says.Refused refused.NotCompleter) ∷
    (ask.Trigger 0 65536, says.Refused refused.CountTooLarge) ∷ (ask.Poll 0 0, says.Refused refused.NotIdle) ∷
    (ask.Join 0 9 0, says.Refused refused.Unknown) ∷ (ask.Join 0 0 0, says.Refused refused.OwnStack) ∷
    (ask.End 0 ending.Quiet, says.Refused refused.NotCompleter) ∷ (ask.Add 0 9 1, says.Refused refused.Unknown) ∷
    (ask.QuietRoot 0 0, says.Refused refused.NotCompleter) ∷ (ask.HookDone 0, says.Refused refused.NotRunning) ∷
    (ask.Cancel 9, says.Refused refused.Unknown) ∷ (ask.Fault 9 1, says.Refused refused.Unknown) ∷
    (ask.Release 0, says.Refused refused.NotDone) ∷ (ask.Fork 0 Plain, says.Refused refused.LogFull) ∷
    (ask.Cancel 0, says.Refused refused.LogFull) ∷ (ask.End 0 ending.Ok, says.Refused refused.LogFull) ∷ [])
unfolding computing
each_of_these_comes_before_a_full_history = (refl, refl)

pub a_hook_in_hand_comes_before_a_full_history_and_so_does_a_task_that_is_named_as_a_parent : IsReplayed (pool_of Async 2 1 8 5)
    ((ask.Submit 0 (submitted.Completer true 1), says.Task 0) ∷ (ask.Poll 0 0, says.Run 0) ∷
    (ask.Fork 0 (Completer true 0 (Some 0)), says.Task 1) ∷ (ask.End 0 ending.Complete, says.Hook 0) ∷
    (ask.Fork 0 Plain, says.Refused refused.NotIdle) ∷ (ask.End 0 ending.Ok, says.Refused refused.NotIdle) ∷
    (ask.Add 0 0 65535, says.Refused refused.NotIdle) ∷ (ask.Release 0, says.Refused refused.NotDone) ∷
    (ask.HookDone 0, says.Refused refused.LogFull) ∷ [])
unfolding computing
a_hook_in_hand_comes_before_a_full_history_and_so_does_a_task_that_is_named_as_a_parent = (refl, refl)

pub what_appends_nothing_is_made_at_a_full_history : IsReplayed (pool_of Async 1 1 4 4)
    ((ask.Submit 0 (submitted.Completer true 1), says.Task 0) ∷ (ask.Poll 0 0, says.Run 0) ∷
    (ask.Fork 0 (Completer true 0 (Some 0)), says.Task 1) ∷ (ask.QuietRoot 0 0, says.Root 0) ∷ (ask.QuietRoot 0 1, says.Spent 0) ∷
    (ask.Add 0 0 0, says.Refused refused.LogFull) ∷ (ask.End 0 ending.Quiet, says.Refused refused.LogFull) ∷
    (ask.Help 0 0, says.Refused refused.LogFull) ∷ (ask.Submit 0 (submitted.Completer true 0), says.Refused refused.LogFull) ∷
    (ask.Trigger 0 0, says.Refused refused.LogFull) ∷ (ask.State 0, says.State (at.Held 0) status_is.Normal) ∷
    (ask.Join 0 0 0, says.Normal) ∷ (ask.Join 0 1 0, says.Refused refused.LogFull) ∷ [])
unfolding computing
what_appends_nothing_is_made_at_a_full_history = (refl, refl)
