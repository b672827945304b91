-- Polls, helps and joins.
use Rattle.std.specs.Prelude.{[], ◌∷◌, refl}
use Rattle.fj_rules.specs.declared.kind.SubmittedKind.TheVariants as submitted
use Rattle.fj_rules.specs.declared.place.Place.TheVariants as at
use Rattle.fj_rules.specs.declared.status.Status.TheVariants as status_is
use Rattle.fj_rules.specs.declared.step.Ending.TheVariants as ending
use Rattle.fj_rules.specs.declared.step.Step.TheVariants as ask
use Rattle.fj_rules.specs.declared.refusal.Refusal.TheVariants as refused
use Rattle.fj_rules.specs.declared.said.Said.TheVariants as says
use Rattle.fj_rules.specs.declared.owner.Owner.TheVariants.{Sub}
use Rattle.fj_rules.specs.declared.mode.Mode.TheVariants.{Async, Joining}
use Rattle.fj_rules.specs.declared.kind.Kind.TheVariants.{Plain}
use Rattle.fj_rules.proofs.Samples.Scripts.{pool_of, IsReplayed, computing}

pub a_poll_scans_from_its_word : IsReplayed (pool_of Async 2 2 8 64)
    ((ask.Submit 1 submitted.Plain, says.Task 0) ∷ (ask.Submit 0 submitted.Plain, says.Task 1) ∷
    (ask.Submit 1 submitted.Plain, says.Task 2) ∷ (ask.Poll 0 1, says.Run 0) ∷ (ask.Poll 1 1, says.Run 2) ∷
    (ask.End 0 ending.Ok, says.Done) ∷ (ask.Poll 0 0, says.Run 1) ∷ (ask.End 0 ending.Ok, says.Done) ∷ (ask.Poll 0 3, says.None) ∷ [])
unfolding computing
a_poll_scans_from_its_word = (refl, refl)

pub a_joining_worker_helps_with_its_newest_task_and_a_thief_takes_the_oldest : IsReplayed (pool_of Joining 2 1 8 64)
    ((ask.Submit 0 submitted.Plain, says.Task 0) ∷ (ask.Poll 0 0, says.Run 0) ∷ (ask.Fork 0 Plain, says.Task 1) ∷
    (ask.Fork 0 Plain, says.Task 2) ∷ (ask.Fork 0 Plain, says.Task 3) ∷ (ask.Help 0 0, says.Run 3) ∷ (ask.Poll 1 0, says.Run 1) ∷ [])
unfolding computing
a_joining_worker_helps_with_its_newest_task_and_a_thief_takes_the_oldest = (refl, refl)

pub an_async_worker_helps_with_its_oldest_task_and_a_thief_takes_the_next : IsReplayed (pool_of Async 2 1 8 64)
    ((ask.Submit 0 submitted.Plain, says.Task 0) ∷ (ask.Poll 0 0, says.Run 0) ∷ (ask.Fork 0 Plain, says.Task 1) ∷
    (ask.Fork 0 Plain, says.Task 2) ∷ (ask.Fork 0 Plain, says.Task 3) ∷ (ask.Help 0 0, says.Run 1) ∷ (ask.Poll 1 0, says.Run 2) ∷ [])
unfolding computing
an_async_worker_helps_with_its_oldest_task_and_a_thief_takes_the_next = (refl, refl)

pub a_cancelled_task_is_skipped : IsReplayed (pool_of Async 1 1 4 64)
    ((ask.Submit 0 submitted.Plain, says.Task 0) ∷ (ask.Submit 0 submitted.Plain, says.Task 1) ∷
    (ask.Submit 0 submitted.Plain, says.Task 2) ∷ (ask.Cancel 1, says.Yes) ∷
    (ask.State 1, says.State (at.Queued (Sub 0)) status_is.Cancelled) ∷ (ask.Poll 0 0, says.Run 0) ∷ (ask.End 0 ending.Ok, says.Done) ∷
    (ask.Poll 0 0, says.Skip 1) ∷ (ask.Poll 0 0, says.Run 2) ∷ (ask.State 1, says.State at.Gone status_is.Cancelled) ∷ [])
unfolding computing
a_cancelled_task_is_skipped = (refl, refl)

pub a_join_helps_until_the_task_is_done : IsReplayed (pool_of Async 1 1 4 64)
    ((ask.Submit 0 submitted.Plain, says.Task 0) ∷ (ask.Poll 0 0, says.Run 0) ∷ (ask.Join 0 0 0, says.Refused refused.OwnStack) ∷
    (ask.Fork 0 Plain, says.Task 1) ∷ (ask.Fork 0 Plain, says.Task 2) ∷ (ask.Join 0 2 0, says.Run 1) ∷ (ask.End 0 ending.Ok, says.Done) ∷
    (ask.Join 0 1 0, says.Normal) ∷ [])
unfolding computing
a_join_helps_until_the_task_is_done = (refl, refl)

pub a_join_in_joining_mode_takes_the_newest_task : IsReplayed (pool_of Joining 1 1 4 64)
    ((ask.Submit 0 submitted.Plain, says.Task 0) ∷ (ask.Poll 0 0, says.Run 0) ∷ (ask.Join 0 0 0, says.Refused refused.OwnStack) ∷
    (ask.Fork 0 Plain, says.Task 1) ∷ (ask.Fork 0 Plain, says.Task 2) ∷ (ask.Join 0 2 0, says.Run 2) ∷ [])
unfolding computing
a_join_in_joining_mode_takes_the_newest_task = (refl, refl)

pub a_join_of_a_done_task_needs_a_running_task : IsReplayed (pool_of Async 2 1 8 64)
    ((ask.Submit 0 submitted.Plain, says.Task 0) ∷ (ask.Stop, says.Done) ∷ (ask.Join 1 0 0, says.Refused refused.NotRunning) ∷ [])
unfolding computing
a_join_of_a_done_task_needs_a_running_task = (refl, refl)

pub a_join_is_not_refused_for_the_stack_of_another_worker : IsReplayed (pool_of Async 2 1 8 64)
    ((ask.Submit 0 submitted.Plain, says.Task 0) ∷ (ask.Poll 1 0, says.Run 0) ∷ (ask.Submit 0 submitted.Plain, says.Task 1) ∷
    (ask.Poll 0 0, says.Run 1) ∷ (ask.Join 0 0 0, says.None) ∷ [])
unfolding computing
a_join_is_not_refused_for_the_stack_of_another_worker = (refl, refl)

pub a_help_without_a_choice_is_made_at_a_full_history : IsReplayed (pool_of Async 1 1 8 2)
    ((ask.Submit 0 submitted.Plain, says.Task 0) ∷ (ask.Poll 0 0, says.Run 0) ∷ (ask.Help 0 0, says.None) ∷
    (ask.Join 0 0 0, says.Refused refused.OwnStack) ∷ (ask.Fork 0 Plain, says.Refused refused.LogFull) ∷ [])
unfolding computing
a_help_without_a_choice_is_made_at_a_full_history = (refl, refl)
