-- Shutdowns and stops.
use Rattle.std.specs.Prelude.{◌≡◌, true, [], ◌∷◌, refl}
use Rattle.fj_rules.specs.declared.kind.SubmittedKind.TheVariants as submitted
use Rattle.fj_rules.specs.declared.place.Place.TheVariants as at
use Rattle.fj_rules.specs.declared.status.Status.TheVariants as status_is
use Rattle.fj_rules.specs.declared.step.Ending.TheVariants as ending
use Rattle.fj_rules.specs.declared.step.Step.TheVariants as ask
use Rattle.fj_rules.specs.declared.refusal.Refusal.TheVariants as refused
use Rattle.fj_rules.specs.declared.said.Said.TheVariants as says
use Rattle.fj_rules.specs.declared.owner.Owner.TheVariants.{Sub}
use Rattle.fj_rules.specs.declared.mode.Mode.TheVariants.{Async}
use Rattle.fj_rules.specs.declared.kind.Kind.TheVariants.{Plain}
use Rattle.fj_rules.specs.Places.{gone}
use Rattle.fj_rules.proofs.Samples.Scripts.{pool_of, IsReplayed, history_of, computing}

pub a_shutdown_refuses_submissions_and_no_forks_and_a_stop_refuses_both : IsReplayed (pool_of Async 1 1 4 64)
    ((ask.Submit 0 submitted.Plain, says.Task 0) ∷ (ask.Poll 0 0, says.Run 0) ∷ (ask.Shutdown, says.Done) ∷
    (ask.Submit 0 submitted.Plain, says.Refused refused.Closed) ∷ (ask.Fork 0 Plain, says.Task 1) ∷ (ask.Shutdown, says.Done) ∷
    (ask.Stop, says.Done) ∷ (ask.Fork 0 Plain, says.Refused refused.Closed) ∷ (ask.End 0 ending.Ok, says.Done) ∷
    (ask.Poll 0 0, says.Skip 1) ∷ (ask.IsQuiescent, says.Yes) ∷ (ask.State 0, says.State at.Gone status_is.Cancelled) ∷ [])
unfolding computing
a_shutdown_refuses_submissions_and_no_forks_and_a_stop_refuses_both = (refl, refl)

pub a_stop_makes_open_completers_gone_and_queued_tasks_are_skipped : IsReplayed (pool_of Async 1 1 4 64)
    ((ask.Submit 0 (submitted.Completer true 1), says.Task 0) ∷ (ask.Poll 0 0, says.Run 0) ∷ (ask.End 0 ending.Quiet, says.Done) ∷
    (ask.State 0, says.State at.Open status_is.Undone) ∷ (ask.Submit 0 submitted.Plain, says.Task 1) ∷ (ask.Stop, says.Done) ∷
    (ask.State 0, says.State at.Gone status_is.Cancelled) ∷ (ask.State 1, says.State (at.Queued (Sub 0)) status_is.Cancelled) ∷
    (ask.Poll 0 0, says.Skip 1) ∷ (ask.IsQuiescent, says.Yes) ∷ (ask.Stop, says.Done) ∷ (ask.Shutdown, says.Done) ∷
    (ask.Submit 0 submitted.Plain, says.Refused refused.Closed) ∷ [])
unfolding computing
a_stop_makes_open_completers_gone_and_queued_tasks_are_skipped = (refl, refl)

pub what_was_accepted_before_a_shutdown_is_handed_out_after_it : IsReplayed (pool_of Async 1 1 4 64)
    ((ask.Submit 0 submitted.Plain, says.Task 0) ∷ (ask.Submit 0 (submitted.Completer true 1), says.Task 1) ∷ (ask.Shutdown, says.Done) ∷
    (ask.State 0, says.State (at.Queued (Sub 0)) status_is.Undone) ∷ (ask.Poll 0 0, says.Run 0) ∷ (ask.End 0 ending.Ok, says.Done) ∷
    (ask.Poll 0 0, says.Run 1) ∷ (ask.Trigger 0 0, says.Task 2) ∷ (ask.End 0 ending.Try, says.Counted 1) ∷
    (ask.State 0, says.State at.Gone status_is.Normal) ∷ [])
unfolding computing
what_was_accepted_before_a_shutdown_is_handed_out_after_it = (refl, refl)

pub a_done_task_keeps_its_status_at_a_stop : IsReplayed (pool_of Async 1 1 4 64)
    ((ask.Submit 0 submitted.Plain, says.Task 0) ∷ (ask.Submit 0 submitted.Plain, says.Task 1) ∷
    (ask.Submit 0 submitted.Plain, says.Task 2) ∷ (ask.Poll 0 0, says.Run 0) ∷ (ask.End 0 ending.Ok, says.Done) ∷
    (ask.Fault 1 7, says.Yes) ∷ (ask.Cancel 2, says.Yes) ∷ (ask.Stop, says.Done) ∷ (ask.State 0, says.State at.Gone status_is.Normal) ∷
    (ask.State 1, says.State (at.Queued (Sub 0)) (status_is.Exceptional 7)) ∷
    (ask.State 2, says.State (at.Queued (Sub 0)) status_is.Cancelled) ∷ [])
unfolding computing
a_done_task_keeps_its_status_at_a_stop = (refl, refl)

pub a_stop_makes_open_tasks_gone_by_rising_number :
    gone (history_of (pool_of Async 2 1 4 64) (ask.Submit 0 (submitted.Completer true 1) ∷ ask.Submit 0 (submitted.Completer true 1) ∷
    ask.Poll 0 0 ∷ ask.Poll 1 0 ∷ ask.Trigger 0 1 ∷ ask.End 1 ending.Quiet ∷ ask.End 0 ending.Quiet ∷ ask.Stop ∷ []))
    ≡ 0 ∷ 1 ∷ 2 ∷ []
unfolding computing
a_stop_makes_open_tasks_gone_by_rising_number = refl

-- a second stop and a shutdown append nothing, so they are not refused
pub a_stop_where_it_just_fits : IsReplayed (pool_of Async 1 1 1 2)
    ((ask.Submit 0 submitted.Plain, says.Task 0) ∷ (ask.Stop, says.Done) ∷ (ask.Stop, says.Done) ∷ (ask.Shutdown, says.Done) ∷
    (ask.State 0, says.State (at.Queued (Sub 0)) status_is.Cancelled) ∷ (ask.Poll 0 0, says.Refused refused.LogFull) ∷ [])
unfolding computing
a_stop_where_it_just_fits = (refl, refl)
