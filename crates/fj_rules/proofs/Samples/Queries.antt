-- Quiescence, and what the lists show.
use Rattle.std.specs.Prelude.{◌≡◌, true, [], ◌∷◌, refl}
use Rattle.fj_rules.specs.declared.kind.SubmittedKind.TheVariants as submitted
use Rattle.fj_rules.specs.declared.step.Ending.TheVariants as ending
use Rattle.fj_rules.specs.declared.step.Step.TheVariants as ask
use Rattle.fj_rules.specs.declared.said.Said.TheVariants as says
use Rattle.fj_rules.specs.declared.mode.Mode.TheVariants.{Async}
use Rattle.fj_rules.specs.declared.kind.Kind.TheVariants.{Plain}
use Rattle.fj_rules.specs.Places.{open_tasks}
use Rattle.fj_rules.proofs.Samples.Scripts.{pool_of, IsReplayed, history_of, computing}

pub not_quiescent_with_a_task_in_the_queue_of_a_worker_alone : IsReplayed (pool_of Async 1 1 8 64)
    ((ask.Submit 0 submitted.Plain, says.Task 0) ∷ (ask.Poll 0 0, says.Run 0) ∷ (ask.Fork 0 Plain, says.Task 1) ∷
    (ask.End 0 ending.Ok, says.Done) ∷ (ask.IsQuiescent, says.No) ∷ [])
unfolding computing
not_quiescent_with_a_task_in_the_queue_of_a_worker_alone = (refl, refl)

pub open_tasks_stand_as_they_became_open :
    open_tasks (history_of (pool_of Async 2 1 4 64) (ask.Submit 0 (submitted.Completer true 1) ∷ ask.Submit 0 (submitted.Completer true 1) ∷
    ask.Poll 0 0 ∷ ask.Poll 1 0 ∷ ask.Trigger 0 1 ∷ ask.End 1 ending.Quiet ∷ ask.End 0 ending.Quiet ∷ []))
    ≡ 2 ∷ 1 ∷ 0 ∷ []
unfolding computing
open_tasks_stand_as_they_became_open = refl
