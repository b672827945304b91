-- Names: whose each is, and what one stands for that is nobody's.
use Rattle.std.specs.Prelude.{true, [], ◌∷◌, Some, None, refl, codes}
use Rattle.fj_rules.specs.declared.kind.SubmittedKind.TheVariants as submitted
use Rattle.fj_rules.specs.declared.mode.Mode.TheVariants.{Async}
use Rattle.fj_rules.specs.declared.owner.Owner.TheVariants.{Sub}
use Rattle.fj_rules.specs.declared.place.Place.TheVariants as at
use Rattle.fj_rules.specs.declared.refusal.Refusal.TheVariants as refused
use Rattle.fj_rules.specs.declared.said.Said.TheVariants as says
use Rattle.fj_rules.specs.declared.status.Status.TheVariants as status_is
use Rattle.fj_rules.specs.declared.step.Ending.TheVariants as ending
use Rattle.fj_rules.proofs.Samples.Scripts.{pool_of}
use Rattle.fj_lines.specs.declared.line.ForkedKind.TheVariants as forked
use Rattle.fj_lines.specs.declared.line.Line.TheVariants.{Submit, Fork, Poll, End, Cancel, State, Release, Seal, Epoch}
use Rattle.fj_replay.specs.declared.replied.Replied.TheVariants.{Said, NameTaken, Sealed, Epoch as EpochIs}
use Rattle.fj_replay.proofs.Samples.Played.{IsReplied, computing}

pub a_name_belongs_to_its_task_across_a_seal : IsReplied (pool_of Async 1 1 2 4)
    ((Submit (codes "a") 0 submitted.Plain, Said (says.Task 0)) ∷ (Poll 0 0, Said (says.Run 0)) ∷ (End 0 ending.Ok, Said says.Done) ∷ (Seal, Sealed 0 4) ∷ (Epoch, EpochIs 1 0) ∷
    (Submit (codes "a") 0 submitted.Plain, NameTaken) ∷ (Submit (codes "b") 0 submitted.Plain, Said (says.Task 1)) ∷ (Seal, Said (says.Refused refused.NotIdle)) ∷
    (State (codes "b"), Said (says.State (at.Queued (Sub 0)) status_is.Undone)) ∷ (Cancel (codes "c"), Said (says.Refused refused.Unknown)) ∷ [])
unfolding computing
a_name_belongs_to_its_task_across_a_seal = refl

pub a_name_of_a_refused_step_is_nobodys : IsReplied (pool_of Async 1 1 1 4)
    ((Submit (codes "t0") 0 submitted.Plain, Said (says.Task 0)) ∷ (Submit (codes "t1") 0 submitted.Plain, Said (says.Refused refused.TooManyTasks)) ∷
    (Cancel (codes "t0"), Said says.Yes) ∷ (State (codes "t1"), Said (says.Refused refused.Unknown)) ∷ [])
unfolding computing
a_name_of_a_refused_step_is_nobodys = refl

pub a_name_outlives_its_task_and_one_given_back_is_given_again : IsReplied (pool_of Async 1 1 1 16)
    ((Submit (codes "a") 0 submitted.Plain, Said (says.Task 0)) ∷ (Submit (codes "b") 0 submitted.Plain, Said (says.Refused refused.TooManyTasks)) ∷
    (Poll 0 0, Said (says.Run 0)) ∷ (End 0 ending.Ok, Said says.Done) ∷ (Release (codes "a"), Said says.Done) ∷ (State (codes "a"), Said (says.Refused refused.Unknown)) ∷
    (Submit (codes "a") 0 submitted.Plain, NameTaken) ∷ (Submit (codes "b") 0 submitted.Plain, Said (says.Task 1)) ∷ (Poll 0 0, Said (says.Run 1)) ∷ [])
unfolding computing
a_name_outlives_its_task_and_one_given_back_is_given_again = refl

pub a_taken_name_is_told_before_a_refusal_of_the_machine : IsReplied (pool_of Async 1 1 1 8)
    ((Submit (codes "a") 0 submitted.Plain, Said (says.Task 0)) ∷ (Submit (codes "a") 9 submitted.Plain, NameTaken) ∷ (Submit (codes "b") 9 submitted.Plain, Said (says.Refused refused.NoSuch)) ∷ [])
unfolding computing
a_taken_name_is_told_before_a_refusal_of_the_machine = refl

pub a_parent_without_a_task_is_unknown_and_so_is_the_task_itself : IsReplied (pool_of Async 1 1 4 64)
    ((Submit (codes "a") 0 submitted.Plain, Said (says.Task 0)) ∷ (Poll 0 0, Said (says.Run 0)) ∷
    (Fork (codes "b") 0 (forked.Completer true 0 (Some (codes "c"))), Said (says.Refused refused.Unknown)) ∷
    (Fork (codes "b") 0 (forked.Completer true 0 (Some (codes "b"))), Said (says.Refused refused.Unknown)) ∷
    (Fork (codes "b") 0 (forked.Completer true 0 None), Said (says.Task 1)) ∷
    (Fork (codes "c") 0 (forked.Completer true 0 (Some (codes "b"))), Said (says.Task 2)) ∷ (Epoch, EpochIs 0 4) ∷ [])
unfolding computing
a_parent_without_a_task_is_unknown_and_so_is_the_task_itself = refl
