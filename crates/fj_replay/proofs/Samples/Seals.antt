-- Seals in a script.
use Rattle.std.specs.Prelude.{[], ◌∷◌, refl, codes}
use Rattle.fj_rules.specs.declared.kind.SubmittedKind.TheVariants as submitted
use Rattle.fj_rules.specs.declared.mode.Mode.TheVariants.{Async}
use Rattle.fj_rules.specs.declared.refusal.Refusal.TheVariants as refused
use Rattle.fj_rules.specs.declared.said.Said.TheVariants as says
use Rattle.fj_rules.specs.declared.step.Ending.TheVariants as ending
use Rattle.fj_rules.proofs.Samples.Scripts.{pool_of}
use Rattle.fj_lines.specs.declared.line.Line.TheVariants.{Submit, Poll, End, Shutdown, Seal, Epoch}
use Rattle.fj_replay.specs.declared.replied.Replied.TheVariants.{Said, Sealed, Epoch as EpochIs}
use Rattle.fj_replay.proofs.Samples.Played.{IsReplied, computing}

-- the number of the epoch that was sealed, and of its own events
pub a_seal_tells_the_epoch_before_it_and_that_epochs_events : IsReplied (pool_of Async 1 1 2 4)
    ((Epoch, EpochIs 0 0) ∷ (Submit (codes "a") 0 submitted.Plain, Said (says.Task 0)) ∷ (Poll 0 0, Said (says.Run 0)) ∷ (End 0 ending.Ok, Said says.Done) ∷ (Epoch, EpochIs 0 4) ∷
    (Seal, Sealed 0 4) ∷ (Seal, Sealed 1 0) ∷ (Submit (codes "b") 0 submitted.Plain, Said (says.Task 1)) ∷ (Epoch, EpochIs 2 1) ∷ (Seal, Said (says.Refused refused.NotIdle)) ∷
    (Poll 0 0, Said (says.Run 1)) ∷ (End 0 ending.Ok, Said says.Done) ∷ (Seal, Sealed 2 4) ∷ (Epoch, EpochIs 3 0) ∷ [])
unfolding computing
a_seal_tells_the_epoch_before_it_and_that_epochs_events = refl

pub a_shut_pool_is_sealed_no_more : IsReplied (pool_of Async 1 1 2 4) ((Shutdown, Said says.Done) ∷ (Seal, Said (says.Refused refused.Closed)) ∷ (Epoch, EpochIs 0 1) ∷ [])
unfolding computing
a_shut_pool_is_sealed_no_more = refl
