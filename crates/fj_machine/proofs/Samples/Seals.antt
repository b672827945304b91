-- Seals: what each hands out, what it leaves, and how it is refused.
use Rattle.std.specs.Prelude.{◌≡◌, true, [], ◌∷◌, Some, None, refl}
use Rattle.std.proofs.Common.{inl, inr, sym, ◌∙◌}
use Rattle.fj_rules.specs.declared.epoch.Answer.TheVariants.{Said, Sealed, Refused}
use Rattle.fj_rules.specs.declared.epoch.Move.TheVariants.{Step, Seal}
use Rattle.fj_rules.specs.declared.event.Event.TheVariants as event
use Rattle.fj_rules.specs.declared.event.How.TheVariants as how
use Rattle.fj_rules.specs.declared.kind.Kind.TheVariants as kind
use Rattle.fj_rules.specs.declared.kind.SubmittedKind.TheVariants as submitted
use Rattle.fj_rules.specs.declared.mode.Mode.TheVariants.{Async}
use Rattle.fj_rules.specs.declared.owner.Owner.TheVariants.{Sub, Work}
use Rattle.fj_rules.specs.declared.place.Place.TheVariants as at
use Rattle.fj_rules.specs.declared.refusal.Refusal.TheVariants as refused
use Rattle.fj_rules.specs.declared.said.Said.TheVariants as says
use Rattle.fj_rules.specs.declared.status.Status.TheVariants as status_is
use Rattle.fj_rules.specs.declared.step.Ending.TheVariants as ending
use Rattle.fj_rules.specs.declared.step.Step.TheVariants as ask
use Rattle.fj_rules.specs.Epochs.{RefusesSeal, seal_refusal}
use Rattle.fj_rules.specs.Pasts.{Past}
use Rattle.fj_rules.proofs.Samples.Scripts.{pool_of}
use Rattle.fj_machine.proofs.Samples.Moves.{IsMade, computing}

-- the limit of events counts the present ones alone; a release of what went before the seal is an event of the present
pub each_seal_hands_out_what_came_since_the_one_before : IsMade (pool_of Async 1 1 2 4)
    ((Step (ask.Submit 0 submitted.Plain), Said (says.Task 0)) ∷ (Step (ask.Poll 0 0), Said (says.Run 0)) ∷ (Step (ask.End 0 ending.Ok), Said says.Done) ∷
    (Seal, Sealed) ∷ (Seal, Sealed) ∷
    (Step (ask.Submit 0 submitted.Plain), Said (says.Task 1)) ∷ (Seal, Refused refused.NotIdle) ∷
    (Step (ask.Poll 0 0), Said (says.Run 1)) ∷ (Step (ask.End 0 ending.Ok), Said says.Done) ∷
    (Step (ask.Release 0), Said (says.Refused refused.LogFull)) ∷ (Seal, Sealed) ∷ (Step (ask.Release 0), Said says.Done) ∷
    (Step (ask.State 0), Said (says.Refused refused.Unknown)) ∷ (Step ask.Shutdown, Said says.Done) ∷ (Seal, Refused refused.Closed) ∷ [])
    ((event.Acc 0 (Sub 0) kind.Plain ∷ event.Out 0 0 ∷ event.End 0 0 ∷ event.Settle 0 status_is.Normal ∷ [], 0 ∷ []) ∷
    ([], []) ∷
    (event.Acc 1 (Sub 0) kind.Plain ∷ event.Out 1 0 ∷ event.End 1 0 ∷ event.Settle 1 status_is.Normal ∷ [], 1 ∷ []) ∷ [])
unfolding computing
each_seal_hands_out_what_came_since_the_one_before = (refl, refl)

pub an_open_completer_outlives_a_seal_and_fires_behind_it : IsMade (pool_of Async 1 1 4 16)
    ((Step (ask.Submit 0 (submitted.Completer true 0)), Said (says.Task 0)) ∷ (Step (ask.Poll 0 0), Said (says.Run 0)) ∷
    (Step (ask.End 0 ending.Quiet), Said says.Done) ∷ (Seal, Sealed) ∷
    (Step (ask.State 0), Said (says.State at.Open status_is.Undone)) ∷
    (Step (ask.Submit 0 submitted.Plain), Said (says.Task 1)) ∷ (Step (ask.Poll 0 0), Said (says.Run 1)) ∷
    (Step (ask.Fork 0 (kind.Completer true 0 (Some 0))), Said (says.Task 2)) ∷ (Step (ask.End 0 ending.Ok), Said says.Done) ∷
    (Step (ask.Poll 0 0), Said (says.Run 2)) ∷ (Step (ask.End 0 ending.Try), Said (says.Hook 2)) ∷ (Seal, Refused refused.NotIdle) ∷
    (Step (ask.HookDone 0), Said (says.Hook 0)) ∷ (Step (ask.HookDone 0), Said (says.Root 0)) ∷ (Seal, Sealed) ∷ [])
    ((event.Acc 0 (Sub 0) (kind.Completer true 0 None) ∷ event.Out 0 0 ∷ event.End 0 0 ∷ [], []) ∷ (
      event.Acc 1 (Sub 0) kind.Plain ∷ event.Out 1 0 ∷ event.Acc 2 (Work 0) (kind.Completer true 0 (Some 0)) ∷ event.End 1 0 ∷ event.Settle 1 status_is.Normal ∷
          event.Out 2 0 ∷ event.End 2 0 ∷ event.Fire 2 how.Zero ∷ event.Hooked 2 ∷ event.Fire 0 how.Zero ∷ event.Hooked 0 ∷ event.Settle 0 status_is.Normal ∷ [],
      1 ∷ 2 ∷ 0 ∷ [],
    ) ∷ [])
unfolding computing
an_open_completer_outlives_a_seal_and_fires_behind_it = (refl, refl)

pub a_seal_that_is_not_idle_is_told_before_a_shut_pool : IsMade (pool_of Async 1 1 2 8)
    ((Step (ask.Submit 0 submitted.Plain), Said (says.Task 0)) ∷ (Step ask.Shutdown, Said says.Done) ∷ (Seal, Refused refused.NotIdle) ∷
    (Step (ask.Poll 0 0), Said (says.Run 0)) ∷ (Seal, Refused refused.NotIdle) ∷
    (Step (ask.End 0 ending.Ok), Said says.Done) ∷ (Seal, Refused refused.Closed) ∷ [])
    []
unfolding computing
a_seal_that_is_not_idle_is_told_before_a_shut_pool = (refl, refl)

pub a_stopped_pool_is_sealed_no_more : IsMade (pool_of Async 1 1 2 8) ((Seal, Sealed) ∷ (Step ask.Stop, Said says.Done) ∷ (Seal, Refused refused.Closed) ∷ []) (([], []) ∷ [])
unfolding computing
a_stopped_pool_is_sealed_no_more = (refl, refl)

-- 2 ^ 62 events and seals are the most
pub a_seal_of_the_last_number_is_made : seal_refusal (record { pool = pool_of Async 1 1 2 8; sealed = []; events = []; seals = 4611686018427387904 }) ≡ None
unfolding computing
a_seal_of_the_last_number_is_made = refl

pub a_seal_of_the_number_behind_it_is_refused : seal_refusal (record { pool = pool_of Async 1 1 2 8; sealed = []; events = []; seals = 4611686018427387905 }) ≡ Some refused.LogFull
unfolding computing
a_seal_of_the_number_behind_it_is_refused = refl

-- out of memory is told last: nothing else may stand
pub a_seal_that_is_not_idle_is_never_out_of_memory : (past : Past) → seal_refusal past ≡ Some refused.NotIdle → RefusesSeal past refused.OutOfMemory → ⊥
a_seal_that_is_not_idle_is_never_out_of_memory past busy (inl told) = let same : Some refused.NotIdle ≡ Some refused.OutOfMemory = sym busy ∙ told in cc
a_seal_that_is_not_idle_is_never_out_of_memory past busy (inr out) = let same : Some refused.NotIdle ≡ None = sym busy ∙ out.0 in cc
