-- Additions to counts, and quiet roots.
use Rattle.std.specs.Prelude.{true, [], ◌∷◌, Some, refl}
use Rattle.fj_rules.specs.declared.kind.SubmittedKind.TheVariants as submitted
use Rattle.fj_rules.specs.declared.step.Ending.TheVariants as ending
use Rattle.fj_rules.specs.declared.step.Step.TheVariants as ask
use Rattle.fj_rules.specs.declared.refusal.Refusal.TheVariants as refused
use Rattle.fj_rules.specs.declared.said.Said.TheVariants as says
use Rattle.fj_rules.specs.declared.mode.Mode.TheVariants.{Async}
use Rattle.fj_rules.specs.declared.kind.Kind.TheVariants.{Completer}
use Rattle.fj_rules.proofs.Samples.Scripts.{pool_of, IsReplayed, computing}

pub a_count_is_added_once_an_arrival_has_made_room : IsReplayed (pool_of Async 1 1 4 64)
    ((ask.Submit 0 (submitted.Completer true 65535), says.Task 0) ∷ (ask.Poll 0 0, says.Run 0) ∷
    (ask.Add 0 0 1, says.Refused refused.CountTooLarge) ∷ (ask.Fork 0 (Completer true 0 (Some 0)), says.Task 1) ∷
    (ask.Help 0 0, says.Run 1) ∷ (ask.End 0 ending.Try, says.Hook 1) ∷ (ask.HookDone 0, says.Counted 0) ∷
    (ask.Add 0 0 1, says.Count 65535) ∷ [])
unfolding computing
a_count_is_added_once_an_arrival_has_made_room = (refl, refl)

pub an_addition_needs_a_running_task : IsReplayed (pool_of Async 1 1 4 64)
    ((ask.Submit 0 (submitted.Completer true 0), says.Task 0) ∷ (ask.Add 0 0 1, says.Refused refused.NotRunning) ∷
    (ask.Add 0 7 1, says.Refused refused.NotRunning) ∷ (ask.Add 1 0 1, says.Refused refused.NoSuch) ∷ [])
unfolding computing
an_addition_needs_a_running_task = (refl, refl)

pub the_root_of_a_done_task_is_made_normal : IsReplayed (pool_of Async 1 1 4 64)
    ((ask.Submit 0 (submitted.Completer true 1), says.Task 0) ∷ (ask.Poll 0 0, says.Run 0) ∷
    (ask.Fork 0 (Completer true 0 (Some 0)), says.Task 1) ∷ (ask.Cancel 1, says.Yes) ∷ (ask.QuietRoot 0 1, says.Root 0) ∷ [])
unfolding computing
the_root_of_a_done_task_is_made_normal = (refl, refl)

pub a_plain_or_an_unknown_task_has_no_root : IsReplayed (pool_of Async 1 1 4 64)
    ((ask.Submit 0 submitted.Plain, says.Task 0) ∷ (ask.QuietRoot 0 0, says.Refused refused.NotRunning) ∷ (ask.Poll 0 0, says.Run 0) ∷
    (ask.QuietRoot 0 0, says.Refused refused.NotCompleter) ∷ (ask.QuietRoot 0 1, says.Refused refused.Unknown) ∷
    (ask.QuietRoot 1 0, says.Refused refused.NoSuch) ∷ [])
unfolding computing
a_plain_or_an_unknown_task_has_no_root = (refl, refl)
