use Rattle.std.proofs.Common.{[], ◌∷◌, refl, sym, ◌∙◌}
use Rattle.fj_rules.specs.Answers.{unknown_task, not_a_completer, no_such_worker, hook_in_hand, nothing_running}
use Rattle.fj_ledger.specs.Holds.{TellsOf}
use Rattle.fj_machine.proofs.Outcomes.Found.{found_kept, found_completer}
use Rattle.fj_machine.proofs.Outcomes.Refusing.{first_after}
use Rattle.fj_machine.proofs.steps.completer.kept_completer.Goals as goal

pub returns-then-not-is_completer-clause-refusal : goal.returns-then-not-is_completer-clause-refusal
returns-then-not-is_completer-clause-refusal c =
    let pool = c.args.ledger.now.pool in
    let h = c.args.ledger.now.events in
    let found : TellsOf h c.args.t c.record.result.now = rw c.in_ok-h.ensures.number at c.record.ensures in
    let plain = found_completer h c.args.t c.record.result.now found ∙ sym c.is_completer.ensures ∙ c.if-not-is_completer.true in
    sym (first_after (no_such_worker pool c.args.w ∷ hook_in_hand h c.args.w ∷ nothing_running h c.args.w ∷ []) (unknown_task h c.args.t ∷ not_a_completer h c.args.t ∷ []) (sym c.in_ok-running_task.ensures.refusal)
    ∙ rw (found_kept h c.args.t c.record.result.now found, plain) refl)

pub returns-clause-refusal : goal.returns-clause-refusal
returns-clause-refusal c =
    let pool = c.args.ledger.now.pool in
    let h = c.args.ledger.now.events in
    let found : TellsOf h c.args.t c.record.result.now = rw c.in_ok-h.ensures.number at c.record.ensures in
    let completer = found_completer h c.args.t c.record.result.now found ∙ sym c.is_completer.ensures ∙ c.if-not-is_completer.false in
    sym (first_after (no_such_worker pool c.args.w ∷ hook_in_hand h c.args.w ∷ nothing_running h c.args.w ∷ []) (unknown_task h c.args.t ∷ not_a_completer h c.args.t ∷ []) (sym c.in_ok-running_task.ensures.refusal)
    ∙ rw (found_kept h c.args.t c.record.result.now found, completer) refl)
