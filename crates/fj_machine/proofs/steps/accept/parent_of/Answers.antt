use Rattle.std.proofs.Common.{◌≡◌, Some, ap, sym, refl, ◌∙◌}
use Rattle.fj_rules.specs.Tasks.{parent_in}
use Rattle.fj_ledger.specs.Holds.{TellsOf}
use Rattle.fj_machine.proofs.Outcomes.Found.{found_kept, found_completer}
use Rattle.fj_machine.proofs.steps.accept.parent_of.Goals as goal

pub returns-then-not-is_completer-clause-refusal : goal.returns-then-not-is_completer-clause-refusal
returns-then-not-is_completer-clause-refusal c =
    let h = c.args.ledger.now.events in
    let named : parent_in (Some c.args.kind.now) ≡ Some c.in-Some.parent = sym c.parent.ensures ∙ c.in-Some.is in
    let found : TellsOf h c.in-Some.parent c.record.result.now = rw c.in_ok-p.ensures.number at c.record.ensures in
    rw (named, found_kept h _ _ found, found_completer h _ _ found ∙ sym c.is_completer.ensures ∙ c.if-not-is_completer.true) refl

pub returns-clause-refusal : goal.returns-clause-refusal
returns-clause-refusal c =
    let h = c.args.ledger.now.events in
    let named : parent_in (Some c.args.kind.now) ≡ Some c.in-Some.parent = sym c.parent.ensures ∙ c.in-Some.is in
    let found : TellsOf h c.in-Some.parent c.record.result.now = rw c.in_ok-p.ensures.number at c.record.ensures in
    rw (named, found_kept h _ _ found, found_completer h _ _ found ∙ sym c.is_completer.ensures ∙ c.if-not-is_completer.false) refl

pub returns-clause-named : goal.returns-clause-named
returns-clause-named c = ap Some c.in_ok-p.ensures.number ∙ sym c.in-Some.is ∙ c.parent.ensures
