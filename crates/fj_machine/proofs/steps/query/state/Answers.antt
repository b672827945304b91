use Rattle.std.proofs.Common.{◌≡◌, false, refl, ◌∙◌}
use Rattle.fj_rules.specs.declared.step.Step.TheVariants.{State}
use Rattle.fj_rules.specs.Tasks.{is_kept}
use Rattle.fj_ledger.specs.Holds.{TellsOf}
use Rattle.fj_machine.proofs.Outcomes.OneEvent.{only_tells}
use Rattle.fj_machine.proofs.Outcomes.Found.{found_kept, found_place, found_status}
use Rattle.fj_machine.proofs.ByStep.QuerySteps.{asks_state, unknown_state}
use Rattle.fj_machine.proofs.steps.query.state.Goals as goal

pub returns-in-None : goal.returns-in-None
returns-in-None c =
    let none : is_kept c.args.ledger.now.events c.args.t ≡ false = c.in-None.ensures.record in
    unknown_state c.args.ledger.now c.args.t none

pub returns-in-Some : goal.returns-in-Some
returns-in-Some c =
    let now = c.args.ledger.now in
    let t = c.args.t in
    let r = c.in-Some.record.now in
    let found : TellsOf now.events t r = c.in-Some.ensures.record in
    let asks = asks_state now t in
    only_tells now (State t) _ c.find.ensures.lawful (rw (found_kept now.events t r found) refl) asks.0 (asks.1 ∙ rw (found_place now.events t r found, found_status now.events t r found) refl)
