use Rattle.std.proofs.Common.{◌≡◌, true, refl, ap, sym, ◌∙◌, ⊎_elim}
use Rattle.fj_rules.specs.declared.status.Status.TheVariants.{Undone, Normal, Exceptional, Cancelled}
use Rattle.fj_rules.specs.declared.step.Step.TheVariants.{Cancel}
use Rattle.fj_rules.specs.Tasks.{is_kept}
use Rattle.fj_rules.specs.Statuses.{status, is_undone}
use Rattle.fj_ledger.specs.Holds.{TellsOf}
use Rattle.fj_machine.proofs.Outcomes.Found.{found_kept, found_status}
use Rattle.fj_machine.proofs.Outcomes.Results.{exits, full_of_one, may_one, made_one}
use Rattle.fj_machine.proofs.ByStep.SettleSteps.{cancels, cancel_replies, cancel_tells}
use Rattle.fj_machine.proofs.steps.settle.cancel.Goals as goal
use Rattle.fj_machine.proofs.steps.settle.cancel.Goals.{After-record}

told : (c : After-record) → TellsOf c.args.ledger.now.events c.args.t c.record.result.now
told c = rw c.in_ok-h.ensures.number at c.record.ensures

kept : (c : After-record) → is_kept c.args.ledger.now.events c.args.t ≡ true
kept c = found_kept c.args.ledger.now.events c.args.t c.record.result.now (told c)

read : (c : After-record) → status c.args.ledger.now.events c.args.t ≡ c.record.result.now.status
read c = found_status c.args.ledger.now.events c.args.t c.record.result.now (told c)

pub returns-in_err-h : goal.returns-in_err-h
returns-in_err-h c = exits c.args.ledger.now (Cancel c.args.t) c.from_residual.result _ c.from_residual.ensures.1 (sym c.in_err-h.ensures.refusal)

pub returns-in-Normal : goal.returns-in-Normal
returns-in-Normal c =
    let at = (goal.at.returns-in-Normal c).After-record in
    let now = c.args.ledger.now in
    ⊎_elim (λ is. cancel_tells now c.args.t Normal c.in_ok-h.ensures.lawful (kept at) (read at ∙ is) refl)
    (λ is. cancel_tells now c.args.t (Exceptional is.0) c.in_ok-h.ensures.lawful (kept at) (read at ∙ is.1) refl) c.in-Normal.is

pub returns-in-Cancelled : goal.returns-in-Cancelled
returns-in-Cancelled c =
    let at = (goal.at.returns-in-Cancelled c).After-record in
    cancel_tells c.args.ledger.now c.args.t Cancelled c.in_ok-h.ensures.lawful (kept at) (read at ∙ c.in-Cancelled.is) refl

pub returns-in_err-room_for : goal.returns-in_err-room_for
returns-in_err-room_for c =
    let at = (goal.at.returns-in_err-room_for c).After-record in
    let is = cancels c.args.ledger.now c.args.t (kept at) (ap is_undone (read at ∙ c.in-Undone.is)) in
    full_of_one c.args.ledger.now (Cancel c.args.t) _ c.from_residual-in_err-room_for.result _ c.from_residual-in_err-room_for.ensures.1 is c.in_err-room_for.ensures.room

pub settle-requires-clause-may : goal.settle-requires-clause-may
settle-requires-clause-may c =
    let at = (goal.at.settle-requires-clause-may c).After-record in
    let is = cancels c.args.ledger.now c.args.t (kept at) (ap is_undone (read at ∙ c.in-Undone.is)) in
    rw c.in_ok-h.ensures.number (may_one c.args.ledger.now (Cancel c.args.t) _ c.in_ok-room_for.ensures.lawful is)

pub returns : goal.returns
returns c =
    let at = (goal.at.returns c).After-record in
    let now = c.args.ledger.now in
    let is = cancels now c.args.t (kept at) (ap is_undone (read at ∙ c.in-Undone.is)) in
    made_one now c.settle.new.self (Cancel c.args.t) _ _ is c.in_ok-room_for.ensures.room
    (cancel_replies now c.args.t Undone (read at ∙ c.in-Undone.is)) (rw c.in_ok-h.ensures.number at c.settle.ensures)
