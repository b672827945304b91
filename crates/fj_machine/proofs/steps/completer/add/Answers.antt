use Rattle.std.proofs.Common.{[], ◌∷◌, ◌≡◌, ◌+◌, ◌≤◌, None, true, false, refl, ap, sym, ◌∙◌, arith}
use Rattle.std.specs.Prelude.{nat_lt}
use Rattle.std.proofs.lemmas.Bool.{le-ltb, lt-ltb}
use Rattle.fj_rules.specs.declared.limits.TheConstants.{MAX_PENDING}
use Rattle.fj_rules.specs.declared.refusal.Refusal.TheVariants.{CountTooLarge}
use Rattle.fj_rules.specs.declared.said.Said.TheVariants as says
use Rattle.fj_rules.specs.declared.step.Step.TheVariants.{Add, QuietRoot}
use Rattle.fj_rules.specs.Answers.{first_that_stands, refusals_of, count_too_large}
use Rattle.fj_rules.specs.Completers.{pending}
use Rattle.fj_ledger.specs.Holds.{TellsOf}
use Rattle.fj_machine.proofs.Outcomes.Refusing.{first_after, first_refused}
use Rattle.fj_machine.proofs.Outcomes.Stepping.{steps_refused}
use Rattle.fj_machine.proofs.Outcomes.Found.{found_pending}
use Rattle.fj_machine.proofs.ByStep.CompleterSteps.{adds, add_says}
use Rattle.fj_machine.proofs.Outcomes.Results.{exits, full_of_one, made_one}
use Rattle.fj_machine.proofs.steps.completer.add.Goals as goal
use Rattle.fj_machine.proofs.steps.completer.add.Goals.{After-from-2}

pub returns-in_err-h : goal.returns-in_err-h
returns-in_err-h c =
    let now = c.args.ledger.now in
    exits now (Add c.args.w c.args.c c.args.n) c.from_residual.result _ c.from_residual.ensures.1
    (first_refused (refusals_of now.pool now.events (QuietRoot c.args.w c.args.c)) (count_too_large (pending now.events c.args.c + c.args.n) ∷ []) _ (sym c.in_err-h.ensures.refusal))

-- the pending count that was read
read : (c : After-from-2) → pending c.args.ledger.now.events c.args.c ≡ c.record.result.now.pending
read c =
    let found : TellsOf c.args.ledger.now.events c.args.c c.record.result.now = rw c.in_ok-h.ensures.number at c.record.ensures in
    found_pending c.args.ledger.now.events c.args.c c.record.result.now found

-- the size of the count decides
decides : (c : After-from-2) → first_that_stands (refusals_of c.args.ledger.now.pool c.args.ledger.now.events (Add c.args.w c.args.c c.args.n)) ≡ first_that_stands (count_too_large (pending c.args.ledger.now.events c.args.c + c.args.n) ∷ [])
decides c =
    let now = c.args.ledger.now in
    first_after (refusals_of now.pool now.events (QuietRoot c.args.w c.args.c)) (count_too_large (pending now.events c.args.c + c.args.n) ∷ []) (sym c.in_ok-h.ensures.refusal)

pub returns-then-count-gt-MAX_PENDING : goal.returns-then-count-gt-MAX_PENDING
returns-then-count-gt-MAX_PENDING c =
    let at = (goal.at.returns-then-count-gt-MAX_PENDING c).After-from-2 in
    let now = c.args.ledger.now in
    let large : nat_lt MAX_PENDING (pending now.events c.args.c + c.args.n) ≡ true = lt-ltb MAX_PENDING (pending now.events c.args.c + c.args.n) (omega (arith, c.if-count-gt-MAX_PENDING.true, c.from.ensures, c.from-2.ensures, read at)) in
    steps_refused now (Add c.args.w c.args.c c.args.n) CountTooLarge (decides at ∙ rw large refl)

-- and nothing stands against a small one
stands : (c : After-from-2) → c.from.result + c.from-2.result ≤ MAX_PENDING → c.from.result ≡ c.record.result.now.pending → c.from-2.result ≡ c.args.n
    → first_that_stands (refusals_of c.args.ledger.now.pool c.args.ledger.now.events (Add c.args.w c.args.c c.args.n)) ≡ None
stands c few first other =
    let small : nat_lt MAX_PENDING (pending c.args.ledger.now.events c.args.c + c.args.n) ≡ false = le-ltb MAX_PENDING (pending c.args.ledger.now.events c.args.c + c.args.n) (omega (arith, few, first, other, read c)) in
    decides c ∙ rw small refl

pub returns-in_err-room_for : goal.returns-in_err-room_for
returns-in_err-room_for c =
    let at = (goal.at.returns-in_err-room_for c).After-from-2 in
    let now = c.args.ledger.now in
    let is = adds now c.args.w c.args.c c.args.n (stands at c.if-count-gt-MAX_PENDING.false c.from.ensures c.from-2.ensures) in
    full_of_one now (Add c.args.w c.args.c c.args.n) _ c.from_residual-in_err-room_for.result _ c.from_residual-in_err-room_for.ensures.1 is c.in_err-room_for.ensures.room

pub returns : goal.returns
returns c =
    let at = (goal.at.returns c).After-from-2 in
    let now = c.args.ledger.now in
    let is = adds now c.args.w c.args.c c.args.n (stands at c.if-count-gt-MAX_PENDING.false c.from.ensures c.from-2.ensures) in
    let sum : c.from.result + c.from-2.result ≡ pending now.events c.args.c + c.args.n = omega (arith, c.from.ensures, c.from-2.ensures, read at) in
    made_one now c.raise.new.self (Add c.args.w c.args.c c.args.n) _ _ is c.in_ok-room_for.ensures.room (ap says.Count sum ∙ add_says now c.args.w c.args.c c.args.n) (rw c.in_ok-h.ensures.number at c.raise.ensures)
