use Rattle.std.proofs.Common.{ℕ, ◌≡◌, None, true, false, refl, ap, sym, ◌∙◌}
use Rattle.fj_rules.specs.Pasts.{limit}
use Rattle.fj_rules.specs.declared.status.Status.{Status}
use Rattle.fj_rules.specs.declared.status.Status.TheVariants.{Normal, Exceptional, Cancelled}
use Rattle.fj_rules.specs.declared.step.Step.TheVariants.{Join}
use Rattle.fj_rules.specs.Statuses.{status, is_undone}
use Rattle.fj_rules.specs.Answers.{first_that_stands, refusals_of, status_says}
use Rattle.fj_rules.specs.Runs.{Past, Steps}
use Rattle.fj_ledger.specs.Holds.{IsLawful}
use Rattle.fj_machine.specs.Outcomes.{said_by}
use Rattle.fj_machine.proofs.Outcomes.Stepping.{told}
use Rattle.fj_machine.proofs.Outcomes.OneEvent.{only_tells}
use Rattle.fj_machine.proofs.Outcomes.Results.{exits}
use Rattle.fj_machine.proofs.ByStep.TakeSteps.{choice_may, choice_steps}
use Rattle.fj_machine.proofs.ByStep.TakeSteps.{join_takes, join_tells}
use Rattle.fj_machine.proofs.steps.take.join.Goals as goal

pub returns-in_err-joined : goal.returns-in_err-joined
returns-in_err-joined c = exits c.args.ledger.now (Join c.args.w c.args.t c.args.r) c.from_residual.result _ c.from_residual.ensures.1 (sym c.in_err-joined.ensures.refusal)

-- ---- a task that is undone

pub take_choice-requires-clause-may : goal.take_choice-requires-clause-may
take_choice-requires-clause-may c =
    let now = c.args.ledger.now in
    let undone : is_undone (status now.events c.args.t) ≡ true = ap is_undone (c.in_ok-joined.ensures.status ∙ c.in-Undone.is) in
    choice_may now (Join c.args.w c.args.t c.args.r) c.args.w c.args.r c.in_ok-joined.ensures.lawful (sym c.in_ok-joined.ensures.refusal) (join_takes now.pool now.events c.args.w c.args.t c.args.r undone).0

pub returns-in-Undone : goal.returns-in-Undone
returns-in-Undone c =
    let now = c.args.ledger.now in
    let undone : is_undone (status now.events c.args.t) ≡ true = ap is_undone (c.in_ok-joined.ensures.status ∙ c.in-Undone.is) in
    let takes = join_takes now.pool now.events c.args.w c.args.t c.args.r undone in
    choice_steps now c.take_choice.new.ledger (Join c.args.w c.args.t c.args.r) c.args.w c.args.r (said_by c.take_choice.result) c.take_choice.ensures (sym c.in_ok-joined.ensures.refusal) takes.0 takes.1

-- ---- a task that is done

done : (now : Past) (w t r : ℕ) (s : Status) → IsLawful now.pool (limit now) now.events → first_that_stands (refusals_of now.pool now.events (Join w t r)) ≡ None
    → status now.events t ≡ s → is_undone s ≡ false → Steps now (Join w t r) (status_says s) now
done now w t r s law none is ended =
    let tells = join_tells now.pool now.events w t r (ap is_undone is ∙ ended) in
    told now (Join w t r) (status_says s) (only_tells now (Join w t r) (status_says s) law none tells.0 (tells.1 ∙ ap status_says is))

pub returns-in-Normal : goal.returns-in-Normal
returns-in-Normal c =
    done c.args.ledger.now c.args.w c.args.t c.args.r Normal c.in_ok-joined.ensures.lawful (sym c.in_ok-joined.ensures.refusal) (c.in_ok-joined.ensures.status ∙ c.in-Normal.is) refl

pub returns-in-Exceptional : goal.returns-in-Exceptional
returns-in-Exceptional c =
    done c.args.ledger.now c.args.w c.args.t c.args.r (Exceptional c.in-Exceptional.code) c.in_ok-joined.ensures.lawful (sym c.in_ok-joined.ensures.refusal) (c.in_ok-joined.ensures.status ∙ c.in-Exceptional.is) refl

pub returns-in-Cancelled : goal.returns-in-Cancelled
returns-in-Cancelled c =
    done c.args.ledger.now c.args.w c.args.t c.args.r Cancelled c.in_ok-joined.ensures.lawful (sym c.in_ok-joined.ensures.refusal) (c.in_ok-joined.ensures.status ∙ c.in-Cancelled.is) refl
