use Rattle.std.proofs.Common.{sym, subst}
use Rattle.std.specs.Prelude.{IfOk, Result}
use Rattle.fj_rules.specs.declared.refusal.Refusal.{Refusal}
use Rattle.fj_body.specs.declared.outcomes.Outcome.{Outcome}
use Rattle.fj_run.specs.Playing.{IsOutcomeOf}
use Rattle.fj_run.proofs.Outcomes.{answer_left}
use Rattle.fj_run.proofs.alone.record_alone.Goals as goal

pub returns-in-Ok-clause-told : goal.returns-in-Ok-clause-told
returns-in-Ok-clause-told g c =
    let told = c.in-Ok.ensures.told in
    subst (λ (answer : Result (Outcome g.row.B.Denot g.row.B-Key.Denot g.row.B-Out.Denot) Refusal). IfOk answer (λ outcome. IsOutcomeOf c.in-Ok.played.record outcome)) (sym c.told.ensures.told)
    (answer_left told.0 c.in-Ok.played.record c.in-Ok.played.out told.1 told.2)
