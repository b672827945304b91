use Rattle.std.proofs.Common.{◌≡◌, Bool, false, inr, Some, refl, sym, ap, ◌∙◌, arith}
use Rattle.std.specs.Prelude.{◌&&◌}
use Rattle.fj_rules.specs.declared.kind.SubmittedKind.TheVariants.{Plain}
use Rattle.fj_rules.specs.Answers.{is_quiet}
use Rattle.fj_body.specs.Stores.{StoreState}
use Rattle.fj_rules.proofs.Steps.SubmitRefused.{met, met_free, met_closed, met_open}
use Rattle.fj_core.proofs.TakingIn.{not_full, full_open}
use Rattle.fj_core.proofs.pool_core.intake.ready.Goals as goal
use Rattle.fj_core.proofs.pool_core.intake.ready.Goals.{then-is_quiescent, else-is_quiescent}

pub returns-in-None : goal.returns-in-None
returns-in-None g c =
    let here = met c.args.store.now.past c.args.s Plain c.requires (omega arith) in
    (sym c.is_stuck.ensures ∙ c.if-is_stuck.false, sym (met_free _ _ here (sym c.submit_refusal.ensures ∙ c.in-None.is)), sym c.submit_refusal.ensures ∙ c.in-None.is, refl)

pub returns-in-Closed : goal.returns-in-Closed
returns-in-Closed g c =
    let here = met c.args.store.now.past c.args.s Plain c.requires (omega arith) in
    (sym c.is_stuck.ensures ∙ c.if-is_stuck.false, sym (met_closed _ _ c.in-Some.refusal here (sym c.submit_refusal.ensures ∙ c.in-Some.is) c.in-Closed.is), refl)

pub returns-after-is_quiescent : goal.returns-after-is_quiescent
returns-after-is_quiescent g c =
    let now = c.args.store.now in
    let here = met now.past c.args.s Plain c.requires (omega arith) in
    let free : now.stuck ≡ false = sym c.is_stuck.ensures ∙ c.if-is_stuck.false in
    let with_stuck : Bool → StoreState g.row.B.Denot g.row.B-Key.Denot g.row.B-Out.Denot = λ b. record now { stuck = b } in
    inr (record {
      free = free;
      goes_on = sym (met_open _ _ c.in-Some.refusal here (sym c.submit_refusal.ensures ∙ c.in-Some.is) (full_open c.in-Some.refusal c.in-LogFull.is));
      refused = sym c.submit_refusal.ensures ∙ c.in-Some.is ∙ ap Some c.in-LogFull.is;
      sticks = elim c.if-is_quiescent.branch [
        | then-is_quiescent w ↦ w.store-is ∙ w.stick.ensures ∙ ap with_stuck (sym w.if-is_quiescent.true ∙ c.is_quiescent.ensures)
        | else-is_quiescent w ↦ w.store-is ∙ ap with_stuck (free ∙ sym w.if-is_quiescent.false ∙ c.is_quiescent.ensures)
      ];
    })

pub returns-in_default : goal.returns-in_default
returns-in_default g c =
    let now = c.args.store.now in
    let here = met now.past c.args.s Plain c.requires (omega arith) in
    let free : now.stuck ≡ false = sym c.is_stuck.ensures ∙ c.if-is_stuck.false in
    inr (record {
      free = free;
      goes_on = sym (met_open _ _ c.in-Some.refusal here (sym c.submit_refusal.ensures ∙ c.in-Some.is) c.in_default.not-Closed);
      refused = sym c.submit_refusal.ensures ∙ c.in-Some.is;
      sticks = ap (λ b. record now { stuck = b }) (free ∙ sym (ap (λ b. b && is_quiet now.past.pool.limits now.past.events) (not_full c.in-Some.refusal c.in_default.not-LogFull)));
    })
