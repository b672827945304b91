use Rattle.std.proofs.Common.{refl, sym, ◌∙◌}
use Rattle.fj_rules.proofs.Steps.Answered.{refusal_same, refused_not_done}
use Rattle.fj_rules.proofs.Steps.RunsGrow.{history_more}
use Rattle.fj_rules.specs.declared.step.Step.TheVariants.{Release}
use Rattle.fj_bodies.proofs.Releases.{hooked_stays, went, finds_full, stays, release_replies, without_once}
use Rattle.fj_bodies.proofs.release.try_release.Goals as goal

pub is_hooked-requires : goal.is_hooked-requires
is_hooked-requires c = c.requires.waiting.run

pub take_out-requires : goal.take_out-requires
take_out-requires c = c.requires.waiting.once c.args.t

pub returns-then-is_hooked-clause-tries : goal.returns-then-is_hooked-clause-tries
returns-then-is_hooked-clause-tries c = (hooked_stays c.args.machine.now.events c.args.t (sym c.if-is_hooked.true ∙ c.is_hooked.ensures), refl)

pub unreachable-requires : goal.unreachable-requires
unreachable-requires c = release_replies c.args.machine.now c.args.t c.step.result c.step.ensures.step.0 c.in_default.not-Done c.in_default.not-Refused

pub returns-in-Done : goal.returns-in-Done
returns-in-Done c =
    let past = c.args.machine.now in
    let is = went past c.args.t c.step.result (sym c.if-is_hooked.false ∙ c.is_hooked.ensures) c.step.ensures.step.0 c.in-Done.is in
    rw (c.step.ensures.step.1, c.take_out.ensures) (record {
      waiting = record { run = history_more past (Release c.args.t) c.requires.waiting.run; once = λ u. without_once c.args.t u c.args.taken.now.items (c.requires.waiting.once u) };
      tries = rw is.1 (is.0, refl);
    })

pub returns-in-LogFull : goal.returns-in-LogFull
returns-in-LogFull c =
    let is = finds_full c.args.machine.now c.args.t c.step.result (sym c.if-is_hooked.false ∙ c.is_hooked.ensures) c.step.ensures.step.0 (rw c.in-LogFull.is at c.in-Refused.is) in
    rw (c.step.ensures.refused _ c.in-Refused.is) (record { waiting = c.requires.waiting; tries = (is.0, is.1, refl) })

pub returns-in_default-refusal : goal.returns-in_default-refusal
returns-in_default-refusal c =
    rw (c.step.ensures.refused _ c.in-Refused.is) (record {
      waiting = c.requires.waiting;
      tries = (
        stays c.args.machine.now c.args.t c.step.result (sym c.if-is_hooked.false ∙ c.is_hooked.ensures) c.step.ensures.step.0
            (λ done. refused_not_done _ (sym c.in-Refused.is ∙ done))
            (λ full. c.in_default-refusal.not-LogFull (refusal_same _ _ (sym c.in-Refused.is ∙ full))),
        refl,
      );
    })
