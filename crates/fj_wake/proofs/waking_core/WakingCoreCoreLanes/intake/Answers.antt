use Rattle.std.proofs.Common.{sym, ◌∙◌}
use Rattle.fj_wake.proofs.Lasting.{intakes_to_come}
use Rattle.fj_wake.proofs.waking_core.WakingCoreCoreLanes.intake.Goals as goal

pub invariant_of-self : goal.invariant_of-self
invariant_of-self g c = c.tell_intake.ensures _ _ c.self.invariant (λ free none. intakes_to_come g.B.Body.rooted_as c.self.inside.core c.intake-answer.new.self c.args.s c.intake-answer.result c.intake-answer.ensures.intakes free (sym c.takes-took.ensures ∙ none))
