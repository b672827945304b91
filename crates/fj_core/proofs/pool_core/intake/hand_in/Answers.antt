use Rattle.std.proofs.Common.{◌∷◌, [], ap, ◌∙◌}
use Rattle.fj_rules.specs.declared.event.Event.TheVariants.{Acc}
use Rattle.fj_rules.specs.declared.owner.Owner.TheVariants.{Sub}
use Rattle.fj_rules.specs.Tasks.{submitted_kind}
use Rattle.fj_rules.specs.Runs.{grown}
use Rattle.fj_rules.proofs.Steps.SubmitRefused.{kind_same}
use Rattle.fj_calls.specs.Intakes.{kind_rooted}
use Rattle.fj_core.proofs.TakingIn.{submitted_event}
use Rattle.fj_core.proofs.pool_core.intake.hand_in.Goals as goal

pub submit-requires : goal.submit-requires
submit-requires g c = kind_same c.args.store.now.past c.args.s c.kind_of-kind.result c.kind_of-kind.ensures.small ∙ c.requires

pub returns-clause-event : goal.returns-clause-event
returns-clause-event g c =
    let past = c.args.store.now.past in
    let free = kind_same past c.args.s c.kind_of-kind.result c.kind_of-kind.ensures.small ∙ c.requires in
    submitted_event past c.submit.new.self.past c.args.s c.submit.result c.kind_of-kind.result free c.submit.ensures.step
    ∙ ap (λ k. grown past (Acc c.submit.result (Sub c.args.s) (submitted_kind k) ∷ [])) (c.kind_of-kind.ensures.kind ∙ ap kind_rooted c.rooted.ensures)
