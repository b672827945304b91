use Rattle.std.proofs.Common.{map, ap, subst, ◌∙◌}
use Rattle.fj_rules.specs.declared.event.Event.TheVariants.{Rel}
use Rattle.fj_rules.specs.declared.step.Step.TheVariants.{Join}
use Rattle.fj_rules.specs.Answers.{answer}
use Rattle.fj_rules.specs.Runs.{grown}
use Rattle.fj_rules.specs.ChoiceTaken.{TakesChoice}
use Rattle.fj_rules.proofs.Steps.Answered.{join_takes}
use Rattle.fj_bodies.proofs.NoResult.{joins_bare}
use Rattle.fj_body.proofs.Taking.{released_fits}
use Rattle.fj_bodies.proofs.store.Store.join.Goals as goal

pub choose-requires-clause-takes : goal.choose-requires-clause-takes
choose-requires-clause-takes g c =
    let past = c.args.self.now.past in
    let asked = Join c.worker.result c.args.t c.take_word-r.result in
    subst (λ v. TakesChoice v (answer past asked).0 (answer past asked).1) c.worker.ensures (join_takes past c.worker.result c.args.t c.take_word-r.result)

pub returns-in-Some-clause-fits : goal.returns-in-Some-clause-fits
returns-in-Some-clause-fits g c =
    let took = c.in-Some.ensures.takes in
    released_fits c.choose.new.self.past c.take_and_release.new.self.past c.choose.new.hand took.2.tasks c.choose.ensures.fits
    (ap (λ s. s.past) took.2.were ∙ ap (λ s. grown s.past (map Rel took.2.tasks)) took.1.1.1)

pub returns-in-None-clause-joins : goal.returns-in-None-clause-joins
returns-in-None-clause-joins g c =
    joins_bare c.args.self.now c.choose.new.self c.take_and_release.new.self c.args.hand.now c.take_word-r.new.self c.choose.new.hand c.worker.result c.args.t c.take_word-r.result
    c.requires.free c.worker.ensures c.take_word-r.ensures.word c.take_word-r.ensures.next (rw c.in-Bare.is at c.in-Hear.ensures.chooses) c.in-None.ensures.complete c.in-None.ensures.takes
