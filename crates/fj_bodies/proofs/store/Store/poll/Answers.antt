use Rattle.std.proofs.Common.{sym, ap, subst, ◌∙◌}
use Rattle.fj_rules.specs.declared.step.Step.TheVariants.{Poll}
use Rattle.fj_rules.specs.Answers.{answer}
use Rattle.fj_rules.specs.ChoiceTaken.{TakesChoice}
use Rattle.fj_rules.proofs.Steps.Answered.{poll_takes}
use Rattle.fj_body.specs.declared.body.Told.TheVariants.{Hear}
use Rattle.fj_bodies.proofs.Polling.{by_next, poll_sticks}
use Rattle.fj_bodies.proofs.store.Store.poll.Goals as goal

pub choose-requires-clause-takes : goal.choose-requires-clause-takes
choose-requires-clause-takes g c =
    let past = c.args.self.now.past in
    let asked = Poll c.worker.result c.take_word-r.result in
    subst (λ v. TakesChoice v (answer past asked).0 (answer past asked).1) c.worker.ensures (poll_takes past c.worker.result c.take_word-r.result)

pub returns-in-Hear-clause-polls : goal.returns-in-Hear-clause-polls
returns-in-Hear-clause-polls g c =
    let hand = c.args.hand.now in
    poll_sticks c.args.self.now hand c.in-Hear.field-0 _ _ _ _ c.requires.fits c.requires.idle.0 c.requires.idle.1 (ap (λ s. s.stuck) (sym c.self.view_is) ∙ c.if-self.false)
    (by_next c.args.self.now hand c.take_word-r.new.self Poll c.worker.result c.take_word-r.result (Hear c.in-Hear.field-0) c.choose.new.self c.choose.new.hand c.take_word-r.ensures.next c.worker.ensures c.take_word-r.ensures.word c.in-Hear.ensures.chooses)
    c.refused.ensures
