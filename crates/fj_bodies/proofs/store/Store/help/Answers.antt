use Rattle.std.proofs.Common.{subst}
use Rattle.fj_rules.specs.declared.step.Step.TheVariants.{Help}
use Rattle.fj_rules.specs.Answers.{answer}
use Rattle.fj_rules.specs.ChoiceTaken.{TakesChoice}
use Rattle.fj_rules.proofs.Steps.Answered.{help_takes}
use Rattle.fj_bodies.proofs.Polling.{by_next, helps_by}
use Rattle.fj_bodies.proofs.store.Store.help.Goals as goal

pub choose-requires-clause-takes : goal.choose-requires-clause-takes
choose-requires-clause-takes g c =
    let past = c.args.self.now.past in
    let asked = Help c.worker.result c.take_word-r.result in
    subst (λ v. TakesChoice v (answer past asked).0 (answer past asked).1) c.worker.ensures (help_takes past c.worker.result c.take_word-r.result)

pub returns-clause-helps : goal.returns-clause-helps
returns-clause-helps g c =
    helps_by c.args.self.now c.args.hand.now _ _ _ c.requires.free
    (by_next c.args.self.now c.args.hand.now c.take_word-r.new.self Help c.worker.result c.take_word-r.result _ _ _ c.take_word-r.ensures.next c.worker.ensures c.take_word-r.ensures.word c.choose.ensures.chooses)
