use Rattle.fj_arguments.proofs.builders.with_plain.Goals as goal

pub returns : goal.returns
returns c = λ line is. c.with_one.ensures line _ is c.plain.ensures.app
