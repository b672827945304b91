use Rattle.std.proofs.Common.{map}
use Rattle.fj_machine.specs.Handed.{shown}
use Rattle.fj_machine.proofs.MoreSteps.HandedMore.{step_hands, refusal_hands, seal_hands}
use Rattle.fj_machine.proofs.epochs.make_move.Goals as goal

pub returns-in-Step-clause-handed : goal.returns-in-Step-clause-handed
returns-in-Step-clause-handed c = rw c.in-Step.is (step_hands c.args.machine.now c.in-Step.step c.step.result (map shown c.args.parts.now.items))

pub returns-in-Ok-clause-handed : goal.returns-in-Ok-clause-handed
returns-in-Ok-clause-handed c =
    rw (c.push_reserved.ensures.items, c.in-Seal.is) (seal_hands c.args.machine.now c.args.parts.now.items c.in-Ok.part c.in-Ok.ensures.events c.in-Ok.ensures.gone)

pub returns-in-Err-clause-handed : goal.returns-in-Err-clause-handed
returns-in-Err-clause-handed c = rw c.in-Seal.is (refusal_hands c.args.machine.now c.in-Err.refusal (map shown c.args.parts.now.items))
