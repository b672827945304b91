use Rattle.fj_arguments.proofs.Numbers.{if_none}
use Rattle.fj_arguments.proofs.given.read_function.Goals as goal

pub returns-in_default-clause-none : goal.returns-in_default-clause-none
returns-in_default-clause-none c = λ f is gives. if_none _ c.number-3.result c.in_default.is-2 c.number-3.ensures.none f.modulus is.modulus gives.modulus

pub returns-in_default-2-clause-none : goal.returns-in_default-2-clause-none
returns-in_default-2-clause-none c = λ f is gives. if_none _ c.number-2.result c.in_default.is-1 c.number-2.ensures.none f.add is.add gives.add

pub returns-in_default-3-clause-none : goal.returns-in_default-3-clause-none
returns-in_default-3-clause-none c = λ f is gives. if_none _ c.number.result c.in_default.is-0 c.number.ensures.none f.mul is.mul gives.mul
