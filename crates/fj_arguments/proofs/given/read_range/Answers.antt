use Rattle.fj_arguments.proofs.Numbers.{if_none}
use Rattle.fj_arguments.proofs.given.read_range.Goals as goal

pub returns-in_default-clause-none : goal.returns-in_default-clause-none
returns-in_default-clause-none c = λ o is gives. if_none _ c.read_workers.result c.in_default.is-3 c.read_workers.ensures.none o.workers.count is.workers gives.workers

pub returns-in_default-2-clause-none : goal.returns-in_default-2-clause-none
returns-in_default-2-clause-none c = λ o is gives. if_none _ c.number-3.result c.in_default.is-2 c.number-3.ensures.none o.grain is.grain gives.grain

pub returns-in_default-3-clause-none : goal.returns-in_default-3-clause-none
returns-in_default-3-clause-none c = λ o is gives. if_none _ c.number-2.result c.in_default.is-1 c.number-2.ensures.none o.to is.to gives.to

pub returns-in_default-4-clause-none : goal.returns-in_default-4-clause-none
returns-in_default-4-clause-none c = λ o is gives. if_none _ c.number.result c.in_default.is-0 c.number.ensures.none o.from is.from gives.from
