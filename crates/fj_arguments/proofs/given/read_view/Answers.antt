use Rattle.fj_arguments.proofs.Numbers.{if_none}
use Rattle.fj_arguments.proofs.given.read_view.Goals as goal
use Rattle.fj_arguments.proofs.given.read_view.Goals.{in_default-via-in-Some+in-Some+in_default, in_default-via-in-Some+in_default, in_default-via-in_default}

pub returns-in_default-clause-none : goal.returns-in_default-clause-none
returns-in_default-clause-none c = λ o is gives. elim c.in_default.branch [
  | in_default-via-in-Some+in-Some+in_default w ↦ if_none _ c.number-2.result w.in_default.is-2 c.number-2.ensures.none o.to is.to gives.to
  | in_default-via-in-Some+in_default w ↦ if_none _ c.number.result w.in_default.is-1 c.number.ensures.none o.from is.from gives.from
  | in_default-via-in_default w ↦ if_none _ c.read_view_name.result w.in_default.is-0 c.read_view_name.ensures.none o.name gives.name
]
