-- An end as its callers see it.
use Rattle.atomic_table.specs.Seated.{TableId}

-- its pair, and what it knows
pub record EndState (V : Type 0) : Type 0 where
  pub pair : TableId
  pub value : V
