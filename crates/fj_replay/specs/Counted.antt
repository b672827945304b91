-- A count of the tasks of a machine.
use Rattle.std.specs.Prelude.{ℕ, ◌≡◌, []}
use Rattle.fj_rules.specs.Pasts.{Past}
use Rattle.fj_rules.specs.Tasks.{accepted}

-- so many tasks were accepted, and nothing was sealed
pub record IsCounted (past : Past) (n : ℕ) : Type 0 where
  pub count : n ≡ accepted past.events
  pub unsealed : past.sealed ≡ []
