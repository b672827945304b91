-- Logs, and beginnings of them.
use Rattle.std.specs.Prelude.{◌≡◌, ◌⊎◌, List, [], ◌∷◌, ◌++◌}
use mathlib.Core.List.{IsPrefix}
use Rattle.atomic_table.specs.Seated.{TableId}

-- the name of no log
abbrev pub no_log : TableId
no_log = record { words = 0; slots = 0; views_name = 0; atom = 0; block = 0; offset = 0; slot_names = [] }

-- each entry might come next, after those before it
abbrev pub IsLegal : {E : Type 0} → (List E → E → Type 0) → List E → Type 0
IsLegal {E} may_follow log = (before : List E) (entry : E) (after : List E) → before ++ entry ∷ after ≡ log → may_follow before entry

-- one of these two lists, which begins with both
pub record IsLonger {E : Type 0} (one other longer : List E) : Type 0 where
  pub either : (longer ≡ one) ⊎ (longer ≡ other)
  pub one_begins : IsPrefix one longer
  pub other_begins : IsPrefix other longer
