-- The rules of a filter: what it does at each line, and where these rules lead.
use Rattle.std.specs.Prelude.{ℕ, Bool, List, [], ◌∷◌, ◌++◌, Option, Some, is_some}
use Rattle.std.specs.Option.{option_and_then, option_map_or}

-- the meaning of a line at a state. S is why a line may not stand where it does
pub record Rules (A S : Type 0) : Type 1 where
  -- the state after the line, if the line may stand there
  pub after : A → List ℕ → Option A
  -- what is written at the line
  pub text : A → List ℕ → List ℕ
  -- why the line may not stand there
  pub Stops : A → List ℕ → S → Type 0
  -- whether the heading has come, so that the input may end there
  pub has_heading : A → Bool
  -- the most bytes of a line that may stand anywhere
  pub longest : ℕ

-- the state after these lines, if each of them may stand where it is
abbrev pub state_from : {A S : Type 0} → Rules A S → A → List (List ℕ) → Option A
state_from rules state [] = Some state
state_from rules state (line ∷ later) = option_and_then (λ next. state_from rules next later) (rules.after state line)

-- what is written at these lines, up to the first that may not stand where it is
abbrev pub text_from : {A S : Type 0} → Rules A S → A → List (List ℕ) → List ℕ
text_from rules state [] = []
text_from rules state (line ∷ later) = option_map_or (λ next. rules.text state line ++ text_from rules next later) (rules.after state line) []

-- whether each of the lines may stand where it is
abbrev pub is_good : {A S : Type 0} → Rules A S → A → List (List ℕ) → Bool
is_good rules first ls = is_some (state_from rules first ls)
