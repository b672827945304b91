-- An answer on a line of its own.
use Rattle.std.specs.Prelude.{ℕ, ◌≡◌, ◌⊎◌, List, [], ◌∷◌, ◌++◌, decimal, Option}
use Rattle.std.specs.Io.KnownBytes.{Appends}
use Rattle.fj_lines.specs.declared.read.TheConstants.{LINE_FEED}
use Rattle.fj_streams.specs.Beginnings.{AppendsSome}

-- the line of a number
abbrev pub number_line : ℕ → List ℕ
number_line n = decimal n ++ LINE_FEED ∷ []

-- a command, or a job, whose answer is this line ended with this exit status: 0 where the line was written; where a write failed a prefix of
-- it was; else nothing
pub record EndsJob (status : ℕ) (line : List ℕ) (start now : Option (List ℕ)) : Type 0 where
  pub known : (status ≡ 0) ⊎ ((status ≡ 3) ⊎ ((status ≡ 4) ⊎ (status ≡ 5)))
  pub written : status ≡ 0 → Appends start now line
  pub begun : status ≡ 5 → AppendsSome start now line
  pub silent : (status ≡ 3) ⊎ (status ≡ 4) → now ≡ start
