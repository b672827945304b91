-- What the result of a filter says of the bytes that were read. `first` is the state before the first line.
use Rattle.std.specs.Prelude.{ℕ, ◌≡◌, ◌≢◌, ◌+◌, ◌<◌, ◌≤◌, ◌⊎◌, List, [], ◌∷◌, ◌++◌, Option, Some, None, true, false, is_some, length}
use Rattle.std.specs.Io.KnownBytes.{Appends, Consumes, IsAtEnd}
use Rattle.fj_streams.specs.Beginnings.{AppendsSome}
use Rattle.fj_streams.specs.declared.fault.FilterFault.{FilterFault}
use Rattle.fj_streams.specs.declared.fault.FilterFault.TheVariants.{Stop, Line, Memory, Read, Write}
use Rattle.fj_streams.specs.declared.fault.LineStop.{LineStop}
use Rattle.fj_streams.specs.declared.fault.LineStop.TheVariants as fails
use Rattle.fj_streams.specs.Cuts.{lines, rest}
use Rattle.fj_streams.specs.Rules.{Rules, state_from, text_from, is_good}

module _ {A S : Type 0} (rules : Rules A S) where
  -- ---- one line

  -- what a fault at this line says, and what was written of it
  abbrev pub StopsAtLine : A → List ℕ → LineStop S → Option (List ℕ) → Option (List ℕ) → Type 0
  StopsAtLine state line (fails.Stop stop) old new = (rules.after state line ≡ None) × rules.Stops state line stop × Appends old new []
  StopsAtLine state line fails.Memory old new = (is_some (rules.after state line) ≡ true) × AppendsSome old new (rules.text state line)
  StopsAtLine state line fails.Write old new = (is_some (rules.after state line) ≡ true) × AppendsSome old new (rules.text state line)

  -- ---- many lines

  -- the line with this number is whole and may not stand there, for this reason, and all before it may
  pub record Stands (first : A) (n : ℕ) (stop : S) (b : List ℕ) : Type 0 where
    pub before : List (List ℕ)
    pub line : List ℕ
    pub later : List (List ℕ)
    pub state : A
    pub cut : lines b ≡ before ++ line ∷ later
    pub number : n ≡ length before + 1
    pub good : state_from rules first before ≡ Some state
    pub barred : rules.after state line ≡ None
    pub reason : rules.Stops state line stop

  -- the line with this number is whole and longer than any that may stand anywhere, and all before it may stand where they are
  pub record IsLong (first : A) (n : ℕ) (b : List ℕ) : Type 0 where
    pub before : List (List ℕ)
    pub line : List ℕ
    pub later : List (List ℕ)
    pub state : A
    pub cut : lines b ≡ before ++ line ∷ later
    pub number : n ≡ length before + 1
    pub good : state_from rules first before ≡ Some state
    pub long : rules.longest < length line

  -- the line with this number has not ended, and all before it may stand where they are
  pub record IsUnended (first : A) (n : ℕ) (b : List ℕ) : Type 0 where
    pub number : n ≡ length (lines b) + 1
    pub good : is_good rules first (lines b) ≡ true

  -- the bytes are good so far, and have no heading
  abbrev pub LacksHeading : A → List ℕ → Type 0
  LacksHeading first b = (state : A) × (state_from rules first (lines b) ≡ Some state) × (rules.has_heading state ≡ false)

  -- this line is the first that is longer than any that may stand, or that does not end: the input ends within it or before the heading
  abbrev pub IsNoLine : A → ℕ → List ℕ → Option (List ℕ) → Type 0
  IsNoLine first n b ahead =
      IsLong first n b
      ⊎ (IsUnended first n b × ((rules.longest < length (rest b)) ⊎ (IsAtEnd ahead × ((rest b ≢ []) ⊎ LacksHeading first b))))

  -- so far all is good: the whole lines may stand where they are, and the present line is not too long
  pub record IsGoodSoFar (first : A) (b : List ℕ) : Type 0 where
    pub good : is_good rules first (lines b) ≡ true
    pub short : length (rest b) ≤ rules.longest

  -- what a fault says of the bytes that were read, of those ahead, and of what was written
  abbrev pub FaultOf : A → FilterFault S → List ℕ → Option (List ℕ) → Option (List ℕ) → Option (List ℕ) → Type 0
  FaultOf first (Stop n stop) b ahead start now = Stands first n stop b × Appends start now (text_from rules first (lines b))
  FaultOf first (Line n) b ahead start now = IsNoLine first n b ahead × Appends start now (text_from rules first (lines b))
  FaultOf first Memory b ahead start now = AppendsSome start now (text_from rules first (lines b))
  FaultOf first Read b ahead start now = IsGoodSoFar first b × Appends start now (text_from rules first (lines b))
  FaultOf first Write b ahead start now = AppendsSome start now (text_from rules first (lines b))

  -- the work on these bytes ended by this fault
  pub record EndsFrom (first : A) (fault : FilterFault S) (b : List ℕ) (before ahead start now : Option (List ℕ)) : Type 0 where
    pub read : Consumes before ahead b
    pub means : FaultOf first fault b ahead start now

  -- ---- all lines

  -- the lines lead to this state, which has a heading, and nothing follows the last line feed
  pub record IsWhole (first last : A) (b : List ℕ) : Type 0 where
    pub good : state_from rules first (lines b) ≡ Some last
    pub headed : rules.has_heading last ≡ true
    pub ended : rest b ≡ []

  -- these bytes are the whole input and lead to this state, and their text was written
  pub record IsFinished (first last : A) (b : List ℕ) (before ahead start now : Option (List ℕ)) : Type 0 where
    pub read : Consumes before ahead b
    pub whole : IsAtEnd ahead
    pub input : IsWhole first last b
    pub written : Appends start now (text_from rules first (lines b))

  -- the same of some bytes
  abbrev pub Finishes : A → A → Option (List ℕ) → Option (List ℕ) → Option (List ℕ) → Option (List ℕ) → Type 0
  Finishes first last before ahead start now = (b : List ℕ) × IsFinished first last b before ahead start now
