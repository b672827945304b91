-- What a line buffer keeps, and what bytes do to it and to the state of a filter.
use Rattle.std.specs.Prelude.{ℕ, ⊤, ◌≡◌, ◌≢◌, ◌+◌, ◌<◌, ◌≤◌, ◌⊎◌, List, [], ◌++◌, Option, Some, false, length}
use Rattle.std.specs.Io.KnownBytes.{Appends}
use Rattle.fj_streams.specs.Calls.{Calls, HasFailed, IsFine}
use Rattle.fj_streams.specs.declared.fault.FilterFault.{FilterFault}
use Rattle.fj_streams.specs.declared.fault.FilterFault.TheVariants.{Stop, Line, Memory, Read, Write}
use Rattle.fj_streams.specs.declared.fault.LineStop.{LineStop}
use Rattle.fj_streams.specs.Cuts.{lines, rest}
use Rattle.fj_streams.specs.Kept.{Kept}
use Rattle.fj_streams.specs.Rules.{Rules, state_from, text_from}
use Rattle.fj_streams.specs.Faults.{FaultOf, StopsAtLine}
use Rattle.fj_streams.specs.Starving.{Starves}
use Rattle.fj_streams.specs.Tells.{fault_at}

-- before anything was read
abbrev pub nothing_kept : ℕ → Kept
nothing_kept longest = record { count = 0; line = []; longest = longest }

-- after more bytes of the line
abbrev pub continued : Kept → List ℕ → Kept
continued v bytes = record v { line = v.line ++ bytes }

-- after the end of the line
abbrev pub after_line : Kept → Kept
after_line v = record v { count = v.count + 1; line = [] }

-- what a fault says of a writer where no read failed: it failed only at `Write`
abbrev pub WriterFails : {S : Type 0} → FilterFault S → Option Calls → Option Calls → Type 0
WriterFails (Stop n stop) old new = IsFine old new
WriterFails (Line n) old new = IsFine old new
WriterFails Memory old new = IsFine old new
WriterFails Read old new = ⊥
WriterFails Write old new = HasFailed old new

-- with so many more bytes the line is too long
abbrev pub IsTooLong : {S : Type 0} → Kept → ℕ → FilterFault S → Type 0
IsTooLong v more fault = (fault ≡ Line (v.count + 1)) × (v.longest < length v.line + more)

module _ {A S : Type 0} (rules : Rules A S) where
  -- these bytes are good so far, this is kept of them, this is the state after them, and their text was written
  pub record IsAt (first : A) (b : List ℕ) (v : Kept) (state : A) (start now : Option (List ℕ)) : Type 0 where
    pub count : v.count ≡ length (lines b)
    pub line : v.line ≡ rest b
    pub short : length v.line ≤ v.longest
    pub longest : v.longest ≡ rules.longest
    pub leads : state_from rules first (lines b) ≡ Some state
    pub written : Appends start now (text_from rules first (lines b))

  -- a fault of the line with this number, and what was written of it
  abbrev pub StopsAt : ℕ → A → List ℕ → FilterFault S → Option (List ℕ) → Option (List ℕ) → Type 0
  StopsAt n state line fault old new = (why : LineStop S) × (fault ≡ fault_at n why) × StopsAtLine rules state line why old new

  -- what a fault says in a line that ends after these bytes
  abbrev pub StopsInLine : Kept → A → List ℕ → FilterFault S → Option (List ℕ) → Option (List ℕ) → Type 0
  StopsInLine v state bytes fault old new =
      (IsTooLong v (length bytes) fault × Appends old new [])
      ⊎ ((length v.line + length bytes ≤ v.longest) × StopsAt (v.count + 1) state (v.line ++ bytes) fault old new)

  -- after any good bytes that lead there, these bytes are good too, and lead to the new state
  abbrev pub GoesOnBy : List ℕ → Kept → Kept → A → A → Option (List ℕ) → Option (List ℕ) → Type 0
  GoesOnBy bytes old new state later written now =
      (first : A) (b : List ℕ) (start : Option (List ℕ)) → IsAt first b old state start written → IsAt first (b ++ bytes) new later start now

  -- after any good bytes that lead there, these bytes end in this fault
  abbrev pub EndsInside : List ℕ → Kept → A → FilterFault S → Option (List ℕ) → Option (List ℕ) → Type 0
  EndsInside bytes old state fault written now =
      (first : A) (b : List ℕ) (start ahead : Option (List ℕ)) → IsAt first b old state start written → FaultOf rules first fault (b ++ bytes) ahead start now

  -- what a fault at the end of the input says: the input ends within a line, or before the heading
  abbrev pub EndsEarly : Kept → A → FilterFault S → Type 0
  EndsEarly v state fault = (fault ≡ Line (v.count + 1)) × ((v.line ≢ []) ⊎ (rules.has_heading state ≡ false))

-- ---- where memory ran out. `Needs` says which lines need some

module _ {A S : Type 0} (Needs : A → List ℕ → Type 0) where
  -- where it ran out at this line, the line needs some, and nothing was written of it
  abbrev pub StarvesAt : A → List ℕ → FilterFault S → Option (List ℕ) → Option (List ℕ) → Type 0
  StarvesAt state line (Stop n stop) old new = ⊤
  StarvesAt state line (Line n) old new = ⊤
  StarvesAt state line Memory old new = Needs state line × Appends old new []
  StarvesAt state line Read old new = ⊤
  StarvesAt state line Write old new = ⊤

  -- the same of a line that ends after these bytes, and is not too long
  abbrev pub StarvesInLine : Kept → A → List ℕ → FilterFault S → Option (List ℕ) → Option (List ℕ) → Type 0
  StarvesInLine v state bytes (Stop n stop) old new = ⊤
  StarvesInLine v state bytes (Line n) old new = ⊤
  StarvesInLine v state bytes Memory old new = (length v.line + length bytes ≤ v.longest) × Needs state (v.line ++ bytes) × Appends old new []
  StarvesInLine v state bytes Read old new = ⊤
  StarvesInLine v state bytes Write old new = ⊤

-- after any good bytes that lead there, memory runs out in these bytes at a line that needs some
abbrev pub StarvesInside : {A S : Type 0} → Rules A S → (A → List ℕ → Type 0) → List ℕ → Kept → A → FilterFault S → Option (List ℕ) → Option (List ℕ) → Type 0
StarvesInside rules Needs bytes old state fault written now =
    (first : _) (b : List ℕ) (start : Option (List ℕ)) → IsAt rules first b old state start written → Starves rules Needs first fault (b ++ bytes) start now
