-- What the result of a check says of the bytes that were read.
use Rattle.std.specs.Prelude.{ℕ, ◌≡◌, ◌≢◌, ◌+◌, ◌-◌, ◌^◌, ◌<◌, ◌≤◌, ◌⊎◌, ⊤, List, [], ◌∷◌, ◌++◌, Option, Some, None, length}
use Rattle.std.specs.Io.KnownBytes.{Consumes, IsAtEnd}
use Rattle.fj_rules.specs.Bounds.{Pool}
use Rattle.fj_rules.specs.Pasts.{Past}
use Rattle.fj_history.specs.declared.entry.Entry.{Entry}
use Rattle.fj_history.specs.declared.read.TheConstants.{MAX_ENTRY}
use Rattle.fj_history.specs.Entries.{entry_in}
use Rattle.fj_lines.specs.Lines.{head_in}
use Rattle.fj_lines.specs.Headings.{start, IsOutOfLimits}
use Rattle.fj_streams.specs.Calls.{HasFailed}
use Rattle.fj_streams.specs.declared.read_loop.TheConstants.{CHUNK}
use Rattle.fj_streams.specs.Cuts.{lines, rest}
use Rattle.fj_streams.specs.Tells.{Seen}
use Rattle.fj_check.specs.declared.fault.CheckFault.{CheckFault}
use Rattle.fj_check.specs.declared.fault.CheckFault.TheVariants.{Objection, Line, Limits, Memory, Read}
use Rattle.fj_check.specs.Entries.{MayCome, past_from}
use Rattle.fj_check.specs.Histories.{AreHistory, IsHistory}

-- these bytes are the whole input, and a history of so many events
pub record IsChecked (n : ℕ) (before ahead : Option (List ℕ)) : Type 0 where
  pub bytes : List ℕ
  pub read : Consumes before ahead bytes
  pub whole : IsAtEnd ahead
  pub history : IsHistory bytes n

-- these bytes are the whole input, and a history of this pool and these entries, and this is what has happened after them
pub record IsReadAs (past : Past) (before ahead : Option (List ℕ)) : Type 0 where
  pub bytes : List ℕ
  pub read : Consumes before ahead bytes
  pub whole : IsAtEnd ahead
  pub pool : Pool
  pub entries : List Entry
  pub lines : AreHistory (lines bytes) pool entries
  pub ended : rest bytes ≡ []
  pub after : past ≡ past_from (start pool) entries

-- the lines before this one are a history, and this one is the line of an entry that may not come
pub record IsBarred (n : ℕ) (b : List ℕ) : Type 0 where
  pub before : List (List ℕ)
  pub line : List ℕ
  pub later : List (List ℕ)
  pub pool : Pool
  pub entries : List Entry
  pub entry : Entry
  pub cut : lines b ≡ before ++ line ∷ later
  pub number : n ≡ length before + 1
  pub good : AreHistory before pool entries
  pub reads : entry_in line ≡ Some entry
  pub barred : MayCome (past_from (start pool) entries) entry → ⊥

-- the lines before it are none, or a history
abbrev pub AreGood : List (List ℕ) → Type 0
AreGood ls = (ls ≡ []) ⊎ ((pool : Pool) × (entries : List Entry) × AreHistory ls pool entries)

-- the line may stand nowhere behind these lines, whatever has happened: it is no heading, or no entry
abbrev pub IsNoEntry : List (List ℕ) → List ℕ → Type 0
IsNoEntry [] line = head_in line ≡ None
IsNoEntry (heading ∷ others) line = entry_in line ≡ None

-- the line behind those, or the end of the input, is at fault: it may stand nowhere, or is longer than any entry, or the input ends within
-- it or before the heading
abbrev pub IsWrong : List (List ℕ) → List (List ℕ) → List ℕ → Option (List ℕ) → Type 0
IsWrong before (line ∷ later) rest ahead = IsNoEntry before line ⊎ (MAX_ENTRY < length line)
IsWrong before [] rest ahead = (MAX_ENTRY < length rest) ⊎ (IsAtEnd ahead × ((rest ≢ []) ⊎ (before ≡ [])))

-- the lines before the one with this number are good, and this one is at fault
pub record IsFaulty (n : ℕ) (b : List ℕ) (ahead : Option (List ℕ)) : Type 0 where
  pub before : List (List ℕ)
  pub behind : List (List ℕ)
  pub cut : lines b ≡ before ++ behind
  pub number : n ≡ length before + 1
  pub good : AreGood before
  pub wrong : IsWrong before behind (rest b) ahead

-- the heading has a limit out of its range
pub record IsOpenedWrong (b : List ℕ) : Type 0 where
  pub heading : List ℕ
  pub others : List (List ℕ)
  pub cut : lines b ≡ heading ∷ others
  pub outside : IsOutOfLimits heading

-- what a fault says of the bytes that were read, and of those ahead
abbrev pub FaultMeans : CheckFault → List ℕ → Option (List ℕ) → Type 0
FaultMeans (Objection n why) b ahead = IsBarred n b
FaultMeans (Line n) b ahead = IsFaulty n b ahead
FaultMeans Limits b ahead = IsOpenedWrong b
FaultMeans Memory b ahead = ⊤
FaultMeans Read b ahead = AreGood (lines b)

-- some bytes were read, and this is what the fault says of them
abbrev pub StopsCheck : Option (List ℕ) → Option (List ℕ) → CheckFault → Type 0
StopsCheck before ahead fault = (b : List ℕ) × Consumes before ahead b × FaultMeans fault b ahead

-- a read of this input failed, or it has more lines than 64 bits count
abbrev pub FailsToRead : Seen → Type 0
FailsToRead r = HasFailed r.calls r.calls_after ⊎ ((b : List ℕ) × Consumes r.bytes r.bytes_after b × (2 ^ 64 - 1 - CHUNK ≤ length (lines b)))
