-- Which bytes are a history: a heading within the limits, and behind it entries each of which may come.
use Rattle.std.specs.Prelude.{ℕ, ◌≡◌, List, [], ◌∷◌, Some, map}
use Rattle.fj_rules.specs.Bounds.{Pool}
use Rattle.fj_lines.specs.Headings.{pool_in, start}
use Rattle.fj_history.specs.declared.entry.Entry.{Entry}
use Rattle.fj_history.specs.Entries.{HasEntryLine, entry_line}
use Rattle.fj_streams.specs.Cuts.{lines, rest}
use Rattle.fj_check.specs.Entries.{AllMayCome, event_count}

-- each of these has a line
abbrev pub AllHaveLines : List Entry → Type 0
AllHaveLines [] = Unit {0}
AllHaveLines (entry ∷ later) = HasEntryLine entry × AllHaveLines later

-- these lines are a heading within the limits and the lines of entries, each of which may come
pub record AreHistory (ls : List (List ℕ)) (pool : Pool) (entries : List Entry) : Type 0 where
  pub heading : List ℕ
  pub cut : ls ≡ heading ∷ map entry_line entries
  pub opens : pool_in heading ≡ Some pool
  pub small : AllHaveLines entries
  pub may : AllMayCome (start pool) entries

-- the bytes are a history of so many events, with nothing behind the last line feed
pub record IsHistory (b : List ℕ) (n : ℕ) : Type 0 where
  pub pool : Pool
  pub entries : List Entry
  pub lines : AreHistory (lines b) pool entries
  pub ended : rest b ≡ []
  pub count : n ≡ event_count entries
