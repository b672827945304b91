-- The numbers by which records are found, each with the key of its record.
use Rattle.std.specs.Prelude.{ℕ, Bool, false, ◌≡◌, ◌≢◌, ◌<◌, ◌+◌, ◌==◌, nat_lt, if◌then◌else◌, List, Option, Some, None, length, filter, slice_index_or, is_some}
use Rattle.std.specs.List.{count_by}
use Rattle.fj_tree.specs.declared.record.Record.{Record}

-- a number and a key, one pair a record
abbrev pub Pairs : Type 0
Pairs = List (ℕ × ℕ)

-- the pairs, how many of them may be of kept records, and how many are of records that were released
pub record Numbers : Type 0 where
  pub pairs : Pairs
  pub room : ℕ
  pub released : ℕ

-- the number of the pair at a place
abbrev pub number_at : Pairs → ℕ → ℕ
number_at l i = let pair = slice_index_or l i (0, 0) in pair.0

-- the key of the pair at a place
abbrev pub key_at : Pairs → ℕ → ℕ
key_at l i = let pair = slice_index_or l i (0, 0) in pair.1

-- the numbers rise strictly
abbrev pub IsRising : Pairs → Type 0
IsRising l = (i j : ℕ) → i < j → j < length l → number_at l i < number_at l j

-- no number is as large as this one
abbrev pub IsAbove : Pairs → ℕ → Type 0
IsAbove l n = (i : ℕ) → i < length l → number_at l i < n

-- the number is at this place
pub record IsAt (l : Pairs) (n i : ℕ) : Type 0 where
  pub in_range : i < length l
  pub number : number_at l i ≡ n

-- the number is not in the list
abbrev pub IsAbsent : Pairs → ℕ → Type 0
IsAbsent l n = (i : ℕ) → i < length l → number_at l i ≢ n

-- this number with this key is one of the pairs
pub record IsListed (l : Pairs) (n key : ℕ) : Type 0 where
  pub place : ℕ
  pub in_range : place < length l
  pub is : slice_index_or l place (0, 0) ≡ (n, key)

-- whether this is the record of the number
abbrev pub has_number : Option Record → ℕ → Bool
has_number None n = false
has_number (Some r) n = r.serial == n

-- whether the record of a pair is kept: the record at its key has its number
abbrev pub is_current : List (Option Record) → ℕ × ℕ → Bool
is_current slots pair = has_number (slice_index_or slots pair.1 None) pair.0

-- the compacted list: the numbers whose record is kept
abbrev pub closed_up : List (Option Record) → Numbers → Numbers
closed_up slots l = record { pairs = filter (is_current slots) l.pairs; room = l.room; released = 0 }

-- the list after one more release, which compacts it once as many records were released as there is room for
abbrev pub after_release : List (Option Record) → Numbers → Numbers
after_release slots l = if nat_lt (l.released + 1) l.room then record l { released = l.released + 1 } else closed_up slots l

-- each record's number is listed with its key; the others in the list are of released records
pub record IsIndex (slots : List (Option Record)) (l : Numbers) : Type 0 where
  pub listed : (key : ℕ) (r : Record) → slice_index_or slots key None ≡ Some r → IsListed l.pairs r.serial key
  pub current : count_by (is_current slots) l.pairs ≡ count_by is_some slots
  pub count : length l.pairs ≡ count_by is_some slots + l.released

-- how many probes there were, where there was a last one after so many
abbrev pub count_after : Option ℕ → ℕ
count_after None = 0
count_after (Some before) = before + 1
