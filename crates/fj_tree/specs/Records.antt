-- The records of the tasks that are kept, by key.
use Rattle.std.specs.Prelude.{ℕ, Bool, true, false, ◌≡◌, ◌≢◌, ◌<◌, ◌≤◌, ◌+◌, ◌==◌, if◌then◌else◌, List, Option, Some, None, is_some, IsSome, IsSomeAnd, IsTrue, option_map, option_and_then, slice_index_or, slice_set}
use Rattle.std.specs.List.{count_by, find}
use Rattle.slab.specs.Slab.{entries_from}
use Rattle.fj_rules.specs.declared.limits.TheConstants.{MAX_PENDING}
use Rattle.fj_rules.specs.declared.status.Status.{Status}
use Rattle.fj_rules.specs.declared.place.Place.{Place}
use Rattle.fj_rules.specs.Tasks.{parent_in, is_completer_kind}
use Rattle.fj_tree.specs.Handles.{Handle}
use Rattle.fj_tree.specs.declared.record.Record.{Record}

-- the record or nothing at each key from 0 on, how many records were made so far, and how many may be kept together
pub record Records : Type 0 where
  pub slots : List (Option Record)
  pub made : ℕ
  pub room : ℕ

-- the record at a key
abbrev pub record_at : Records → ℕ → Option Record
record_at t key = slice_index_or t.slots key None

-- how many records are kept
abbrev pub count : Records → ℕ
count t = count_by is_some t.slots

-- the record, if it has this number
abbrev pub if_numbered : ℕ → Record → Option Record
if_numbered n r = if r.serial == n then Some r else None

-- the record of a handle; none where the handle is not good
abbrev pub record_of : Records → Handle → Option Record
record_of t h = option_and_then (if_numbered h.serial) (record_at t h.key)

abbrev pub IsGood : Records → Handle → Type 0
IsGood t h = IsSome (record_of t h)

-- the handle is good, and its record a completer's
abbrev pub IsCompleter : Records → Handle → Type 0
IsCompleter t h = IsSomeAnd (record_of t h) (λ r. IsTrue (is_completer_kind (Some r.kind)))

-- the kept record of this number, with its key
abbrev pub entry_of : Records → ℕ → Option (ℕ × Record)
entry_of t n = find (λ e. e.1.serial == n) (entries_from 0 t.slots)

-- the handle of the kept record of this number
abbrev pub handle_of : Records → ℕ → Option Handle
handle_of t n = option_map (λ e. record { key = e.0; serial = n }) (entry_of t n)

-- the same records, but the record at this key changed so
abbrev pub changed : Records → ℕ → (Record → Record) → Records
changed t key change = record t { slots = slice_set t.slots key (option_map change (record_at t key)) }

-- each record is changed so
abbrev pub ChangesEach : Records → Records → (Record → Record) → Type 0
ChangesEach old new change = (key : ℕ) → record_at new key ≡ option_map change (record_at old key)

-- each record at another key is changed so
abbrev pub ChangesOthers : Records → Records → ℕ → (Record → Record) → Type 0
ChangesOthers old new key change = (other : ℕ) → other ≢ key → record_at new other ≡ option_map change (record_at old other)

-- each record at another key stays as it is
abbrev pub KeepsOthers : Records → Records → ℕ → Type 0
KeepsOthers old new key = (other : ℕ) → other ≢ key → record_at new other ≡ record_at old other

-- no kept record has this number
abbrev pub HasNone : Records → ℕ → Type 0
HasNone t n = (key : ℕ) (r : Record) → record_at t key ≡ Some r → r.serial ≢ n

-- the number of the parent in the record of a handle
abbrev pub parent_at : Records → Handle → Option ℕ
parent_at t h = parent_in (option_map (λ r. r.kind) (record_of t h))

abbrev pub with_status : Status → Record → Record
with_status s r = record r { status = s }

abbrev pub with_place : Place → Record → Record
with_place p r = record r { place = p }

abbrev pub with_added : ℕ → Record → Record
with_added n r = record r { pending = r.pending + n }

abbrev pub made_spent : Record → Record
made_spent r = record r { fired = true }

-- the invariant of each record, where so many were made so far
pub record IsSoundRecord (made : ℕ) (r : Record) : Type 0 where
  pub number : r.serial < made
  pub parent : (p : ℕ) → parent_in (Some r.kind) ≡ Some p → p < r.serial
  pub pending : r.pending ≤ MAX_PENDING
  pub children : r.children ≤ made

-- whether this is the named number, if there is one
abbrev pub is_named : Option ℕ → ℕ → Bool
is_named None n = false
is_named (Some p) n = n == p

-- whether the slot has a record that names this number as its parent
abbrev pub names_parent : ℕ → Option Record → Bool
names_parent n None = false
names_parent n (Some r) = is_named (parent_in (Some r.kind)) n

-- how many records name this number as their parent
abbrev pub children_of : Records → ℕ → ℕ
children_of t n = count_by (names_parent n) t.slots

-- a completer of this number is kept
pub record HasCompleter (t : Records) (n : ℕ) : Type 0 where
  pub key : ℕ
  pub there : Record
  pub is : record_at t key ≡ Some there
  pub number : there.serial ≡ n
  pub completer : IsTrue (is_completer_kind (Some there.kind))

-- the invariant of all records together
pub record IsSound (t : Records) : Type 0 where
  pub each : (key : ℕ) (r : Record) → record_at t key ≡ Some r → IsSoundRecord t.made r
  pub once : (key other : ℕ) (r s : Record) → record_at t key ≡ Some r → record_at t other ≡ Some s → r.serial ≡ s.serial → key ≡ other
  pub children : (key : ℕ) (r : Record) → record_at t key ≡ Some r → r.children ≡ children_of t r.serial
  pub parents : (key : ℕ) (r : Record) (p : ℕ) → record_at t key ≡ Some r → parent_in (Some r.kind) ≡ Some p → HasCompleter t p
  pub room : count t ≤ t.room
