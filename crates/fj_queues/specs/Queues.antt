-- One queue of task numbers for each owner, oldest numbers first.
use Rattle.std.specs.Prelude.{ℕ, ◌+◌, ◌-◌, ◌%◌, List, [], ◌∷◌, length, get_or, slice_set, drop, take, map, Option, Some, None, if◌then◌else◌}
use Rattle.std.specs.List.{range_with_len, sum_by}
use Rattle.fj_rules.specs.Lists.{is_empty}

-- the queues, and how many numbers may be in all of them together
pub record Lists : Type 0 where
  pub lists : List (List ℕ)
  pub room : ℕ

-- an owner's queue
abbrev pub queue_at : Lists → ℕ → List ℕ
queue_at qs o = get_or qs.lists o []

-- with another queue for that owner, and the same for all others
abbrev pub with_queue : Lists → ℕ → List ℕ → Lists
with_queue qs o ts = record { lists = slice_set qs.lists o ts; room = qs.room }

-- how many numbers are in these lists
abbrev pub all_in : List (List ℕ) → ℕ
all_in lists = sum_by length lists

-- how many numbers are in all queues
abbrev pub total : Lists → ℕ
total qs = all_in qs.lists

-- all but the oldest; empty for an empty queue
abbrev pub without_first : List ℕ → List ℕ
without_first ts = drop 1 ts

-- all but the newest; empty for an empty queue
abbrev pub without_last : List ℕ → List ℕ
without_last ts = take (length ts - 1) ts

-- the first of these places at which the list is not empty
abbrev pub first_filled : List (List ℕ) → List ℕ → Option ℕ
first_filled lists [] = None
first_filled lists (o ∷ places) = if is_empty (get_or lists o []) then first_filled lists places else Some o

-- all places from r on, wrapping around
abbrev pub places_from : ℕ → ℕ → List ℕ
places_from count r = map (λ i. (r + i) % count) (range_with_len 0 count)
