-- Functions of lists and options.
use Rattle.std.specs.Prelude.{ℕ, Bool, true, false, not, ◌-◌, ◌==◌, List, [], ◌∷◌, length, Option, Some, None, slice_get}
use Rattle.std.specs.List.{filter, list_any, count_by}
use Rattle.fj_rules.specs.declared.event.Event.{Event}

-- whether the number is in the list
abbrev pub is_in : ℕ → List ℕ → Bool
is_in t ts = list_any (λ u. u == t) ts

-- whether the list has no member
abbrev pub is_empty : List ℕ → Bool
is_empty [] = true
is_empty (t ∷ ts) = false

-- the members of the first list that are not in the second
abbrev pub without : List ℕ → List ℕ → List ℕ
without ts us = filter (λ t. not (is_in t us)) ts

-- the first option, or the second if the first is none
abbrev pub or_else : {A : Type 0} → Option A → Option A → Option A
or_else (Some x) later = Some x
or_else None later = later

-- the first value that an event gives
abbrev pub first_said : {A : Type 0} → (Event → Option A) → List Event → Option A
first_said says [] = None
first_said says (e ∷ later) = or_else (says e) (first_said says later)

-- the number if the test holds, else none
abbrev pub number_if : Bool → ℕ → Option ℕ
number_if true t = Some t
number_if false t = None

abbrev pub first_of : List ℕ → Option ℕ
first_of ts = slice_get ts 0

abbrev pub last_of : List ℕ → Option ℕ
last_of ts = slice_get ts (length ts - 1)

-- how often the number occurs in the list
abbrev pub times_in : ℕ → List ℕ → ℕ
times_in t ts = count_by (λ u. u == t) ts
