-- The parts around the one that is computed.
use Rattle.std.specs.Prelude.{ℕ, zero, suc, ◌≡◌, ◌+◌, ◌≤◌, ⊤, List, [], ◌∷◌, ◌++◌, Option, Some, None, filter_map}
use Rattle.fj_lazy.specs.declared.part.Inner.{Inner}
use Rattle.fj_lazy.specs.declared.part.Inner.TheVariants as inner
use Rattle.fj_lazy.specs.declared.part.Outer.{Outer}
use Rattle.fj_lazy.specs.declared.part.Outer.TheVariants as outer
use Rattle.fj_lazy.specs.declared.part.DescentEnd.{DescentEnd}
use Rattle.fj_lazy.specs.declared.part.DescentEnd.TheVariants as stop
use Rattle.fj_lazy.specs.declared.part.Climb.{Climb}
use Rattle.fj_lazy.specs.declared.part.Climb.TheVariants as climb

-- ---- the value of the whole

-- a part combined with the value beside it
abbrev pub beside : {J K O : Type 0} → (J → K) → (K → O) → (O → O → O) → Inner J K O → O → O
beside key_of value combined (inner.Pending j) v = combined v (value (key_of j))
beside key_of value combined (inner.Done o) v = combined o v

-- the same of an outer part
abbrev pub outside : {J K O : Type 0} → (K → O) → (O → O → O) → Outer J K O → O → O
outside value combined (outer.Forked t k) v = combined v (value k)
outside value combined (outer.Done o) v = combined o v

-- parts, the outermost one first, around a value
abbrev pub around : {P O : Type 0} → (P → O → O) → List P → O → O
around with_value [] v = v
around with_value (p ∷ ps) v = with_value p (around with_value ps v)

-- the inner parts around a value, and the outer ones around these
abbrev pub whole : {J K O : Type 0} → (J → K) → (K → O) → (O → O → O) → List (Outer J K O) → List (Inner J K O) → O → O
whole key_of value combined outers inners v = around (outside value combined) outers (around (beside key_of value combined) inners v)

-- parts, the innermost one first, around a value
abbrev pub inside : {P O : Type 0} → (P → O → O) → List P → O → O
inside with_value [] v = v
inside with_value (p ∷ ps) v = inside with_value ps (with_value p v)

-- ---- how much may still be begun

-- how many jobs a job of this size can split into, itself included
abbrev pub branches : ℕ → ℕ
branches zero = 1
branches (suc n) = 1 + branches n + branches n

-- how many jobs may be begun in a part
abbrev pub weight : {J K O : Type 0} → (J → ℕ) → Inner J K O → ℕ
weight size (inner.Pending j) = branches (size j)
weight size (inner.Done o) = 0

abbrev pub weigh : {P : Type 0} → (P → ℕ) → List P → ℕ
weigh weight_of [] = 0
weigh weight_of (p ∷ ps) = weight_of p + weigh weight_of ps

-- ---- tasks

-- the task of a part that was forked
abbrev pub task_of : {J K O : Type 0} → Outer J K O → Option ℕ
task_of (outer.Forked t k) = Some t
task_of (outer.Done o) = None

-- the tasks that were forked, and are neither joined nor released yet, in the order of their forks
abbrev pub forked_in : {J K O : Type 0} → List (Outer J K O) → List ℕ
forked_in parts = filter_map task_of parts

-- ---- where a descent stops

-- with the parts around it, the innermost first, it gives the value w; a leaf is one
abbrev pub StopsAt : {J K O : Type 0} → (J → K) → (K → O) → (J → O) → (O → O → O) → List (Inner J K O) → O → Option (DescentEnd J K O) → Type 0
StopsAt key_of value leaf_of combined parts w None = ⊥
StopsAt key_of value leaf_of combined parts w (Some (stop.Leaf j)) = (inside (beside key_of value combined) parts (value (key_of j)) ≡ w) × (value (key_of j) ≡ leaf_of j)
StopsAt key_of value leaf_of combined parts w (Some (stop.Deep j)) = inside (beside key_of value combined) parts (value (key_of j)) ≡ w

-- how many jobs may be begun in a job that is too deep
abbrev pub deep_weight : {J K O : Type 0} → (J → ℕ) → Option (DescentEnd J K O) → ℕ
deep_weight size (Some (stop.Deep j)) = branches (size j)
deep_weight size _ = 0

-- ---- where a climb ends

-- what comes next gives the value w, with what is left of the outer and inner parts
abbrev pub Climbs : {J K O : Type 0} → (J → K) → (K → O) → (O → O → O) → List (Outer J K O) → List (Inner J K O) → O → Climb J K O → Type 0
Climbs key_of value combined outers inners w (climb.Next j) = whole key_of value combined outers inners (value (key_of j)) ≡ w
Climbs key_of value combined outers inners w (climb.Join t k v) = (inners ≡ []) × (around (outside value combined) outers (combined v (value k)) ≡ w)
Climbs key_of value combined outers inners w (climb.Skip t v) = (inners ≡ []) × (around (outside value combined) outers v ≡ w)
Climbs key_of value combined outers inners w (climb.Whole v) = v ≡ w

-- the job that comes next is one that was pending
abbrev pub ClimbsLighter : {J K O : Type 0} → (J → ℕ) → List (Inner J K O) → List (Inner J K O) → Climb J K O → Type 0
ClimbsLighter size olds news (climb.Next j) = weigh (weight size) news + branches (size j) ≤ weigh (weight size) olds
ClimbsLighter size olds news _ = ⊤

-- it joins or releases the task that was forked last; at the end there is none
abbrev pub ClimbJoins : {J K O : Type 0} → List ℕ → List ℕ → Climb J K O → Type 0
ClimbJoins olds news (climb.Next j) = olds ≡ news
ClimbJoins olds news (climb.Join t k v) = olds ≡ news ++ t ∷ []
ClimbJoins olds news (climb.Skip t v) = olds ≡ news ++ t ∷ []
ClimbJoins olds news (climb.Whole v) = olds ≡ []
