-- Where a descent stops, with one more part around that.
use Rattle.std.specs.Prelude.{Option, Some, None}
use Rattle.std.proofs.Common.{ℕ, ◌≡◌, ◌+◌, ◌<◌, ◌≤◌, List, [], ◌∷◌, ◌++◌, ◌∙◌, ap, arith}
use Rattle.fj_lazy.specs.declared.part.Inner.{Inner}
use Rattle.fj_lazy.specs.declared.part.DescentEnd.{DescentEnd}
use Rattle.fj_lazy.specs.declared.part.DescentEnd.TheVariants.{Leaf, Deep}
use Rattle.fj_lazy.specs.PartsAside.{StopsAt, beside, branches, weigh, weight}
use Rattle.fj_lazy.proofs.Around.{branches_halves, inside_taken, weigh_taken}

pub stops_around : {J K O : Type 0} (key_of : J → K) (value : K → O) (leaf_of : J → O) (combined : O → O → O) (news parts : List (Inner J K O)) (p : Inner J K O) (v w : O) (stop : Option (DescentEnd J K O)) → StopsAt key_of value leaf_of combined parts v stop → news ≡ parts ++ p ∷ [] → beside key_of value combined p v ≡ w → StopsAt key_of value leaf_of combined news w stop
stops_around key_of value leaf_of combined news parts p v w None h e i = h
stops_around key_of value leaf_of combined news parts p v w (Some (Leaf j)) h e i = (inside_taken (beside key_of value combined) news parts p (value (key_of j)) e ∙ ap (beside key_of value combined p) h.0 ∙ i, h.1)
stops_around key_of value leaf_of combined news parts p v w (Some (Deep j)) h e i = inside_taken (beside key_of value combined) news parts p (value (key_of j)) e ∙ ap (beside key_of value combined p) h ∙ i

-- within the left half, the right one may be begun yet
pub lighter_left : {J K O : Type 0} (size : J → ℕ) (news parts : List (Inner J K O)) (p : Inner J K O) (stop left right n : ℕ) → weigh (weight size) parts + stop ≤ branches left → news ≡ parts ++ p ∷ [] → weight size p ≡ branches right → left < n → right < n → weigh (weight size) news + stop < branches n
lighter_left size news parts p stop left right n h e i l r = omega (arith, h, weigh_taken (weight size) news parts p e, i, branches_halves left right n l r)

-- within the right one nothing more
pub lighter_right : {J K O : Type 0} (size : J → ℕ) (news parts : List (Inner J K O)) (p : Inner J K O) (stop left right n : ℕ) → weigh (weight size) parts + stop ≤ branches right → news ≡ parts ++ p ∷ [] → weight size p ≡ 0 → left < n → right < n → weigh (weight size) news + stop < branches n
lighter_right size news parts p stop left right n h e i l r = omega (arith, h, weigh_taken (weight size) news parts p e, i, branches_halves left right n l r)
