-- What the rule says of each seat, and of the word.
use Rattle.std.proofs.Common.{◌≡◌, ◌≢◌, ⊎_elim, ℕ, zero, suc, ◌≤◌, List, [], ◌∷◌, ◌++◌, length, set, Some, sym, refl, ap, ◌∙◌, subst, arith}
use mathlib.Core.Option.{some, some-injective, some-ne-none}
use lib.ListN.{get_elem?}
use Rattle.atomic_table.proofs.Lists.{at_set, at_snoc}
use Rattle.fj_gate.specs.Rule.{admitted, turned_away, EachSeat, IsOpen, IsClosed, IsGate}
use Rattle.fj_gate.specs.declared.word.View.{View}
use Rattle.fj_gate.proofs.Lists.{length-joined, sum_by-bound}

-- what holds of each seat, after a change of one
pub EachSeat-set : (P Q : View → Type 0) (views : List View) (seat : ℕ) (w : View) → EachSeat P views → ((u : View) → P u → Q u) → Q w → EachSeat Q (set views seat w)
EachSeat-set P Q views seat w all weaker here j u at =
    ⊎_elim (λ (t : (j ≡ seat) × (w ≡ u)). subst Q t.1 here) (λ (t : (j ≢ seat) × (get_elem? views j ≡ some u)). weaker u (all j u t.1)) (at_set views seat j w u at)

-- the same with one seat more
pub EachSeat-push : (P : View → Type 0) (views : List View) (w : View) → EachSeat P views → P w → EachSeat P (views ++ w ∷ [])
EachSeat-push P views w all here j u at = ⊎_elim (all j u) (λ (e : w ≡ u). subst P e here) (at_snoc views w u j at)

-- the first seat, after a change of one that keeps its closing number
pub first_after : (views : List View) (seat : ℕ) (v w h : View) → get_elem? views seat ≡ some v → get_elem? views 0 ≡ some h → w.closed ≡ v.closed → (u : View) × (get_elem? (set views seat w) 0 ≡ some u) × (u.closed ≡ h.closed)
first_after [] seat v w h at first same = absurd (some-ne-none h (sym first))
first_after (x ∷ xs) zero v w h at first same = (w, refl, same ∙ ap (λ (y : View). y.closed) (some-injective v h (sym at ∙ first)))
first_after (x ∷ xs) (suc seat) v w h at first same = (x, refl, ap (λ (y : View). y.closed) (some-injective x h first))

-- the first seat, after a change of it
pub first_set : (views : List View) (v w : View) → get_elem? views 0 ≡ some v → get_elem? (set views 0 w) 0 ≡ some w
first_set [] v w at = absurd (some-ne-none v (sym at))
first_set (x ∷ xs) v w at = refl

-- the first seat knows the closing number
pub knows : (word : ℕ) (views : List View) (v : View) → get_elem? views 0 ≡ some v → IsClosed word views → v.closed ≡ Some (admitted views)
knows word views v at c = ap (λ (y : View). y.closed) (some-injective v c.1 (sym at ∙ c.2)) ∙ c.3

abbrev pub parts_of : View → ℕ
parts_of v = v.parts

-- the word stays far below 2 ^ 64
pub small : (word : ℕ) (views : List View) → IsGate word views → word ≤ 4194369
small word views r =
    let drawn = sum_by-bound (λ v. length v.drawn) parts_of 65536 views (λ seat v at. (r.3 seat v at).1) in
    let sent = sum_by-bound (λ v. v.told) parts_of 1 views (λ seat v at. let f = r.3 seat v at in omega arith) in
    let is = length-joined views in
    let parts = r.2 in
    let n : admitted views ≤ 2097152 = omega arith in
    let a : turned_away views ≤ 32 = omega arith in
    ⊎_elim (λ (o : IsOpen word views). let e = o.0 in omega arith) (λ (c : IsClosed word views). let e = c.0 in omega arith) r.0
