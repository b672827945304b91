-- Sums and joined lists over all seats, after a change of one of them.
use Rattle.std.proofs.Common.{◌≡◌, ℕ, zero, suc, ◌+◌, ◌*◌, ◌≤◌, ◌==◌, cond, nat_lt, List, [], ◌∷◌, ◌++◌, length, set, sym, refl, ap, ◌∙◌, arith, sum_by}
use Rattle.std.proofs.lemmas.Bool.Decides.{nat_tests}
use Rattle.std.proofs.lemmas.List.Sums.{sum_by-cons}
use Rattle.std.proofs.lemmas.List.Concat.{length-flat_map}
use mathlib.Core.Option.{some, some-injective, some-ne-none}
use lib.ListN.{get_elem?}
use Rattle.fj_rules.specs.Lists.{times_in}
use Rattle.fj_gate.specs.Rule.{joined}
use Rattle.fj_gate.specs.declared.word.View.{View}
use Rattle.fj_rules.proofs.Lists.Members.{times_in_append}

pub times_in-one : (x y : ℕ) → times_in x (y ∷ []) ≡ cond (y == x) 1 0
times_in-one x y = omega (arith, sum_by-cons (λ z. cond (z == x) 1 0) y [])

pub times_in-joined : (x : ℕ) (views : List View) → times_in x (joined views) ≡ sum_by (λ v. times_in x v.drawn) views
times_in-joined x [] = refl
times_in-joined x (v ∷ vs) = times_in_append x v.drawn (joined vs) ∙ ap (λ n. times_in x v.drawn + n) (times_in-joined x vs) ∙ sym (sum_by-cons (λ u. times_in x u.drawn) v vs)

pub length-joined : (views : List View) → length (joined views) ≡ sum_by (λ v. length v.drawn) views
length-joined views = length-flat_map (λ v. v.drawn) views

-- the sum after a change of one seat
pub sum_by-set : (f : View → ℕ) (views : List View) (seat : ℕ) (v w : View) → get_elem? views seat ≡ some v → sum_by f (set views seat w) + f v ≡ sum_by f views + f w
sum_by-set f [] seat v w at = absurd (some-ne-none v (sym at))
sum_by-set f (u ∷ us) zero v w at =
    let is : f u ≡ f v = ap f (some-injective u v at) in
    let a = sum_by-cons f u us in
    let b = sum_by-cons f w us in omega arith
sum_by-set f (u ∷ us) (suc seat) v w at =
    let r = sum_by-set f us seat v w at in
    let a = sum_by-cons f u us in
    let b = sum_by-cons f u (set us seat w) in omega arith

-- a bound on each seat bounds the sum
pub sum_by-bound : (f g : View → ℕ) (c : ℕ) (views : List View) → ((seat : ℕ) (v : View) → get_elem? views seat ≡ some v → f v ≤ c * g v) → sum_by f views ≤ c * sum_by g views
sum_by-bound f g c [] each = omega arith
sum_by-bound f g c (v ∷ vs) each =
    let here = each 0 v refl in
    let r = sum_by-bound f g c vs (λ seat u at. each (suc seat) u at) in
    let a = sum_by-cons f v vs in
    let b = sum_by-cons g v vs in
    let spread : c * (g v + sum_by g vs) ≡ c * g v + c * sum_by g vs = omega arith in
    let whole : c * sum_by g (v ∷ vs) ≡ c * (g v + sum_by g vs) = ap (λ n. c * n) b in omega arith

-- the drawn lists stay, where the seat's list does
pub joined-set_same : (views : List View) (seat : ℕ) (v w : View) → get_elem? views seat ≡ some v → w.drawn ≡ v.drawn → joined (set views seat w) ≡ joined views
joined-set_same [] seat v w at same = refl
joined-set_same (u ∷ us) zero v w at same = let is : v.drawn ≡ u.drawn = ap (λ (y : View). y.drawn) (sym (some-injective u v at)) in ap (λ (l : List ℕ). l ++ joined us) (same ∙ is)
joined-set_same (u ∷ us) (suc seat) v w at same = ap (λ (l : List ℕ). u.drawn ++ l) (joined-set_same us seat v w at same)

-- one number more
pub one_more : (x n : ℕ) → cond (nat_lt x n) 1 0 + cond (n == x) 1 0 ≡ cond (nat_lt x (n + 1)) 1 0
one_more x n = grind (arith, nat_tests)
