-- Sums over the seats, and what a change of one of them leaves.
use Rattle.std.proofs.Common.{◌≡◌, ◌≢◌, ⊎_elim, ℕ, zero, suc, ◌+◌, ◌≤◌, List, [], ◌∷◌, ◌++◌, length, set, sym, ap, ◌∙◌, subst, arith, sum_by}
use Rattle.std.proofs.lemmas.List.Sums.{sum_by-cons, sum_by_push}
use mathlib.Core.Option.{some, some-injective, some-ne-none}
use lib.ListN.{get_elem?}
use Rattle.atomic_table.proofs.Lists.{at_set, at_snoc, set_else}
use Rattle.fj_agreement.specs.Rule.{KnowsOnly, Agree}

module _ {V : Type 0} where
  abbrev pub count : List V → ℕ
  count known = length known

  -- the sum after a change of one seat
  pub sum_set : (views : List (List V)) (seat : ℕ) (v w : List V) → get_elem? views seat ≡ some v → sum_by count (set views seat w) + length v ≡ sum_by count views + length w
  sum_set [] seat v w at = absurd (some-ne-none v (sym at))
  sum_set (u ∷ us) zero v w at =
      let is : length u ≡ length v = ap count (some-injective u v at) in
      let a = sum_by-cons count u us in
      let b = sum_by-cons count w us in omega arith
  sum_set (u ∷ us) (suc seat) v w at =
      let r = sum_set us seat v w at in
      let a = sum_by-cons count u us in
      let b = sum_by-cons count u (set us seat w) in omega arith

  -- the sum has what each seat has
  pub within_sum : (views : List (List V)) (seat : ℕ) (v : List V) → get_elem? views seat ≡ some v → length v ≤ sum_by count views
  within_sum [] seat v at = absurd (some-ne-none v (sym at))
  within_sum (u ∷ us) zero v at =
      let is : length u ≡ length v = ap count (some-injective u v at) in
      let a = sum_by-cons count u us in omega arith
  within_sum (u ∷ us) (suc seat) v at =
      let r = within_sum us seat v at in
      let a = sum_by-cons count u us in omega arith

  -- a seat that knows nothing knows only this
  pub none_other : (value : V) (known : List V) → length known ≡ 0 → KnowsOnly value known
  none_other value known none k d h = absurd (omega arith)

  -- where one seat has both values, another has none
  pub others_none : (views : List (List V)) (seat : ℕ) (v : List V) → get_elem? views seat ≡ some v → sum_by count views ≡ length v → (other : ℕ) (u : List V) → other ≢ seat → get_elem? views other ≡ some u → length u ≡ 0
  others_none views seat v at all other u apart there =
      let emptied = sum_set views seat v [] at in
      let still : get_elem? (set views seat []) other ≡ some u = set_else views seat other [] apart ∙ there in
      let most = within_sum (set views seat []) other u still in omega arith

  -- the rule after a seat is cut in two: of the others, of the two parts, and of how much they have
  pub cut : (views : List (List V)) (seat : ℕ) (v left right : List V) (value : V) → get_elem? views seat ≡ some v
      → ((other : ℕ) (u : List V) → other ≢ seat → get_elem? views other ≡ some u → KnowsOnly value u)
      → KnowsOnly value left → KnowsOnly value right → length left + length right ≡ length v → sum_by count views ≡ 2
      → Agree (set views seat left ++ right ∷ [])
  cut views seat v left right value at others here there parts all =
      let part = set views seat left in (
        value,
        (λ j u is.
            ⊎_elim
            (λ (old : get_elem? part j ≡ some u).
            ⊎_elim
            (λ (t : (j ≡ seat) × (left ≡ u)). subst (λ (x : List V). KnowsOnly value x) t.1 here)
            (λ (t : (j ≢ seat) × (get_elem? views j ≡ some u)). others j u t.0 t.1)
            (at_set views seat j left u old))
            (λ (new : right ≡ u). subst (λ (x : List V). KnowsOnly value x) new there)
            (at_snoc part right u j is)),
        (
            let a = sum_set views seat v left at in
            let b = sum_by_push count part right in omega arith),
      )
