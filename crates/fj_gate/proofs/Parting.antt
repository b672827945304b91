-- The gate at its start; the closer gives parts away to entrants, and takes them back with all that they know.
use Rattle.std.proofs.Common.{◌≡◌, ◌≢◌, inl, inr, ⊎_elim, ℕ, zero, suc, ◌+◌, ◌-◌, ◌*◌, ◌<◌, ◌≤◌, max, cond, nat_lt, List, [], ◌∷◌, ◌++◌, length, set, get_or, Some, sym, refl, ap, ◌∙◌, subst, arith, length-append, sum_by}
use Rattle.std.proofs.lemmas.Bool.Decides.{nat_tests}
use Rattle.std.proofs.lemmas.List.Sums.{sum_by_push}
use mathlib.Core.Option.{some, some-injective, some-ne-none}
use lib.ListN.{get_elem?}
use Rattle.atomic_table.specs.Table.{Splits, Joins}
use Rattle.atomic_table.proofs.Lists.{set_else, at_longer, at_set}
use Rattle.fj_rules.specs.Lists.{times_in}
use Rattle.fj_gate.specs.Rule.{joined, admitted, turned_away, IsUntold, IsOpen, IsClosed, Fits, IsGate, IsRuled}
use Rattle.fj_gate.specs.Steps.{fresh, less_one, together}
use Rattle.fj_gate.specs.declared.word.View.{View}
use Rattle.fj_gate.proofs.Lists.{times_in-joined, length-joined, sum_by-set}
use Rattle.fj_gate.proofs.Seats.{EachSeat-set, EachSeat-push, first_set, knows, parts_of}
use Rattle.fj_rules.proofs.Lists.Members.{times_in_append}

-- the gate at its start
pub begins : IsRuled (record { words = 0 ∷ []; homes = []; views = fresh 32 ∷ [] })
begins = (refl, (inl (refl, untold), (refl, λ x. grind (arith, nat_tests)), refl, fit))
  where
    untold : (seat : ℕ) (v : View) → get_elem? (fresh 32 ∷ []) seat ≡ some v → IsUntold v
    untold zero v e = subst IsUntold (some-injective _ _ e) (refl, refl, refl)
    untold (suc seat) v e = absurd (some-ne-none v (sym e))

    fit : (seat : ℕ) (v : View) → get_elem? (fresh 32 ∷ []) seat ≡ some v → Fits 0 v
    fit zero v e = subst (λ (u : View). Fits 0 u) (some-injective _ _ e) (omega arith, omega arith, omega arith)
    fit (suc seat) v e = absurd (some-ne-none v (sym e))

-- the closer, which has drawn nothing, gives a part away
parts_given : (word : ℕ) (views : List View) (r : IsGate word views) (parts : ℕ) → get_elem? views 0 ≡ some (fresh (parts + 1)) → IsGate word (set views 0 (fresh parts) ++ fresh 1 ∷ [])
parts_given word views r parts at =
    let v = fresh (parts + 1) in
    let left = fresh parts in
    let cut = set views 0 left in
    let views' = cut ++ fresh 1 ∷ [] in
    let change = λ (f : View → ℕ). sum_by-set f views 0 v left at in
    let more = λ (f : View → ℕ). sum_by_push f cut (fresh 1) in
    let l1 = change (λ u. length u.drawn) in
    let l2 = more (λ u. length u.drawn) in
    let j1 = length-joined views in
    let j2 = length-joined views' in
    let count : admitted views' ≡ admitted views = omega arith in
    let t1 = change (λ u. u.told) in
    let t2 = more (λ u. u.told) in
    let sent : turned_away views' ≡ turned_away views = omega arith in
    let p1 = change parts_of in
    let p2 = more parts_of in
    let all = r.2 in (
      ⊎_elim
          (λ (o : IsOpen word views).
          let word_is = o.0 in
          inl (
            (let e : word ≡ 2 * admitted views' = omega arith in e),
            EachSeat-push IsUntold cut (fresh 1) (EachSeat-set IsUntold IsUntold views 0 left o.1 (λ u h. h) (refl, refl, refl)) (refl, refl, refl),
          ))
          (λ (c : IsClosed word views).
          let word_is = c.0 in
          inr (
            (let e : word ≡ 2 * (admitted views' + turned_away views') + 1 = omega arith in e),
            left,
            at_longer cut (fresh 1 ∷ []) 0 left (first_set views v left at),
            knows word views v at c ∙ ap (λ (k : ℕ). Some k) (sym count),
          ))
          r.0,
      (
        refl,
        λ x.
            let a = change (λ u. times_in x u.drawn) in
            let b = more (λ u. times_in x u.drawn) in
            let c = times_in-joined x views in
            let d = times_in-joined x views' in
            let old = r.1.1 x in
            let e : times_in x (joined views') ≡ times_in x (joined views) = omega arith in
            e ∙ old ∙ ap (λ m. cond (nat_lt x m) 1 0) (sym count),
      ),
      (let e : sum_by parts_of views' ≡ 32 = omega arith in e),
      subst (λ m. (j : ℕ) (u : View) → get_elem? views' j ≡ some u → Fits m u) (sym count)
          (EachSeat-push (Fits (admitted views)) cut (fresh 1)
          (EachSeat-set (Fits (admitted views)) (Fits (admitted views)) views 0 left r.3 (λ u h. h) (omega arith, omega arith, omega arith))
          (omega arith, omega arith, omega arith)),
    )

splits_first : (parts : ℕ) → Splits IsRuled 0 (fresh (parts + 1)) (fresh parts) (fresh 1)
splits_first parts s r at = (r.0, parts_given (get_or s.words 0 0) s.views r.1 parts at)

-- the closer has the first seat
pub splits : (id : ℕ) (v : View) (parts : ℕ) → id ≡ 0 → v ≡ fresh (parts + 1) → Splits IsRuled id v (less_one v) (fresh 1)
splits id v parts first is =
    let less : parts + 1 - 1 ≡ parts = omega arith in
    subst (λ (z : ℕ × View). Splits IsRuled z.0 z.1 (less_one z.1) (fresh 1)) (λ i. (sym first i, sym is i))
    (subst (λ k. Splits IsRuled 0 (fresh (parts + 1)) (fresh k) (fresh 1)) (sym less) (splits_first parts))

pub less_one-fresh : (n : ℕ) → n < 32 → less_one (fresh (32 - n)) ≡ fresh (32 - (n + 1))
less_one-fresh n h = let e : 32 - n - 1 ≡ 32 - (n + 1) = omega arith in ap fresh e

-- the closer takes in another seat
taken_in : (word : ℕ) (views : List View) (r : IsGate word views) (v : View) → get_elem? views 0 ≡ some v → (other : ℕ) → other ≢ 0 → (w : View) → get_elem? (set views 0 (together v w)) other ≡ some w
    → IsGate word (set (set views 0 (together v w)) other (fresh 0))
taken_in word views r v at other apart w there =
    let both = together v w in
    let mid = set views 0 both in
    let views' = set mid other (fresh 0) in
    let was = ⊎_elim (λ (t : (other ≡ 0) × (both ≡ w)). absurd (apart t.0)) (λ (t : (other ≢ 0) × (get_elem? views other ≡ some w)). t.1) (at_set views 0 other both w there) in
    let change = λ (f : View → ℕ). sum_by-set f views 0 v both at in
    let more = λ (f : View → ℕ). sum_by-set f mid other w (fresh 0) there in
    let longer = length-append v.drawn w.drawn in
    let l1 = change (λ u. length u.drawn) in
    let l2 = more (λ u. length u.drawn) in
    let j1 = length-joined views in
    let j2 = length-joined views' in
    let count : admitted views' ≡ admitted views = omega arith in
    let t1 = change (λ u. u.told) in
    let t2 = more (λ u. u.told) in
    let sent : turned_away views' ≡ turned_away views = omega arith in
    let p1 = change parts_of in
    let p2 = more parts_of in
    let all = r.2 in
    let fv = r.3 0 v at in
    let fw = r.3 other w was in (
      ⊎_elim
          (λ (o : IsOpen word views).
          let word_is = o.0 in
          let qv = o.1 0 v at in
          let qw = o.1 other w was in
          inl (
            (let e : word ≡ 2 * admitted views' = omega arith in e),
            EachSeat-set IsUntold IsUntold mid other (fresh 0)
                (EachSeat-set IsUntold IsUntold views 0 both o.1 (λ u h. h)
                ((let qv0 = qv.0 in let qw0 = qw.0 in let e : v.told + w.told ≡ 0 = omega arith in e), (let qv1 = qv.1 in let qw1 = qw.1 in let e : v.heard + w.heard ≡ 0 = omega arith in e), qv.2))
                (λ u h. h) (refl, refl, refl),
          ))
          (λ (c : IsClosed word views).
          let word_is = c.0 in
          inr (
            (let e : word ≡ 2 * (admitted views' + turned_away views') + 1 = omega arith in e),
            both,
            set_else mid other 0 (fresh 0) (λ e. apart (sym e)) ∙ first_set views v both at,
            knows word views v at c ∙ ap (λ (k : ℕ). Some k) (sym count),
          ))
          r.0,
      (
        refl,
        λ x.
            let g = times_in_append x v.drawn w.drawn in
            let a = change (λ u. times_in x u.drawn) in
            let b = more (λ u. times_in x u.drawn) in
            let c = times_in-joined x views in
            let d = times_in-joined x views' in
            let old = r.1.1 x in
            let e : times_in x (joined views') ≡ times_in x (joined views) = omega arith in
            e ∙ old ∙ ap (λ m. cond (nat_lt x m) 1 0) (sym count),
      ),
      (let e : sum_by parts_of views' ≡ 32 = omega arith in e),
      subst (λ m. (j : ℕ) (u : View) → get_elem? views' j ≡ some u → Fits m u) (sym count)
          (EachSeat-set (Fits (admitted views)) (Fits (admitted views)) mid other (fresh 0)
          (EachSeat-set (Fits (admitted views)) (Fits (admitted views)) views 0 both r.3 (λ u h. h) (
            (let a = fv.0 in let b = fw.0 in let e : max v.seen w.seen ≤ admitted views = omega arith in e),
            (let a = fv.1 in let b = fw.1 in let e : length (v.drawn ++ w.drawn) ≤ 65536 * (v.parts + w.parts) = omega arith in e),
            (let a = fv.2 in let b = fw.2 in let e : v.told + w.told ≤ v.parts + w.parts = omega arith in e),
          ))
          (λ u h. h) (omega arith, omega arith, omega arith)),
    )

joins_first : (v : View) (other : ℕ) (w : View) → Joins IsRuled 0 v other w (together v w) (fresh 0)
joins_first v other w s r at apart there = (r.0, taken_in (get_or s.words 0 0) s.views r.1 v at other apart w there)

pub joins : (id : ℕ) (v : View) (other : ℕ) (w : View) → id ≡ 0 → Joins IsRuled id v other w (together v w) (fresh 0)
joins id v other w first = subst (λ k. Joins IsRuled k v other w (together v w) (fresh 0)) (sym first) (joins_first v other w)
