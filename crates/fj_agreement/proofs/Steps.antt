-- Each step keeps the rule.
use Rattle.std.proofs.Common.{◌≡◌, ◌≢◌, ⊎_elim, ℕ, zero, suc, List, [], ◌∷◌, ◌++◌, length, set, get_or, take, drop, sym, refl, ◌∙◌, subst, arith, length-append, sum_by}
use Rattle.std.proofs.lemmas.List.Elements.{All-nil, All-cons, All-append}
use mathlib.Core.Option.{some, none, some-injective, some-ne-none}
use lib.ListN.{get_elem?}
use Rattle.atomic_table.specs.Table.{Me, step, keeps, Allows, Splits, Joins}
use Rattle.atomic_table.proofs.Lists.{at_set, set_again}
use Rattle.fj_agreement.specs.Rule.{KnowsOnly, Agree, IsAgreed, Meets}
use Rattle.fj_agreement.proofs.Seats.{count, sum_set, none_other, others_none, cut}

module _ {V : Type 0} where
  abbrev Only : V → V → Type 0
  Only value x = x ≡ value

  -- the first seat, with both values
  pub begins : (value : V) → Agree ((value ∷ value ∷ []) ∷ [])
  begins value = (value, each, refl)
    where
      each : (seat : ℕ) (known : List V) → get_elem? ((value ∷ value ∷ []) ∷ []) seat ≡ some known → KnowsOnly value known
      each zero known e = subst (λ (x : List V). KnowsOnly value x) (some-injective _ _ e) (All-cons (Only value) value (value ∷ []) refl (All-cons (Only value) value [] refl (All-nil (Only value))))
      each (suc seat) known e = absurd (some-ne-none known (sym e))

  -- a seat that knows nothing is cut off
  pub spares : (seat : ℕ) (v : List V) → Splits IsAgreed seat v v []
  spares seat v s r at = cut s.views seat v v [] r.0 at (λ j u _ there. r.1 j u there) (r.1 seat v at) (All-nil (Only r.0)) (omega arith) r.2

  -- a seat with both values keeps one, and a new seat has the other
  pub halves : (seat : ℕ) (v : List V) → length v ≡ 2 → Splits IsAgreed seat v (take 1 v) (drop 1 v)
  halves seat [] two = absurd (omega arith)
  halves seat (x ∷ []) two = absurd (omega arith)
  halves seat (x ∷ y ∷ z ∷ zs) two = absurd (omega arith)
  halves seat (x ∷ y ∷ []) two = λ s r at.
      let same = r.1 seat (x ∷ y ∷ []) at in
      let one = λ (w : V) (e : w ≡ r.0). All-cons (Only r.0) w [] e (All-nil (Only r.0)) in
      cut s.views seat (x ∷ y ∷ []) (x ∷ []) (y ∷ []) r.0 at (λ j u _ there. r.1 j u there) (one x (same 0 x (omega arith))) (one y (same 1 x (omega arith))) refl r.2

  -- a seat with both values gets another one, and a new seat the same: nobody else knows any
  pub renews : (seat : ℕ) (v : List V) (value : V) → length v ≡ 2 → Splits IsAgreed seat v (value ∷ []) (value ∷ [])
  renews seat v value two s r at =
      let all : sum_by count s.views ≡ length v = omega arith in
      let one = All-cons (Only value) value [] refl (All-nil (Only value)) in
      cut s.views seat v (value ∷ []) (value ∷ []) value at (λ j u apart there. none_other value u (others_none s.views seat v at all j u apart there)) one one (omega arith) r.2

  -- a seat takes in what another one knows
  pub joins : (seat : ℕ) (v : List V) (other : ℕ) (w : List V) → Joins IsAgreed seat v other w (v ++ w) []
  joins seat v other w s r at apart there =
      let value : V = r.0 in
      let mid = set s.views seat (v ++ w) in
      let was = ⊎_elim (λ (t : (other ≡ seat) × (v ++ w ≡ w)). absurd (apart t.0)) (λ (t : (other ≢ seat) × (get_elem? s.views other ≡ some w)). t.1) (at_set s.views seat other (v ++ w) w there) in
      let both = All-append (Only value) v w (r.1 seat v at) (r.1 other w was) in (
        value,
        (λ j u is.
            ⊎_elim
            (λ (t : (j ≡ other) × ([] ≡ u)). subst (λ (x : List V). KnowsOnly value x) t.1 (All-nil (Only value)))
            (λ (t : (j ≢ other) × (get_elem? mid j ≡ some u)).
            ⊎_elim
            (λ (z : (j ≡ seat) × (v ++ w ≡ u)). subst (λ (x : List V). KnowsOnly value x) z.1 both)
            (λ (z : (j ≢ seat) × (get_elem? s.views j ≡ some u)). r.1 j u z.1)
            (at_set s.views seat j (v ++ w) u t.1))
            (at_set mid other j [] u is)),
        (
            let all = r.2 in
            let a = sum_set s.views seat v (v ++ w) at in
            let b = sum_set mid other w [] there in
            let c = length-append v w in omega arith),
      )

  -- a load, which changes nothing
  pub meets : (slots seat : ℕ) (me : Me (Unit {0}) (List V)) → Allows IsAgreed slots seat me 0 (λ x. x) (Meets (step slots 0 0 0 none) me)
  meets slots seat me s r _ at _ = (me.0, keeps, tt, subst Agree (sym (set_again s.views seat me.0 at)) r, (refl, r.0, r.1 seat me.0 at))

  -- Two ends that know one value each, and all of it is the same
  pub same_value : (v w both : List V) (first value : V) → both ≡ v ++ w → length v ≡ 1 → length w ≡ 1 → KnowsOnly value both → get_or v 0 first ≡ get_or w 0 first
  same_value [] w both first value are a b same = absurd (omega arith)
  same_value (x ∷ xs) [] both first value are a b same = absurd (omega arith)
  same_value (x ∷ y ∷ ys) (z ∷ zs) both first value are a b same = absurd (omega arith)
  same_value (x ∷ []) (y ∷ ys) both first value are a b same =
      let all = subst (λ (l : List V). KnowsOnly value l) are same in
      all 0 first (omega arith) ∙ sym (all 1 first (omega arith))

  -- what two ends know together
  pub two : (v w : List V) → length v ≡ 1 → length w ≡ 1 → length (v ++ w) ≡ 2
  two v w a b = omega (arith, length-append v w)
