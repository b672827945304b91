use Rattle.std.specs.Prelude.{⊤}
use Rattle.std.proofs.Math.Logic.{∥∥₁_elim}
use Rattle.std.proofs.Common.{◌≡◌, List, [], ◌∷◌, ◌++◌, map, refl, ap, ◌∙◌, sym, Option, Some, MatchOption, Bool, true, false, not}
use Rattle.std.proofs.lemmas.List.{map-append}
use Rattle.fj_recursive.specs.Recursions.{tail_value}

-- one more left value is combined first
pub tail-snoc : {O : Type 0} (combined : O → O → O) (xs : List O) (x v : O) → tail_value combined (xs ++ x ∷ []) v ≡ tail_value combined xs (combined x v)
tail-snoc combined [] x v = refl
tail-snoc combined (y ∷ ys) x v = ap (combined y) (tail-snoc combined ys x v)

pub tail_more : {L O : Type 0} (combined : O → O → O) (value : L → O) (all xs : List L) (x : L) (v : O) → all ≡ xs ++ x ∷ [] → tail_value combined (map value all) v ≡ tail_value combined (map value xs) (combined (value x) v)
tail_more combined value all xs x v e = rw (e, map-append) (tail-snoc combined (map value xs) (value x) v)

pub fold_step : {L O : Type 0} (combined : O → O → O) (value : L → O) (all xs : List L) (x : L) (v y : O) → all ≡ xs ++ x ∷ [] → y ≡ combined (value x) v → tail_value combined (map value all) v ≡ tail_value combined (map value xs) y
fold_step combined value all xs x v y e k = tail_more combined value all xs x v e ∙ ap (λ t. tail_value combined (map value xs) t) (sym k)

-- what the rest gives, where it is known
pub rest_gives : {O : Type 0} (f : O → O) (w x : O) (o : Option O) → IsProp (f x ≡ w) → ∥ MatchOption o ⊤ (λ v. f v ≡ w) ∥₁ → o ≡ Some x → f x ≡ w
rest_gives f w x o p h e = ∥∥₁_elim h p (λ k. rw e at k)

-- what holds at one stage holds at the same one
pub holds_at : {S : Type 0} (Holds : S → Type 0) (s t : S) → IsProp (Holds t) → ∥ Holds s ∥₁ → s ≡ t → Holds t
holds_at Holds s t p h e = ∥∥₁_elim h p (λ k. rw e at k)

pub not_false : (b : Bool) → not b ≡ false → b ≡ true
not_false true e = refl
not_false false e = sym e
