-- What a lazy body has in hand gives the value of the whole.
use Rattle.std.proofs.Common.{◌≡◌, Bool, true, false, not, refl, sym}
use Rattle.std.proofs.Math.Logic.{∥∥₁_elim}

-- what is known of one stage is known of the same one
pub gives_at : {S : Type 0} (Gives : S → Type 0) (s t : S) → IsProp (Gives t) → ∥ Gives s ∥₁ → s ≡ t → Gives t
gives_at Gives s t p h e = ∥∥₁_elim h p (λ k. rw e at k)

pub both_prop : {A B : Type 0} → IsProp A → IsProp B → IsProp (A × B)
both_prop p q = hlevel (p, q)

pub not_false : (b : Bool) → not b ≡ false → b ≡ true
not_false true e = refl
not_false false e = sym e
