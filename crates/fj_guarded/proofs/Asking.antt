-- A hand that holds something asks.
use Rattle.std.proofs.Common.{ℕ, ◌≡◌, List, [], ◌∷◌, length, Option, Some, None, IsSome, refl, arith}
use Rattle.std.specs.Prelude.{◌-◌, IfSome, slice_get}
use Rattle.std.proofs.lemmas.Option.{slice_get-get_or}
use Rattle.fj_slots.specs.Hands.{HandState, asker}

module _ {B : Type 0} where
  newest_there : (stack : List (ℕ × B)) (x : ℕ × B) (xs : List (ℕ × B)) → stack ≡ x ∷ xs → IsSome (slice_get stack (length stack - 1))
  newest_there stack x xs is = rw (is, slice_get-get_or (x ∷ xs) (length (x ∷ xs) - 1) x (omega arith)) refl

  -- it has a hook or a body
  pub some_asks : (hand : HandState B) → ((hand.stack ≡ []) × (hand.hook ≡ None) → ⊥) → IsSome (asker hand)
  some_asks hand holds = go hand.hook hand.stack holds
    where
      go : (hook : Option (ℕ × B)) (stack : List (ℕ × B)) → ((stack ≡ []) × (hook ≡ None) → ⊥) → IsSome (asker (record { worker = 0; word = 0; stack = stack; joined = []; hook = hook }))
      go (Some x) stack holds = refl
      go None [] holds = absurd (holds (refl, refl))
      go None (x ∷ xs) holds = newest_there (x ∷ xs) x xs refl

-- what holds of each value holds of that which may be there
pub of_any : {T : Type 0} {P : T → Type 0} (o : Option T) → ((x : T) → P x) → IfSome o P
of_any None all = tt
of_any (Some x) all = all x
