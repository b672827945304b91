-- Whether something stands under a number of a shelf.
use Rattle.std.proofs.Common.{ℕ, ◌≡◌, ◌%◌, Bool, true, false, List, length, Option, Some, None, refl, sym, ap, ◌∙◌}
use Rattle.std.specs.Prelude.{is_some, slice_get}
use Rattle.std.proofs.lemmas.Bool.{true≢false}
use Rattle.fj_rules.specs.Lists.{or_else}
use Rattle.fj_slots.specs.Aside.{entry_in}
use Rattle.fj_slots.specs.Slots.{in_slot, guessed, entry_of}

module _ {T : Type 0} where
  -- what was read of the slot is what the guess gives
  pub is_guessed : (slots : List (Option (ℕ × T))) (n at : ℕ) (told : Bool) → at ≡ n % length slots → told ≡ is_some (in_slot (slice_get slots at) n) → told ≡ is_some (guessed slots n)
  unfolding guessed
  is_guessed slots n at told place is = is ∙ ap (λ (k : ℕ). is_some (in_slot (slice_get slots k) n)) place

  pub stands_guessed : (slots : List (Option (ℕ × T))) (aside : List (ℕ × T)) (n : ℕ) → is_some (guessed slots n) ≡ true → is_some (entry_of slots aside n) ≡ true
  unfolding entry_of
  stands_guessed slots aside n is = go (guessed slots n) is
    where
      go : (o : Option T) → is_some o ≡ true → is_some (or_else o (entry_in aside n)) ≡ true
      go (Some x) e = refl
      go None e = absurd (true≢false (sym e))

  pub stands_aside : (slots : List (Option (ℕ × T))) (aside : List (ℕ × T)) (n : ℕ) → is_some (guessed slots n) ≡ false → is_some (entry_of slots aside n) ≡ is_some (entry_in aside n)
  unfolding entry_of
  stands_aside slots aside n is = go (guessed slots n) is
    where
      go : (o : Option T) → is_some o ≡ false → is_some (or_else o (entry_in aside n)) ≡ is_some (entry_in aside n)
      go (Some x) e = absurd (true≢false e)
      go None e = refl
