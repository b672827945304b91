-- The marks of the numbers in a list.
use Rattle.std.proofs.Common.{ℕ, ◌≡◌, ◌==◌, ◌&&◌, ◌||◌, not, Bool, true, false, List, [], ◌∷◌, None, refl, sym, ap, ◌∙◌}
use Rattle.std.specs.Prelude.{if◌then◌else◌, is_some}
use Rattle.std.proofs.Math.Bool.{and-false, and-true}
use Rattle.fj_rules.specs.Lists.{is_in, without}
use Rattle.fj_rules.proofs.Lists.Members.{is_in_filter}
use Rattle.fj_slots.specs.Shelves.{Entries, without_entry}
use Rattle.fj_slots.specs.Marked.{AreMarked}

module _ {T : Type 0} where
  -- without one
  pub marked_less : (marks : Entries T) (ns : List ℕ) (t : ℕ) → AreMarked marks ns → AreMarked (without_entry marks t) (without ns (t ∷ []))
  marked_less marks ns t are u = go (t == u) refl
    where
      left : is_in u (without ns (t ∷ [])) ≡ (is_in u ns && not ((t == u) || false))
      left = is_in_filter (λ v. not (is_in v (t ∷ []))) u ns

      go : (b : Bool) → (t == u) ≡ b → is_some (if b then None else marks u) ≡ is_in u (without ns (t ∷ []))
      go true at = sym (left ∙ ap (λ (v : Bool). is_in u ns && not (v || false)) at ∙ and-false (is_in u ns))
      go false at = are u ∙ sym (left ∙ ap (λ (v : Bool). is_in u ns && not (v || false)) at ∙ and-true (is_in u ns))
