-- A map in place, as far as a loop has come.
use Rattle.std.proofs.Common.{ℕ, ◌≡◌, ◌+◌, ◌-◌, ◌<◌, ◌++◌, List, [], ◌∷◌, length, map, take, drop, get_or, set, refl, sym, ap, ◌∙◌, arith}
use Rattle.std.specs.Prelude.{All}
use Rattle.std.proofs.lemmas.List.{get_or-append_right, get_or-drop, length-map, length-take, set-get_or}
use Rattle.std.proofs.lemmas.List.Edits.{map_over_more}
use Rattle.std.proofs.lemmas.List.Elements.{All-head, All-tail}

module _ {X : Type 0} (f : X → X) where
  -- where no element changes, the list does not
  pub map_nothing : (xs : List X) → All (λ x. f x ≡ x) xs → map f xs ≡ xs
  map_nothing [] same = refl
  map_nothing (x ∷ xs) same =
      let here : f x ≡ x = All-head (λ y. f y ≡ y) x xs same in
      let rest : map f xs ≡ xs = map_nothing xs (All-tail (λ y. f y ≡ y) x xs same) in
      rw (here, rest) refl

  -- one element more that stays as it is
  pub mapped_on : (xs ys : List X) (i : ℕ) (x : X) → i < length xs → ys ≡ map f (take i xs) ++ drop i xs → x ≡ get_or ys i x → f x ≡ x
      → ys ≡ map f (take (i + 1) xs) ++ drop (i + 1) xs
  mapped_on xs ys i x within is read same =
      sym (ap (set ys i) (same ∙ read) ∙ set-get_or ys i x) ∙ map_over_more f xs ys i x within is read

  -- what the loop has not come to is as it was
  pub still_there : (xs ys : List X) (i : ℕ) (d : X) → i < length xs → ys ≡ map f (take i xs) ++ drop i xs → get_or ys i d ≡ get_or xs i d
  still_there xs ys i d within is =
      let long : length (map f (take i xs)) ≡ i = omega (arith, length-map (take i xs) f, length-take i xs) in
      rw is (get_or-append_right (map f (take i xs)) (drop i xs) i i d long (omega arith) ∙ get_or-drop i xs (i - i) d ∙ ap (λ k. get_or xs k d) (omega arith))
