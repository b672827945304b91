-- A way is what is passed of it, and the rest.
use Rattle.std.proofs.Common.{ℕ, ◌≡◌, Bool, true, false, cond, List, [], ◌∷◌, ◌++◌, length, drop, refl, ap, sym, ◌∙◌, ⊎_elim}
use Rattle.std.specs.Prelude.{◌==◌}
use Rattle.std.specs.List.{take_while}
use Rattle.std.proofs.lemmas.List.Sums.{take_while-cons}
use Rattle.std.proofs.lemmas.Bool.{eqb-true, or_cases, or_right}
use Rattle.fj_rules.specs.declared.event.Event.{Event}
use Rattle.fj_rules.specs.Lists.{is_in}
use Rattle.fj_rules.specs.Climbs.{Arrival, Spent, Counted, Early, Fires, arrival, does_fire, path, passed}
use Rattle.fj_rules.proofs.Lists.Members.{is_in_append}

-- a list is its longest beginning whose members pass, and the rest
while_split : (p : ℕ → Bool) (xs : List ℕ) → take_while p xs ++ drop (length (take_while p xs)) xs ≡ xs
while_split p [] = refl
while_split p (x ∷ xs) = rw take_while-cons (go (p x) (while_split p xs))
  where
    go : (b : Bool) → take_while p xs ++ drop (length (take_while p xs)) xs ≡ xs → cond b (x ∷ take_while p xs) [] ++ drop (length (cond b (x ∷ take_while p xs) [])) (x ∷ xs) ≡ x ∷ xs
    go true rest = ap (λ ys. x ∷ ys) rest
    go false rest = refl

while_passes : (p : ℕ → Bool) (xs : List ℕ) (u : ℕ) → is_in u (take_while p xs) ≡ true → p u ≡ true
while_passes p [] u there = absurd cc
while_passes p (x ∷ xs) u there = go (p x) refl (rw take_while-cons at there) (while_passes p xs u)
  where
    go : (b : Bool) → p x ≡ b → is_in u (cond b (x ∷ take_while p xs) []) ≡ true → (is_in u (take_while p xs) ≡ true → p u ≡ true) → p u ≡ true
    go true is there rest = ⊎_elim (λ here. ap p (sym (eqb-true x u here)) ∙ is) rest (or_cases (x == u) (is_in u (take_while p xs)) there)
    go false is there rest = absurd cc

fires_is : (a : Arrival) → does_fire a ≡ true → a ≡ Fires
fires_is Fires is = refl
fires_is Spent is = absurd cc
fires_is Counted is = absurd cc
fires_is Early is = absurd cc

-- the way is what is passed of it, and the rest
pub way_split : (h : List Event) (t : ℕ) → passed h t ++ drop (length (passed h t)) (path h t) ≡ path h t
unfolding passed
way_split h t = while_split (λ d. does_fire (arrival h d)) (path h t)

-- an arrival at what is passed fires
pub passed_fires : (h : List Event) (t u : ℕ) → is_in u (passed h t) ≡ true → arrival h u ≡ Fires
unfolding passed
passed_fires h t u there = fires_is (arrival h u) (while_passes (λ d. does_fire (arrival h d)) (path h t) u there)

pub passed_on_way : (h : List Event) (t u : ℕ) → is_in u (passed h t) ≡ true → is_in u (path h t) ≡ true
passed_on_way h t u there = ap (is_in u) (sym (way_split h t)) ∙ is_in_append u (passed h t) (drop (length (passed h t)) (path h t)) ∙ rw there refl

pub rest_on_way : (h : List Event) (t u : ℕ) → is_in u (drop (length (passed h t)) (path h t)) ≡ true → is_in u (path h t) ≡ true
rest_on_way h t u there =
    ap (is_in u) (sym (way_split h t)) ∙ is_in_append u (passed h t) (drop (length (passed h t)) (path h t))
    ∙ or_right (is_in u (passed h t)) (is_in u (drop (length (passed h t)) (path h t))) there
