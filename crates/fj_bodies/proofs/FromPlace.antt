-- What stands in a list from a place on.
use Rattle.std.proofs.Common.{ℕ, zero, suc, ◌≡◌, not, Bool, true, false, cond, List, [], ◌∷◌, drop, length, ◌≤◌, ap}
use Rattle.std.specs.Prelude.{◌==◌}
use Rattle.std.proofs.lemmas.Bool.{or_right}
use Rattle.std.proofs.lemmas.List.{drop_all}
use Rattle.fj_rules.specs.Lists.{is_in, without}
use Rattle.fj_bodies.proofs.Releases.{in_rest}

pub stands : (u n : ℕ) (ts : List ℕ) → is_in u (drop n ts) ≡ true → is_in u ts ≡ true
stands u zero ts there = there
stands u (suc n) [] there = there
stands u (suc n) (t ∷ ts) there = or_right (t == u) (is_in u ts) (stands u n ts there)

one_place_sooner : (u n : ℕ) (ts : List ℕ) → is_in u (drop (suc n) ts) ≡ true → is_in u (drop n ts) ≡ true
one_place_sooner u zero [] there = there
one_place_sooner u zero (t ∷ ts) there = or_right (t == u) (is_in u ts) there
one_place_sooner u (suc n) [] there = there
one_place_sooner u (suc n) (t ∷ ts) there = one_place_sooner u n ts there

-- what is left from the place on stood from there on before
pub stood : (u n : ℕ) (ts us : List ℕ) → is_in u (drop n (without ts us)) ≡ true → is_in u (drop n ts) ≡ true
stood u zero ts us there = in_rest u ts us there
stood u (suc n) [] us there = there
stood u (suc n) (t ∷ ts) us there = go (is_in t us) (stood u n ts us) (stood u (suc n) ts us) there
  where
    go : (b : Bool) → (is_in u (drop n (without ts us)) ≡ true → is_in u (drop n ts) ≡ true) → (is_in u (drop (suc n) (without ts us)) ≡ true → is_in u (drop (suc n) ts) ≡ true)
        → is_in u (drop (suc n) (cond (not b) (t ∷ without ts us) (without ts us))) ≡ true → is_in u (drop n ts) ≡ true
    go false later sooner there = later there
    go true later sooner there = one_place_sooner u n ts (sooner there)

pub none_beyond : (u n : ℕ) (ts : List ℕ) → length ts ≤ n → is_in u (drop n ts) ≡ false
none_beyond u n ts within = ap (is_in u) (drop_all n ts within)
