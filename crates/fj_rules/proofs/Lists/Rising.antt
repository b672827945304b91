-- Lists whose numbers rise: two that have the same numbers equally often are the same. The accepted tasks are one.
use Rattle.std.proofs.Common.{suc, ℕ, ◌≡◌, ◌≤◌, ◌<◌, Bool, true, false, cond, List, [], ◌∷◌, ◌++◌, length, Option, Some, None, refl, ap, sym, ◌∙◌, arith, ⊎_elim}
use Rattle.std.specs.Prelude.{IsPermutation, ◌==◌, slice_index_or}
use Rattle.std.specs.List.Sorted.{IsNonDecreasing}
use Rattle.std.specs.List.{filter}
use Rattle.std.proofs.lemmas.List.{append-nil}
use Rattle.std.proofs.lemmas.List.Sorted.{sum_by-IsPermutation}
use Rattle.std.proofs.lemmas.Bool.{eqb-true, eq-eqb, and_parts, or_cases, or_right, ltb-true}
use Rattle.fj_rules.specs.declared.event.Event.{Event}
use Rattle.fj_rules.specs.Bounds.{Pool}
use Rattle.fj_rules.specs.Lists.{is_in, times_in}
use Rattle.fj_rules.specs.Tasks.{tasks, accepted, accepted_by}
use Rattle.fj_rules.specs.Allowed.{Allowed, AllowedFrom}
use Rattle.fj_rules.proofs.Lists.Members.{times_in_cons, times_in_none, times_in_some, is_in_filter, is_in_append}
use Rattle.fj_rules.proofs.Events.Growth.{tasks_more}
use Rattle.fj_rules.proofs.Events.Lawful.{by_events, is_numbered, accept_number}

-- no number is above a later one
abbrev pub IsRising : List ℕ → Type 0
IsRising [] = Unit {0}
IsRising (x ∷ xs) = ((u : ℕ) → is_in u xs ≡ true → x ≤ u) × IsRising xs

-- a number that stands there equally often stands there, too
there_too : (t : ℕ) (xs ys : List ℕ) → times_in t xs ≡ times_in t ys → is_in t xs ≡ true → is_in t ys ≡ true
there_too t xs ys same there = go (is_in t ys) refl
  where
    go : (b : Bool) → is_in t ys ≡ b → b ≡ true
    go true is = refl
    go false is = absurd (omega (arith, same, times_in_some t xs there, times_in_none t ys is))

head_there : (x : ℕ) (xs : List ℕ) → is_in x (x ∷ xs) ≡ true
head_there x xs = rw (eq-eqb x x refl) refl

least : (x u : ℕ) (xs : List ℕ) → ((v : ℕ) → is_in v xs ≡ true → x ≤ v) → is_in u (x ∷ xs) ≡ true → x ≤ u
least x u xs below there = ⊎_elim (λ here. omega (arith, eqb-true x u here)) (below u) (or_cases (x == u) (is_in u xs) there)

-- rising lists with the same numbers, each equally often, are the same
pub rising_same : (xs ys : List ℕ) → IsRising xs → IsRising ys → ((t : ℕ) → times_in t xs ≡ times_in t ys) → xs ≡ ys
rising_same [] [] up up' same = refl
rising_same (x ∷ xs) [] up up' same = absurd (omega (arith, same x, times_in_some x (x ∷ xs) (head_there x xs)))
rising_same [] (y ∷ ys) up up' same = absurd (omega (arith, same y, times_in_some y (y ∷ ys) (head_there y ys)))
rising_same (x ∷ xs) (y ∷ ys) up up' same = go (rising_same xs ys up.1 up'.1)
  where
    first : x ≡ y
    first = omega (
      arith,
      least y x ys up'.0 (there_too x (x ∷ xs) (y ∷ ys) (same x) (head_there x xs)),
      least x y xs up.0 (there_too y (y ∷ ys) (x ∷ xs) (sym (same y)) (head_there y ys)),
    )

    rest : (t : ℕ) → times_in t xs ≡ times_in t ys
    rest t = omega (arith, same t, times_in_cons t x xs, times_in_cons t y ys, ap {B = ℕ} (λ u. cond (u == t) 1 0) first)

    go : (((t : ℕ) → times_in t xs ≡ times_in t ys) → xs ≡ ys) → x ∷ xs ≡ y ∷ ys
    go same_rest = rw (first, same_rest rest) refl

-- what a sort gives rises
pub rising_sorted : (xs : List ℕ) → IsNonDecreasing xs → IsRising xs
rising_sorted [] up = tt
rising_sorted (x ∷ xs) up = (below xs (λ k d le. up 0 (suc k) d (omega arith) (omega arith)), rising_sorted xs (λ i j d le lt. up (suc i) (suc j) d (omega arith) (omega arith)))
  where
    below : (ys : List ℕ) → ((k d : ℕ) → k < length ys → x ≤ slice_index_or ys k d) → (u : ℕ) → is_in u ys ≡ true → x ≤ u
    below [] low u there = absurd cc
    below (y ∷ ys) low u there =
        ⊎_elim (λ here. omega (arith, low 0 0 (omega arith), eqb-true y u here)) (λ later. below ys (λ k d lt. low (suc k) d (omega arith)) u later) (or_cases (y == u) (is_in u ys) there)

-- a sorted permutation of a list is the rising list with its numbers
pub sorted_is : (xs ys zs : List ℕ) → IsPermutation xs ys → IsNonDecreasing ys → IsRising zs → ((t : ℕ) → times_in t zs ≡ times_in t xs) → ys ≡ zs
sorted_is xs ys zs moved up rises same =
    rising_same ys zs (rising_sorted ys up) rises (λ t. sum_by-IsPermutation (λ u. cond (u == t) 1 0) xs ys moved ∙ sym (same t))

pub rising_filter : (p : ℕ → Bool) (xs : List ℕ) → IsRising xs → IsRising (filter p xs)
rising_filter p [] up = tt
rising_filter p (x ∷ xs) up = go (p x) (rising_filter p xs up.1)
  where
    go : (b : Bool) → IsRising (filter p xs) → IsRising (cond b (x ∷ filter p xs) (filter p xs))
    go true rest = (λ u there. up.0 u (and_parts (is_in u xs) (p u) (sym (is_in_filter p u xs) ∙ there)).0, rest)
    go false rest = rest

rising_push : (xs : List ℕ) (y : ℕ) → IsRising xs → ((u : ℕ) → is_in u xs ≡ true → u ≤ y) → IsRising (xs ++ y ∷ [])
rising_push [] y up low = (λ u there. absurd cc, tt)
rising_push (x ∷ xs) y up low = (
  λ u there. ⊎_elim (up.0 u) (λ last. omega (arith, low x (head_there x xs), ⊎_elim (λ here. eqb-true y u here) (λ none. absurd cc) (or_cases (y == u) false last)))
      (or_cases (is_in u xs) (is_in u (y ∷ [])) (sym (is_in_append u xs (y ∷ [])) ∙ there)),
  rising_push xs y up.1 (λ u there. low u (or_right (x == u) (is_in u xs) there)),
)

-- ---- the accepted tasks

rising_more : (pool : Pool) (h : List Event) (e : Event) (said : Option ℕ) → accepted_by e ≡ said → AllowedFrom pool [] h → IsRising (tasks h) → Allowed pool h e → IsRising (tasks (h ++ e ∷ []))
rising_more pool h e None is so up may = rw (tasks_more, is, append-nil) up
rising_more pool h e (Some u) is so up may =
    rw (tasks_more, is)
    (rising_push (tasks h) u up (λ t there. omega (arith, ltb-true t (accepted h) (sym (is_numbered pool h so t) ∙ there), accept_number pool h e u may is)))

rising_none : IsRising (tasks [])
unfolding tasks
rising_none = tt

pub tasks_rise : (pool : Pool) (h : List Event) → AllowedFrom pool [] h → IsRising (tasks h)
tasks_rise pool = by_events pool (λ h. IsRising (tasks h)) rising_none (λ h e. rising_more pool h e (accepted_by e) refl)
