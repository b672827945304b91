-- Why a step is refused.
use Rattle.std.proofs.Common.{ℕ, ◌≡◌, ◌≤◌, ◌<◌, Bool, true, false, List, [], ◌∷◌, ◌++◌, Some, None, sym, refl, ◌∙◌, arith, ⊎_elim}
use Rattle.std.specs.Prelude.{◌==◌, IsTrue, if◌then◌else◌}
use Rattle.std.proofs.lemmas.Bool.{eq-eqb, cases_lt, true≢false}
use Rattle.fj_rules.specs.declared.event.Event.{Event}
use Rattle.fj_rules.specs.declared.refusal.Refusal.{Refusal}
use Rattle.fj_rules.specs.Bounds.{Pool}
use Rattle.fj_rules.specs.Tasks.{live}
use Rattle.fj_rules.specs.Answers.{first_that_stands}
use Rattle.fj_rules.proofs.Places.FewLive.{few_live}
use Rattle.fj_ledger.specs.Holds.{IsLawful}

-- what a failed test of two numbers says
pub not_below : (b : Bool) (n m : ℕ) → b ≡ false → (n < m → IsTrue b) → m ≤ n
not_below b n m is only = ⊎_elim (λ below. absurd (true≢false (sym (only below) ∙ is))) (λ over. over) (cases_lt n m)

-- no more tasks are kept than the limit allows, so the limit is met where there is no place left
pub is_full : {most : ℕ} (pool : Pool) (h : List Event) → IsLawful pool most h → pool.limits.tasks ≤ live h → (live h == pool.limits.tasks) ≡ true
is_full pool h law over = eq-eqb (live h) pool.limits.tasks (omega (arith, over, few_live pool h law.allowed))

-- where none of the first tests stands, the later ones decide
pub first_after : (tests later : List (Bool × Refusal)) → first_that_stands tests ≡ None → first_that_stands (tests ++ later) ≡ first_that_stands later
first_after [] later none = refl
first_after (test ∷ tests) later none = go test.0 none (first_after tests later)
  where
    go : (b : Bool) → (if b then Some test.1 else first_that_stands tests) ≡ None → (first_that_stands tests ≡ None → first_that_stands (tests ++ later) ≡ first_that_stands later)
        → (if b then Some test.1 else first_that_stands (tests ++ later)) ≡ first_that_stands later
    go true none rest = absurd cc
    go false none rest = rest none

-- what the first tests refuse is refused whatever is tested later
pub first_refused : (tests later : List (Bool × Refusal)) (r : Refusal) → first_that_stands tests ≡ Some r → first_that_stands (tests ++ later) ≡ Some r
first_refused [] later r is = absurd cc
first_refused (test ∷ tests) later r is = go test.0 is (first_refused tests later r)
  where
    go : (b : Bool) → (if b then Some test.1 else first_that_stands tests) ≡ Some r → (first_that_stands tests ≡ Some r → first_that_stands (tests ++ later) ≡ Some r)
        → (if b then Some test.1 else first_that_stands (tests ++ later)) ≡ Some r
    go true is rest = is
    go false is rest = rest is
