-- The task at a place of a list, read by index or by an iterator.
use Rattle.std.proofs.Common.{◌≡◌, ℕ, ◌<◌, ◌≤◌, List, [], ◌∷◌, ◌++◌, length, get_or, refl, sym, ap, ◌∙◌, subst, Some, None, Option}
use Rattle.std.specs.Prelude.{slice_get}
use Rattle.std.specs.Iterator.{Yields, SkipsThenYields, YieldsFirst}
use Rattle.std.proofs.lemmas.Option.{slice_get_read, slice_get_past}
use Rattle.fj_codes.specs.declared.codes.TheConstants as code
use Rattle.fj_c.specs.Lists.{task_or_none, task_at}
use Rattle.fj_codes.specs.Codings.{reply}

pub listed_task : (tasks : List ℕ) (place t : ℕ) → place < length tasks → t ≡ get_or tasks place t → reply code.TASK t ≡ task_at tasks place
listed_task tasks place t low e = ap task_or_none (sym (slice_get_read tasks (length tasks) place t refl low e))

pub no_task : (tasks : List ℕ) (place : ℕ) → length tasks ≤ place → reply code.NO_PLACE 0 ≡ task_at tasks place
no_task tasks place past = ap task_or_none (sym (slice_get_past tasks place past))

abbrev First : List ℕ → Option ℕ → List ℕ → Type 0
First = YieldsFirst (λ (numbers : List ℕ). numbers)

-- what was passed over comes first
passed : (before all left : List ℕ) → Yields First all before left → all ≡ before ++ left
passed [] all left run = run
passed (t ∷ before) all left run = run.1 ∙ ap (λ (rest : List ℕ). t ∷ rest) (passed before run.0 left run.2)

behind : (before left : List ℕ) (t : ℕ) → slice_get (before ++ t ∷ left) (length before) ≡ Some t
behind [] left t = refl
behind (u ∷ before) left t = behind before left t

nothing_behind : (xs : List ℕ) → xs ++ [] ≡ xs
nothing_behind [] = refl
nothing_behind (x ∷ xs) = ap (λ (rest : List ℕ). x ∷ rest) (nothing_behind xs)

pub nth_some : (all : List ℕ) (place t : ℕ) (left : List ℕ) → SkipsThenYields First all place (Some t) left → reply code.TASK t ≡ task_at all place
nth_some all place t left run =
    let before = run.0 in let mid = run.1.0 in let all_is : all ≡ before ++ t ∷ left = passed before all mid run.1.1 ∙ ap (λ (m : List ℕ). before ++ m) run.1.2 in
    ap task_or_none (sym (subst (λ (xs : List ℕ). slice_get xs place ≡ Some t) (sym all_is) (subst (λ (k : ℕ). slice_get (before ++ t ∷ left) k ≡ Some t) run.2 (behind before left t))))

pub nth_none : (all : List ℕ) (place : ℕ) (left : List ℕ) → SkipsThenYields First all place None left → reply code.NO_PLACE 0 ≡ task_at all place
nth_none all place left run =
    let before = run.0 in let mid = run.1.0 in let all_is : all ≡ before = passed before all mid run.1.1 ∙ ap (λ (m : List ℕ). before ++ m) run.1.2.0 ∙ nothing_behind before in
    no_task all place (subst (λ (xs : List ℕ). length xs ≤ place) (sym all_is) run.2)
