-- What holds where a step is not refused, and how the events of an answer follow each other.
use Rattle.std.proofs.Common.{ℕ, ◌≡◌, ◌-◌, Bool, true, false, List, [], ◌∷◌, ◌++◌, length, Option, Some, None, refl, ap, ◌∙◌, arith, append_assoc, length-append}
use Rattle.std.specs.Prelude.{slice_get, if◌then◌else◌, is_some}
use Rattle.std.proofs.lemmas.List.{append-nil}
use Rattle.fj_rules.specs.declared.event.Event.{Event}
use Rattle.fj_rules.specs.declared.step.Step.{Step}
use Rattle.fj_rules.specs.declared.refusal.Refusal.{Refusal}
use Rattle.fj_rules.specs.declared.refusal.Refusal.TheVariants.{LogFull}
use Rattle.fj_rules.specs.Bounds.{Pool}
use Rattle.fj_rules.specs.Lists.{or_else}
use Rattle.fj_rules.specs.Allowed.{AllowedFrom, newest}
use Rattle.fj_rules.specs.Pasts.{Past}
use Rattle.fj_rules.specs.Answers.{refusal_of, first_that_stands, refusals_of, does_not_fit}

-- events that may follow, after events that may
pub allowed_append : (pool : Pool) (before xs ys : List Event) → AllowedFrom pool before xs → AllowedFrom pool (before ++ xs) ys → AllowedFrom pool before (xs ++ ys)
allowed_append pool before [] ys so rest = rw append-nil at rest
allowed_append pool before (x ∷ xs) ys so rest = (so.0, allowed_append pool (before ++ x ∷ []) xs ys so.1 (rw append_assoc rest))

-- each of the tests fails
abbrev pub AllFail : List (Bool × Refusal) → Type 0
AllFail [] = Unit {0}
AllFail (test ∷ tests) = (test.0 ≡ false) × AllFail tests

pub all_fail : (tests : List (Bool × Refusal)) → first_that_stands tests ≡ None → AllFail tests
all_fail [] none = tt
all_fail (test ∷ tests) none = go test.0 refl none (all_fail tests)
  where
    go : (b : Bool) → test.0 ≡ b → (if b then Some test.1 else first_that_stands tests) ≡ None → (first_that_stands tests ≡ None → AllFail tests) → (test.0 ≡ false) × AllFail tests
    go true is none rest = absurd cc
    go false is none rest = (is, rest none)

pub neither : (a b : Option Refusal) → or_else a b ≡ None → (a ≡ None) × (b ≡ None)
neither (Some x) b none = absurd cc
neither None b none = (refl, none)

get_end : (h : List Event) (e : Event) → slice_get (h ++ e ∷ []) (length h) ≡ Some e
get_end [] e = refl
get_end (x ∷ h) e = get_end h e

-- the last event of a longer history
pub newest_more : (h : List Event) (e : Event) → newest (h ++ e ∷ []) ≡ Some e
newest_more h e =
    let long : length (h ++ e ∷ []) - 1 ≡ length h = omega (arith, length-append h (e ∷ [])) in
    ap (slice_get (h ++ e ∷ [])) long ∙ get_end h e

pub some_or_none : (o : Option ℕ) → is_some o ≡ false → o ≡ None
some_or_none None none = refl
some_or_none (Some x) none = absurd cc

-- ---- what a step that is not refused may do

-- what holds where a step is not refused
pub record Stands (pool : Pool) (h : List Event) (asked : Step) : Type 0 where
  pub tests : AllFail (refusals_of pool h asked)

pub stands : (past : Past) (asked : Step) → refusal_of past asked ≡ None → Stands past.pool past.events asked
unfolding refusal_of
stands past asked none =
    let tests = first_that_stands (refusals_of past.pool past.events asked) in
    record { tests = all_fail (refusals_of past.pool past.events asked) (neither tests (if does_not_fit past asked then Some LogFull else None) none).0 }
