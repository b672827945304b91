-- Values that nothing on their right changes.
use Rattle.std.specs.Prelude.{is_some, true}
use Rattle.std.proofs.Common.{◌≡◌, List, [], ◌∷◌, ◌++◌, Option, Some, None, refl, sym, ◌∙◌, ap}
use Rattle.std.proofs.lemmas.Bool.{false≢true}
use Rattle.std.specs.Option.{option_or}
use Rattle.fj_jobs.specs.Finals.{IsFinal, ending_in}

ending_in_some : {A : Type 0} (x : A) (befores : List (Option A)) (after : Option A) → option_or (ending_in option_or befores (Some x)) after ≡ ending_in option_or befores (Some x)
ending_in_some x [] after = refl
ending_in_some x (None ∷ others) after = ending_in_some x others after
ending_in_some x (Some y ∷ others) after = refl

-- what was found first
pub some_is_final : {A : Type 0} (v : Option A) → is_some v ≡ true → IsFinal option_or v
some_is_final (Some x) e = ending_in_some x
some_is_final None e = absurd (false≢true e)

-- the value of a whole whose left half has a final one
pub final_left : {O : Type 0} (combined : O → O → O) (left right whole : O) → whole ≡ combined left right → IsFinal combined left → left ≡ whole
final_left combined left right whole e final = sym (final [] right) ∙ sym e

ending_in-snoc : {O : Type 0} (combined : O → O → O) (befores : List O) (x v : O) → ending_in combined (befores ++ x ∷ []) v ≡ ending_in combined befores (combined x v)
ending_in-snoc combined [] x v = refl
ending_in-snoc combined (b ∷ others) x v = ap (combined b) (ending_in-snoc combined others x v)

-- what ends in a final value
pub final_before : {O : Type 0} (combined : O → O → O) (x v : O) → IsFinal combined v → IsFinal combined (combined x v)
final_before combined x v final =
    λ befores after.
    ap (λ y. combined y after) (sym (ending_in-snoc combined befores x v)) ∙ final (befores ++ x ∷ []) after ∙ ending_in-snoc combined befores x v
