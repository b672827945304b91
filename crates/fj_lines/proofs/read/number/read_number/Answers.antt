use Rattle.std.proofs.Common.{◌≡◌, ℕ, ◌<◌, ◌≤◌, length, get_or, Some, arith, false, inl, inr, refl, sym, ap, ◌∙◌}
use Rattle.std.specs.Str.Parse.{digits_value}
use Rattle.std.proofs.lemmas.Bool.{both_ways, cases_lt, eqb-true}
use Rattle.fj_lines.proofs.Reading.NumberLaws.{no_number_empty, no_number_long, no_number_zeros, no_number_large, number_of_digits, some_bytes, large}
use Rattle.fj_lines.proofs.read.number.read_number.Goals as goal
use Rattle.fj_lines.proofs.read.number.read_number.Goals.{then-is_empty-via-then-is_empty, then-is_empty-via-else-is_empty+then-word-gt10}

pub returns-then-is_empty : goal.returns-then-is_empty
returns-then-is_empty c =
    let word = c.args.word.now in
    elim c.then-is_empty.branch [
      | then-is_empty-via-then-is_empty w ↦ no_number_empty word (eqb-true (length word) 0 (sym c.is_empty.ensures ∙ w.if-is_empty.true))
      | then-is_empty-via-else-is_empty+then-word-gt10 w ↦ no_number_long word w.if-word-gt10.true
    ]

pub returns-then-has_leading_zero : goal.returns-then-has_leading_zero
returns-then-has_leading_zero c =
    let zero = c.if-has_leading_zero.ensures.0 refl in
    no_number_zeros c.args.word.now zero.0 zero.1

pub returns-in-Ok : goal.returns-in-Ok
returns-in-Ok c =
    let word = c.args.word.now in
    let digits = c.in_ok-value.ensures in
    let number = c.in-Ok.ensures in
    let some : 0 < length word = some_bytes word c.is_empty.result c.is_empty.ensures c.if-is_empty.false in
    let no_zero : get_or word 0 0 ≡ 48 → length word ≤ 1 = λ zero. elim (cases_lt 1 (length word)) [
      | inl long ↦ absurd (both_ways false refl (c.if-has_leading_zero.ensures.1 (zero, long)))
      | inr short ↦ short
    ] in
    number_of_digits word digits.0 some no_zero (omega (arith, digits.1, number.0)) ∙ ap (λ (n : ℕ). Some n) (sym (number.1 ∙ digits.1))

pub returns-in-Err : goal.returns-in-Err
returns-in-Err c =
    let digits = c.in_ok-value.ensures in
    no_number_large c.args.word.now (large c.in_ok-value.value (digits_value 10 c.args.word.now) digits.1 c.in-Err.ensures)
