use Rattle.std.proofs.Common.{◌≡◌, ◌+◌, get_or, arith}
use Rattle.std.specs.Int.{IsInRange}
use Rattle.std.specs.Char.{digit_value}
use Rattle.std.proofs.lemmas.Str.{digit_value_digit}
use Rattle.std.proofs.lemmas.Int.Digits.{digits_more, digits_value_more}
use Rattle.fj_lines.proofs.Reading.NumberLaws.{few_digits, no_number_other}
use Rattle.fj_lines.proofs.read.number.value_of.Goals as goal

pub returns-then-not-is_ascii_digit : goal.returns-then-not-is_ascii_digit
returns-then-not-is_ascii_digit c =
    let test = c.is_ascii_digit.ensures.value in
    no_number_other c.args.word.now c.loop-byte.byte-index c.loop-byte-test.true (λ range. grind arith)

pub overflow_mul-value : goal.overflow_mul-value
overflow_mul-value c = omega (arith, few_digits c.args.word.now c.loop-byte.byte-index c.requires c.loop-byte.invariant.digits)

pub overflow_add-value : goal.overflow_add-value
overflow_add-value c = omega (arith, c.from.ensures, few_digits c.args.word.now c.loop-byte.byte-index c.requires c.loop-byte.invariant.digits)

pub loop-byte-preserved : goal.loop-byte-preserved
loop-byte-preserved c =
    let word = c.args.word.now in
    let i = c.loop-byte.byte-index in
    let test = c.is_ascii_digit.ensures.value in
    let range : IsInRange 48 57 (get_or word i 0) = grind arith in
    let digit : digit_value (get_or word i 0) + 48 ≡ get_or word i 0 = digit_value_digit (get_or word i 0) range in
    record {
      digits = digits_more 10 word i c.loop-byte-test.true c.loop-byte.invariant.digits (omega arith);
      value = omega (arith, digits_value_more 10 word i c.loop-byte-test.true, c.from.ensures);
    }
