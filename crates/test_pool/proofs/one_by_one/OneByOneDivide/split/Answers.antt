use Rattle.std.proofs.Common.{◌≡◌, ◌+◌, ◌-◌, ◌≤◌, ◌^◌, ◌∙◌, ap, arith, rules}
use Rattle.fj_jobs.specs.Ranges.{range_sum}
use Rattle.fj_jobs.proofs.Sums.{sum_halves}
use Rattle.test_pool.proofs.one_by_one.OneByOneDivide.split.Goals as goal
use Rattle.test_pool.proofs.one_by_one.OneByOneDivide.split.Goals.{then-right, else-right}

pub returns-clause-halves : goal.returns-clause-halves
returns-clause-halves c =
    let numbers = c.args.self.numbers in
    let count = c.if-right.count in
    let few : count ≤ numbers.count = elim c.if-right.branch [
      | then-right w ↦ grind (arith, w.count-is)
      | else-right w ↦ grind (arith, w.count-is, c.if-numbers-le1.false)
    ] in
    let all : numbers.count ≡ count + (numbers.count - count) = omega arith in
    let fits : numbers.from + (count + (numbers.count - count)) ≤ 2 ^ 32 = search rules in
    ap (λ n. range_sum numbers.from n) all ∙ sum_halves numbers.from count (numbers.count - count) fits
