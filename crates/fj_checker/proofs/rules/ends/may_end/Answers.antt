use Rattle.std.proofs.Common.{◌≡◌, ◌≤◌, ℕ, [], Some, sym, ap, ◌∙◌}
use Rattle.std.proofs.lemmas.Bool.{ltb-false}
use Rattle.fj_rules.specs.Lists.{last_of}
use Rattle.fj_rules.specs.Stacks.{stack}
use Rattle.fj_rules.proofs.Lists.Absent.{no_such_stack}
use Rattle.fj_checker.proofs.rules.ends.may_end.Goals as goal

none_last : (t : ℕ) → last_of [] ≡ Some t → ⊥
none_last t is = absurd cc

pub returns-then-not-has_worker : goal.returns-then-not-has_worker
returns-then-not-has_worker c =
    let now = c.args.ledger.now in
    let absent : now.pool.limits.workers ≤ c.args.w = ltb-false c.args.w now.pool.limits.workers (sym c.has_worker.ensures.there ∙ c.if-not-has_worker.true) in
    let empty : stack now.events c.args.w ≡ [] = no_such_stack now.pool now.events c.args.w c.has_worker.ensures.lawful.allowed absent in
    (λ bad. absurd cc, λ may. absurd (none_last c.args.t (sym (ap last_of empty) ∙ may.0)))
