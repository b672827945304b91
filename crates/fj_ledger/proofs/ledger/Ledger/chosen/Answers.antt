use Rattle.std.proofs.Common.{◌≡◌, ◌+◌, ◌<◌, length, ap, ◌∙◌, arith, subst}
use Rattle.fj_rules.specs.declared.mode.Mode.{Mode}
use Rattle.fj_rules.specs.declared.owner.Owner.TheVariants.{Work}
use Rattle.fj_rules.specs.Bounds.{Pool, queues_in}
use Rattle.fj_rules.specs.Queues.{queue}
use Rattle.fj_rules.specs.Choices.{first_queued, scan_order}
use Rattle.fj_rules.specs.Runs.{Past}
use Rattle.fj_rules.proofs.Lists.Owners.{work_owner}
use Rattle.fj_queues.specs.Queues.{queue_at, first_filled, places_from}
use Rattle.fj_ledger.specs.Sources.{IsChosenFrom}
use Rattle.fj_ledger.proofs.Lists.Choosing.{ComesFrom, own_source, own_is_chosen, scan_found, scan_choice, scanned_is_chosen}
use Rattle.fj_ledger.proofs.ledger.Ledger.chosen.Goals as goal
use Rattle.fj_ledger.proofs.ledger.Ledger.chosen.Goals.{After-len, After-first_from}

within : (c : After-len) → c.args.w < c.self.inside.limits.workers
within c = omega (arith, c.requires, ap (λ (p : Past). p.pool.limits.workers) c.self.view_is)

-- what was counted is the worker's own queue
own : (c : After-len) → c.len.result ≡ length (queue c.self.inside.log.events (Work c.args.w))
own c =
    let l = c.self.inside.limits in
    let below : l.submitters + c.args.w < queues_in l = omega (arith, within c) in
    c.len.ensures ∙ ap (λ q. length (queue_at c.self.inside.queues q)) c.queue_number-own.ensures
    ∙ ap length (c.self.invariant.holds.queues_kept.each (l.submitters + c.args.w) below ∙ ap (queue c.self.inside.log.events) (work_owner l c.args.w))

-- what was found is what the scan of the definition finds
scanned : (c : After-first_from) → c.args.w < c.self.inside.limits.workers → ComesFrom c.self.inside.limits c.self.inside.log.events (first_queued c.self.inside.log.events (scan_order c.self.inside.limits c.args.r)) c.first_from.result
scanned c inside =
    let l = c.self.inside.limits in
    let kept = c.self.invariant.holds.queues_kept in
    let found : c.first_from.result ≡ first_filled c.self.inside.queues.lists (places_from (queues_in l) c.args.r) =
    c.first_from.ensures.scan ∙ ap (λ n. first_filled c.self.inside.queues.lists (places_from n c.args.r)) kept.count in
    rw found (scan_found l c.self.inside.log.events c.self.inside.queues.lists c.args.r (omega arith) kept.each)

pub returns-in-Async : goal.returns-in-Async
returns-in-Async c =
    let at = goal.at.returns-in-Async c in
    let past : Past = record { pool = record { mode = c.self.inside.mode; limits = c.self.inside.limits }; sealed = c.self.inside.log.sealed; events = c.self.inside.log.events; seals = c.self.inside.log.seals } in
    let chosen = own_is_chosen past c.args.w c.args.r (within at.After-len) (omega (arith, own at.After-len)) in
    rw (← c.self.view_is, c.queue_number-own.ensures) (subst (λ (m : Mode). IsChosenFrom past c.args.w c.args.r (own_source m (c.self.inside.limits.submitters + c.args.w))) c.in-Async.is chosen)

pub returns-in-Joining : goal.returns-in-Joining
returns-in-Joining c =
    let at = goal.at.returns-in-Joining c in
    let past : Past = record { pool = record { mode = c.self.inside.mode; limits = c.self.inside.limits }; sealed = c.self.inside.log.sealed; events = c.self.inside.log.events; seals = c.self.inside.log.seals } in
    let chosen = own_is_chosen past c.args.w c.args.r (within at.After-len) (omega (arith, own at.After-len)) in
    rw (← c.self.view_is, c.queue_number-own.ensures) (subst (λ (m : Mode). IsChosenFrom past c.args.w c.args.r (own_source m (c.self.inside.limits.submitters + c.args.w))) c.in-Joining.is chosen)

pub returns-in-None : goal.returns-in-None
returns-in-None c =
    let at = goal.at.returns-in-None c in
    let pool : Pool = record { mode = c.self.inside.mode; limits = c.self.inside.limits } in
    let empty : length (queue c.self.inside.log.events (Work c.args.w)) ≡ 0 = omega (arith, own at.After-len) in
    rw (← c.self.view_is) (scan_choice pool c.self.inside.log.events c.args.w c.args.r empty ∙ rw c.in-None.is at (scanned at.After-first_from (within at.After-len)))

pub returns-in-Some : goal.returns-in-Some
returns-in-Some c =
    let at = goal.at.returns-in-Some c in
    let past : Past = record { pool = record { mode = c.self.inside.mode; limits = c.self.inside.limits }; sealed = c.self.inside.log.sealed; events = c.self.inside.log.events; seals = c.self.inside.log.seals } in
    let empty : length (queue c.self.inside.log.events (Work c.args.w)) ≡ 0 = omega (arith, own at.After-len) in
    rw (← c.self.view_is) (scanned_is_chosen past c.args.w c.args.r c.in-Some.q empty (rw c.in-Some.is at (scanned at.After-first_from (within at.After-len))))
