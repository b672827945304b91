use Rattle.std.proofs.Common.{◌≡◌, true, length, ap, sym, ◌∙◌, arith, subst}
use Rattle.fj_rules.specs.declared.said.Said.TheVariants as says
use Rattle.fj_rules.specs.declared.step.Step.TheVariants.{Fault}
use Rattle.fj_rules.specs.Tasks.{is_kept}
use Rattle.fj_rules.specs.Statuses.{status, is_undone}
use Rattle.fj_rules.specs.Climbs.{relayed}
use Rattle.fj_rules.specs.Allowed.{AllowedFrom}
use Rattle.fj_rules.specs.Answers.{events_of}
use Rattle.fj_rules.specs.Runs.{grown}
use Rattle.fj_ledger.specs.Holds.{TellsOf}
use Rattle.fj_machine.proofs.Outcomes.Found.{found_kept, found_status}
use Rattle.fj_machine.proofs.ByStep.SettleSteps.{fault_stands, fault_events, fault_says, fault_tells, settles_count}
use Rattle.fj_machine.proofs.Outcomes.Stepping.{steps_full, steps_made, may_step}
use Rattle.fj_machine.proofs.Outcomes.Results.{exits, exits_full}
use Rattle.fj_machine.proofs.steps.settle.fault.Goals as goal
use Rattle.fj_machine.proofs.steps.settle.fault.Goals.{After-record, After-is_undone, After-relay_look-count}

told : (c : After-record) → TellsOf c.args.ledger.now.events c.args.t c.record.result.now
told c = rw c.in_ok-h.ensures.number at c.record.ensures

kept : (c : After-record) → is_kept c.args.ledger.now.events c.args.t ≡ true
kept c = found_kept c.args.ledger.now.events c.args.t c.record.result.now (told c)

read : (c : After-is_undone) → TellsOf c.args.ledger.now.events c.args.t c.record.result.now → is_undone (status c.args.ledger.now.events c.args.t) ≡ c.is_undone.result
read c told = ap is_undone (found_status c.args.ledger.now.events c.args.t c.record.result.now told) ∙ sym c.is_undone.ensures

-- how many events there are
count : (c : After-relay_look-count) → length (events_of c.args.ledger.now.pool c.args.ledger.now.events (Fault c.args.t c.args.code)) ≡ c.relay_look-count.result
count c =
    let h = c.args.ledger.now.events in
    ap length (fault_events c.args.ledger.now c.args.t c.args.code) ∙ settles_count c.args.code (relayed h c.args.t) ∙ sym (rw c.in_ok-h.ensures.number at c.relay_look-count.ensures.count)

pub returns-in_err-h : goal.returns-in_err-h
returns-in_err-h c = exits c.args.ledger.now (Fault c.args.t c.args.code) c.from_residual.result _ c.from_residual.ensures.1 (sym c.in_err-h.ensures.refusal)

pub relay_look-count-requires : goal.relay_look-count-requires
relay_look-count-requires c = record { kept = rw c.in_ok-h.ensures.number (kept (goal.at.relay_look-count-requires c).After-record) }

pub returns-then-not-is_undone : goal.returns-then-not-is_undone
returns-then-not-is_undone c =
    let at = goal.at.returns-then-not-is_undone c in
    fault_tells c.args.ledger.now c.args.t c.args.code c.in_ok-h.ensures.lawful (kept at.After-record) (read at.After-is_undone (told at.After-record) ∙ c.if-not-is_undone.true)

pub returns-in_err-room_for : goal.returns-in_err-room_for
returns-in_err-room_for c =
    let at = goal.at.returns-in_err-room_for c in
    let now = c.args.ledger.now in
    exits_full now (Fault c.args.t c.args.code) c.from_residual-in_err-room_for.result _ c.from_residual-in_err-room_for.ensures.1 c.in_err-room_for.ensures.room.0
    (steps_full now (Fault c.args.t c.args.code) (fault_stands now c.args.t c.args.code (kept at.After-record))
    (omega (arith, count at.After-relay_look-count, c.in_err-room_for.ensures.room.1)))

pub relay-requires-clause-kept : goal.relay-requires-clause-kept
relay-requires-clause-kept c = rw c.in_ok-h.ensures.number (kept (goal.at.relay-requires-clause-kept c).After-record)

pub relay-requires-clause-may : goal.relay-requires-clause-may
relay-requires-clause-may c =
    let at = goal.at.relay-requires-clause-may c in
    let now = c.args.ledger.now in
    rw c.in_ok-h.ensures.number (subst (AllowedFrom now.pool now.events) (fault_events now c.args.t c.args.code)
    (may_step now.pool now.events (Fault c.args.t c.args.code) c.in_ok-h.ensures.lawful (fault_stands now c.args.t c.args.code (kept at.After-record))))

pub returns : goal.returns
returns c =
    let at = goal.at.returns c in
    let now = c.args.ledger.now in
    steps_made now c.relay.new.ledger (Fault c.args.t c.args.code) says.Yes (fault_stands now c.args.t c.args.code (kept at.After-record))
    (omega (arith, count at.After-relay_look-count, c.in_ok-room_for.ensures.room))
    (fault_says now c.args.t c.args.code true (read at.After-is_undone (told at.After-record) ∙ c.if-not-is_undone.false))
    ((rw c.in_ok-h.ensures.number at c.relay.ensures) ∙ ap (grown now) (sym (fault_events now c.args.t c.args.code)))
