use Rattle.fj_rules.specs.declared.step.Step.TheVariants as step
use Rattle.std.proofs.Common.{ℕ, ◌≡◌, ◌+◌, ◌∷◌, ◌++◌, [], List, length, map, true, ap, sym, ◌∙◌, subst}
use Rattle.fj_rules.specs.declared.event.Event.{Event}
use Rattle.fj_rules.specs.declared.event.Event.TheVariants as event
use Rattle.fj_rules.specs.declared.step.Ending.TheVariants.{Pass}
use Rattle.fj_rules.specs.Tasks.{is_kept, is_completer}
use Rattle.fj_rules.specs.Climbs.{passed}
use Rattle.fj_rules.specs.Allowed.{AllowedFrom}
use Rattle.fj_rules.specs.Answers.{after_end}
use Rattle.fj_rules.specs.Runs.{Past, grown}
use Rattle.fj_rules.proofs.Events.Lawful.{allowed_more}
use Rattle.fj_tree.specs.Passes.{PassEnd}
use Rattle.fj_ledger.specs.Climbing.{Climbs}
use Rattle.fj_machine.specs.Climbing.{climb_end}
use Rattle.fj_machine.proofs.ByStep.EndSteps.{end_full, end_made, end_suits, may_end, ended_completer}
use Rattle.fj_machine.proofs.ByStep.Passing.{still_completer, allowed_front}
use Rattle.fj_machine.proofs.ByStep.PassSteps.{pass_events, pass_reply, pass_count, climb_completer, kept_past, allowed_back}
use Rattle.fj_machine.proofs.Outcomes.RoomTests.{grown_twice}
use Rattle.fj_machine.proofs.ByStep.EndSteps.{ended_kept}
use Rattle.fj_machine.proofs.ByStep.PassSteps.{climb_kept}
use Rattle.fj_machine.proofs.Outcomes.Results.{exits_full}
use Rattle.fj_machine.proofs.steps.end.pass.end_pass.Goals as goal
use Rattle.fj_machine.proofs.steps.end.pass.end_pass.Goals.{After-room_for, After-pass_all}

-- the history once the body has ended
abbrev ended : After-room_for → List Event
ended c = c.args.ledger.now.events ++ event.End c.args.t.serial c.args.w ∷ []

-- where the climb ends
abbrev end : After-room_for → PassEnd
end c = record { passed = c.climb.inside.passed; at = c.climb.inside.at; how = c.climb.inside.how }

climbs : (c : After-room_for) → Climbs (ended c) c.args.t.serial (end c)
climbs c = subst (Climbs (ended c) c.args.t.serial) (sym c.climb.view_is) c.pass_look-climb.ensures.climbs

-- how many events there are
count : (c : After-room_for) → 1 + length (map event.Pass (passed (ended c) c.args.t.serial) ++ climb_end (end c).how (end c).at.serial) ≡ 1 + (end c).passed + c.climb_events.result
count c = pass_count (ended c) c.args.t.serial (end c) (climbs c) ∙ ap (λ (n : ℕ). 1 + (end c).passed + n) (sym c.climb_events.ensures)

count_after : (c : After-room_for) → 1 + length (after_end (ended c) c.args.t.serial Pass) ≡ 1 + (end c).passed + c.climb_events.result
count_after c = ap (λ (es : List Event). 1 + length es) (pass_events (ended c) c.args.t.serial (end c) (climbs c)) ∙ count c

pub returns-in_err-room_for : goal.returns-in_err-room_for
returns-in_err-room_for c =
    let at = (goal.at.returns-in_err-room_for c).After-room_for in
    exits_full c.args.ledger.now (step.End c.args.w Pass) c.from_residual.result _ c.from_residual.ensures.1 c.in_err-room_for.ensures.room.0
    (end_full c.args.ledger.now c.args.w c.args.t.serial Pass _ c.requires.stands c.requires.running (count_after at) c.in_err-room_for.ensures.room.1)

-- what follows the end of the body is allowed
may : (c : After-room_for) → AllowedFrom c.args.ledger.now.pool (ended c) (map event.Pass (passed (ended c) c.args.t.serial) ++ climb_end (end c).how (end c).at.serial)
may c =
    let now = c.args.ledger.now in
    subst (AllowedFrom now.pool (ended c)) (pass_events (ended c) c.args.t.serial (end c) (climbs c))
    (may_end now.pool now.events c.args.w c.args.t.serial Pass c.room_for.ensures.lawful c.requires.stands c.requires.running).1

-- the task is a completer
completer : (c : After-room_for) → is_completer (ended c) c.args.t.serial ≡ true
completer c =
    let suits = end_suits c.args.ledger.now.pool c.args.ledger.now.events c.args.w c.args.t.serial Pass c.requires.stands c.requires.running in
    ended_completer c.args.ledger.now.events c.args.w c.args.t.serial suits.1

pub pass_all-requires-clause-completer : goal.pass_all-requires-clause-completer
pass_all-requires-clause-completer c =
    let at = (goal.at.pass_all-requires-clause-completer c).After-room_for in
    subst (λ (p : Past). is_completer p.events c.args.t.serial ≡ true) (sym c.end_body.ensures) (completer at)

pub pass_all-requires-clause-may : goal.pass_all-requires-clause-may
pass_all-requires-clause-may c =
    let at = (goal.at.pass_all-requires-clause-may c).After-room_for in
    let first = allowed_front c.args.ledger.now.pool (ended at) (map event.Pass (passed (ended at) c.args.t.serial)) _ (may at) in
    subst (λ (p : Past). AllowedFrom p.pool p.events (map event.Pass (passed p.events c.args.t.serial))) (sym c.end_body.ensures) first

-- the past when the climb has ended
climbed : (c : After-pass_all) → c.pass_all.new.ledger ≡ grown (grown c.args.ledger.now (event.End c.args.t.serial c.args.w ∷ [])) (map event.Pass (passed (c.args.ledger.now.events ++ event.End c.args.t.serial c.args.w ∷ []) c.args.t.serial))
climbed c = c.pass_all.ensures ∙ ap (λ (p : Past). grown p (map event.Pass (passed p.events c.args.t.serial))) c.end_body.ensures

-- the one at which it ends is a completer
end_completer : (c : After-room_for) → is_completer (ended c) (end c).at.serial ≡ true
end_completer c =
    let now = c.args.ledger.now in
    let suits = end_suits now.pool now.events c.args.w c.args.t.serial Pass c.requires.stands c.requires.running in
    let so = allowed_more now.pool [] now.events (event.End c.args.t.serial c.args.w) c.room_for.ensures.lawful.allowed (c.requires.running, suits.0) in
    climb_completer now.pool (ended c) c.args.t.serial (end c) so (completer c) (climbs c)

pub pass_all-requires-clause-kept : goal.pass_all-requires-clause-kept
pass_all-requires-clause-kept c =
    let now = c.args.ledger.now in
    subst (λ (p : Past). is_kept p.events c.args.t.serial ≡ true) (sym c.end_body.ensures) (ended_kept now.pool now.events c.args.w c.args.t.serial c.room_for.ensures.lawful c.requires.running)

pub end_climb-requires-clause-kept : goal.end_climb-requires-clause-kept
end_climb-requires-clause-kept c =
    let at = goal.at.end_climb-requires-clause-kept c in
    let here = at.After-room_for in
    let now = c.args.ledger.now in
    let d = (end here).at.serial in
    let law = c.room_for.ensures.lawful in
    let suits = end_suits now.pool now.events c.args.w c.args.t.serial Pass c.requires.stands c.requires.running in
    let so = allowed_more now.pool [] now.events (event.End c.args.t.serial c.args.w) law.allowed (c.requires.running, suits.0) in
    let kept = climb_kept now.pool (ended here) c.args.t.serial (end here) so (ended_kept now.pool now.events c.args.w c.args.t.serial law c.requires.running) (climbs here) in
    subst (λ (p : Past). is_kept p.events d ≡ true) (sym (climbed at.After-pass_all)) (kept_past (ended here) (passed (ended here) c.args.t.serial) d kept)

pub end_climb-requires-clause-completer : goal.end_climb-requires-clause-completer
end_climb-requires-clause-completer c =
    let at = goal.at.end_climb-requires-clause-completer c in
    let here = at.After-room_for in
    let d = (end here).at.serial in
    subst (λ (p : Past). is_completer p.events d ≡ true) (sym (climbed at.After-pass_all)) (still_completer (ended here) (passed (ended here) c.args.t.serial) d (end_completer here))

pub end_climb-requires-clause-may : goal.end_climb-requires-clause-may
end_climb-requires-clause-may c =
    let at = goal.at.end_climb-requires-clause-may c in
    let here = at.After-room_for in
    let rest = allowed_back c.args.ledger.now.pool (ended here) (map event.Pass (passed (ended here) c.args.t.serial)) _ (may here) in
    subst (λ (p : Past). AllowedFrom p.pool p.events (climb_end (end here).how (end here).at.serial)) (sym (climbed at.After-pass_all)) rest

pub returns : goal.returns
returns c =
    let at = goal.at.returns c in
    let here = at.After-room_for in
    let now = c.args.ledger.now in
    let climb = end here in
    let ps = map event.Pass (passed (ended here) c.args.t.serial) in
    let events = c.end_climb.ensures.events ∙ ap (λ (p : Past). grown p (climb_end climb.how climb.at.serial)) (climbed at.After-pass_all) ∙ grown_twice (grown now (event.End c.args.t.serial c.args.w ∷ [])) ps (climb_end climb.how climb.at.serial) in
    end_made now c.end_climb.new.ledger c.args.w c.args.t.serial Pass (ps ++ climb_end climb.how climb.at.serial) _ _ c.requires.stands c.requires.running (pass_events (ended here) c.args.t.serial climb (climbs here))
    (c.end_climb.ensures.said ∙ pass_reply (ended here) c.args.t.serial climb (climbs here)) (count here) c.in_ok-room_for.ensures.room events
