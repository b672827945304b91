use Rattle.fj_rules.specs.declared.step.Step.TheVariants as step
use Rattle.std.proofs.Common.{◌≡◌, ◌+◌, ◌≤◌, ◌∷◌, ◌++◌, [], length, Bool, true, None, Some, ap, sym, ◌∙◌, subst, inl, inr}
use Rattle.fj_rules.specs.Pasts.{limit}
use Rattle.fj_rules.specs.declared.event.Event.TheVariants.{Hooked, Settle}
use Rattle.fj_rules.specs.declared.status.Status.TheVariants.{Normal}
use Rattle.fj_rules.specs.Tasks.{is_completer}
use Rattle.fj_rules.specs.Hooks.{hooks, hand, receiver}
use Rattle.fj_rules.specs.Climbs.{arrival}
use Rattle.fj_rules.specs.Allowed.{Allowed}
use Rattle.fj_rules.specs.Answers.{hook_events, arriving, arriving_says}
use Rattle.fj_rules.specs.Runs.{Past, grown}
use Rattle.fj_machine.proofs.ByStep.HookSteps.{own, own_count, hook_full, hook_made, may_hook, parent_is_completer, parent_still_completer, past_free, past_given, parent_arrival, inner_events, inner_says, arriving_count, inner_count, past_fits}
use Rattle.fj_machine.proofs.Outcomes.RoomTests.{either_way, grown_none, grown_twice}
use Rattle.fj_machine.proofs.Outcomes.Results.{exits_full}
use Rattle.fj_machine.proofs.steps.end.hook.inner_hook_done.Goals as goal
use Rattle.fj_machine.proofs.steps.end.hook.inner_hook_done.Goals.{After-room_for, After-arrive-arg-1, then-settles, else-settles, then-settles-2, else-settles-2}

-- the events, and how many they are
events : (c : After-room_for) → hook_events c.args.ledger.now.events (Some c.args.c.serial) ≡ Hooked c.args.c.serial ∷ (own c.args.c.serial c.args.settles ++ arriving c.args.p.serial (arrival c.args.ledger.now.events c.args.p.serial))
events c = inner_events c.args.ledger.now.pool c.args.ledger.now.events c.args.c.serial c.args.p.serial _ c.requires.lawful c.requires.parent c.requires.settles

own_many : (c : After-room_for) → 1 + length (own c.args.c.serial c.args.settles) ≡ c.if-settles.events
own_many c =
    own_count c.args.c.serial _ _
    (either_way c.args.settles c.if-settles.events 2 1 (elim c.if-settles.branch [ then-settles w ↦ inl (w.if-settles.true, w.events-is) | else-settles w ↦ inr (w.if-settles.false, w.events-is) ]))

arrival_many : (c : After-room_for) → length (arriving c.args.p.serial (arrival c.args.ledger.now.events c.args.p.serial)) ≡ c.arrival_events.result
arrival_many c = arriving_count c.args.p.serial 0 (arrival c.args.ledger.now.events c.args.p.serial) ∙ ap (λ a. length (arriving 0 a)) (sym c.arrival.ensures.arrival) ∙ sym c.arrival_events.ensures

count : (c : After-room_for) → 1 + length (own c.args.c.serial c.args.settles ++ arriving c.args.p.serial (arrival c.args.ledger.now.events c.args.p.serial)) ≡ c.if-settles.events + c.arrival_events.result
count c = inner_count c.args.c.serial _ _ c.args.settles _ (own_many c) (arrival_many c)

-- what there is before the arrival
past : (c : After-arrive-arg-1) → c.if-settles-2.ledger ≡ grown (grown c.args.ledger.now (Hooked c.args.c.serial ∷ [])) (own c.args.c.serial c.args.settles)
past c =
    let ended : Past = grown c.args.ledger.now (Hooked c.args.c.serial ∷ []) in
    elim c.if-settles-2.branch [
      | then-settles-2 w ↦
          w.ledger-is ∙ w.settle.ensures ∙ ap (λ (p : Past). grown p (Settle c.args.c.serial Normal ∷ [])) c.end_hook.ensures ∙ ap (λ (b : Bool). grown ended (own c.args.c.serial b)) (sym w.if-settles-2.true)
      | else-settles-2 w ↦ w.ledger-is ∙ c.end_hook.ensures ∙ grown_none ended ∙ ap (λ (b : Bool). grown ended (own c.args.c.serial b)) (sym w.if-settles-2.false)
    ]

pub arrival-requires : goal.arrival-requires
arrival-requires c = record { completer = parent_is_completer c.args.ledger.now.pool c.args.ledger.now.events c.args.c.serial c.args.p.serial c.requires.lawful c.requires.parent }

pub returns-in_err-room_for : goal.returns-in_err-room_for
returns-in_err-room_for c =
    let at = (goal.at.returns-in_err-room_for c).After-room_for in
    exits_full c.args.ledger.now (step.HookDone c.args.w) c.from_residual.result _ c.from_residual.ensures.1 c.in_err-room_for.ensures.room.0
    (hook_full c.args.ledger.now c.args.w c.args.c.serial _ _ c.requires.worker c.requires.hand (events at) (count at) c.in_err-room_for.ensures.room.1)

pub settle-requires-clause-may : goal.settle-requires-clause-may
settle-requires-clause-may c =
    let at = (goal.at.settle-requires-clause-may c).After-room_for in
    let may = may_hook c.args.ledger.now.pool c.args.ledger.now.events c.args.w c.args.c.serial _ c.requires.lawful c.requires.worker c.requires.hand (events at) in
    let both = rw c.if-settles-2.true at may in
    subst (λ (p : Past). Allowed p.pool p.events (Settle c.args.c.serial Normal)) (sym c.end_hook.ensures) (both.0)

pub arrive-requires-clause-completer : goal.arrive-requires-clause-completer
arrive-requires-clause-completer c =
    let at = (goal.at.arrive-requires-clause-completer c).After-arrive-arg-1 in
    subst (λ (p : Past). is_completer p.events c.args.p.serial ≡ true) (sym (past at)) (parent_still_completer c.args.ledger.now.pool c.args.ledger.now.events c.args.c.serial c.args.p.serial _ c.requires.lawful c.requires.parent)

pub arrive-requires-clause-free : goal.arrive-requires-clause-free
arrive-requires-clause-free c =
    let at = (goal.at.arrive-requires-clause-free c).After-arrive-arg-1 in
    subst (λ (p : Past). hand p.events c.args.w ≡ None) (sym (past at)) (past_free c.args.ledger.now.pool c.args.ledger.now.events c.args.w c.args.c.serial _ c.requires.lawful c.requires.hand)

pub arrive-requires-clause-given : goal.arrive-requires-clause-given
arrive-requires-clause-given c =
    let at = (goal.at.arrive-requires-clause-given c).After-arrive-arg-1 in
    subst (λ (p : Past). receiver c.args.p.serial (hooks p.events).just_ended (hooks p.events).last_worker ≡ Some c.args.w) (sym (past at))
    (past_given c.args.ledger.now.pool c.args.ledger.now.events c.args.w c.args.c.serial c.args.p.serial _ c.requires.lawful c.requires.hand)

pub arrive-requires-clause-fits : goal.arrive-requires-clause-fits
arrive-requires-clause-fits c =
    let here = goal.at.arrive-requires-clause-fits c in
    let room = c.in_ok-room_for.ensures.room in
    subst (λ (p : Past). length p.events + length (arriving c.args.p.serial (arrival p.events c.args.p.serial)) ≤ limit p) (sym (past here.After-arrive-arg-1))
    (past_fits c.args.ledger.now.pool c.args.ledger.now.events c.args.c.serial c.args.p.serial _ _ _ c.requires.lawful c.requires.parent (own_many here.After-room_for) (arrival_many here.After-room_for) room)

pub returns : goal.returns
returns c =
    let here = goal.at.returns c in
    let at = here.After-room_for in
    let is = past here.After-arrive-arg-1 in
    let h = c.args.ledger.now.events in
    let p = c.args.p.serial in
    let same = parent_arrival c.args.ledger.now.pool h c.args.c.serial p c.args.settles c.requires.lawful c.requires.parent in
    let ended : Past = grown c.args.ledger.now (Hooked c.args.c.serial ∷ []) in
    let before : Past = grown ended (own c.args.c.serial c.args.settles) in
    let said = c.arrive.ensures.said ∙ ap (λ (q : Past). arriving_says p (arrival q.events p)) is ∙ ap (arriving_says p) same ∙ inner_says c.args.ledger.now.pool h c.args.c.serial p _ c.requires.lawful c.requires.parent c.requires.settles in
    let events_are = c.arrive.ensures.events ∙ ap (λ (q : Past). grown q (arriving p (arrival q.events p))) is ∙ ap (λ a. grown before (arriving p a)) same ∙ grown_twice ended _ _ in
    hook_made c.args.ledger.now c.arrive.new.ledger c.args.w c.args.c.serial _ _ _ c.requires.worker c.requires.hand (events at) said (count at) c.in_ok-room_for.ensures.room events_are
