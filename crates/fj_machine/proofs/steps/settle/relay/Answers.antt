use Rattle.std.proofs.Common.{ℕ, ◌≡◌, ◌+◌, true, List, [], ◌∷◌, ◌++◌, take, Option, Some, None, refl, ap, sym, ◌∙◌, subst, arith}
use Rattle.std.specs.Prelude.{IsSome, option_map, slice_get}
use Rattle.std.proofs.lemmas.List.{append-nil}
use Rattle.fj_rules.specs.Pasts.{limit}
use Rattle.fj_rules.specs.declared.event.Event.{Event}
use Rattle.fj_rules.specs.declared.event.Event.TheVariants.{Settle}
use Rattle.fj_rules.specs.declared.status.Status.TheVariants.{Exceptional}
use Rattle.fj_rules.specs.Tasks.{is_kept, parent}
use Rattle.fj_rules.specs.Climbs.{relayed, path}
use Rattle.fj_rules.specs.Allowed.{Allowed}
use Rattle.fj_rules.specs.Runs.{Past, grown}
use Rattle.fj_rules.proofs.Lists.Members.{get_is_in}
use Rattle.fj_rules.proofs.Events.Settling.{settles}
use Rattle.fj_ledger.specs.Holds.{IsLawful}
use Rattle.fj_ledger.proofs.Lists.Choosing.{some_get}
use Rattle.fj_machine.proofs.ByStep.Passing.{next_up, path_begins, may_next, allowed_front, next_more}
use Rattle.fj_machine.proofs.ByStep.Relaying.{relayed_at, parent_settled}
use Rattle.fj_rules.proofs.Completers.KeptParents.{relayed_kept}
use Rattle.fj_rules.proofs.Events.Settling.{settles_kept}
use Rattle.fj_tree.specs.Handles.{Handle}
use Rattle.fj_machine.proofs.steps.settle.relay.Goals as goal
use Rattle.fj_machine.proofs.steps.settle.relay.Goals.{In-loop, After-unwrap-c, After-parent-at}

pub loop-init : goal.loop-init
loop-init c = record {
  past = ap (λ (es : List Event). let p : Past = record c.args.ledger.now { events = es } in p) (sym (append-nil c.args.ledger.now.events));
  next = λ some. sym (path_begins c.args.ledger.now.events c.args.t.serial);
}

-- the next one stands among those to whom the code is relayed
place : (c : In-loop) → option_map (λ (x : Handle). x.serial) c.loop.at ≡ slice_get (relayed c.args.ledger.now.events c.args.t.serial) c.loop.counter
place c =
    let h = c.args.ledger.now.events in
    c.loop.invariant.next c.loop-test.true ∙ relayed_at h c.args.t.serial c.loop.counter (omega (arith, c.loop-test.true, c.requires.count))

there : (o : Option Handle) (n : ℕ) → option_map (λ (x : Handle). x.serial) o ≡ Some n → IsSome o
there None n is = absurd cc
there (Some x) n is = refl

pub unwrap-c-requires : goal.unwrap-c-requires
unwrap-c-requires c =
    let some = some_get (relayed c.args.ledger.now.events c.args.t.serial) c.loop.counter (omega (arith, c.loop-test.true, c.requires.count)) in
    there c.loop.at some.0 (place (goal.at.unwrap-c-requires c).In-loop ∙ some.1)

member : (c : After-unwrap-c) → option_map (λ (x : Handle). x.serial) c.loop.at ≡ slice_get (relayed c.args.ledger.now.events c.args.t.serial) c.loop.counter → slice_get (relayed c.args.ledger.now.events c.args.t.serial) c.loop.counter ≡ Some c.unwrap-c.result.serial
member c at = sym at ∙ ap (option_map (λ (x : Handle). x.serial)) c.unwrap-c.ensures

-- it is kept
kept : (c : After-parent-at) → slice_get (relayed c.args.ledger.now.events c.args.t.serial) c.loop.counter ≡ Some c.unwrap-c.result.serial → is_kept c.loop.ledger.events c.unwrap-c.result.serial ≡ true
kept c is =
    let h = c.args.ledger.now.events in
    let t = c.args.t.serial in
    let us = take c.loop.counter (relayed h t) in
    let law : IsLawful c.args.ledger.now.pool (limit c.args.ledger.now) (h ++ settles c.args.code us) = subst (λ (p : Past). IsLawful p.pool (limit p) p.events) c.loop.invariant.past c.parent-at.ensures.lawful in
    let so = allowed_front c.args.ledger.now.pool [] h (settles c.args.code us) law.allowed in
    let was = relayed_kept c.args.ledger.now.pool h t c.unwrap-c.result.serial so c.requires.kept (get_is_in c.unwrap-c.result.serial (relayed h t) c.loop.counter is) in
    subst (λ (p : Past). is_kept p.events c.unwrap-c.result.serial ≡ true) (sym c.loop.invariant.past) (settles_kept h c.args.code us c.unwrap-c.result.serial ∙ was)

pub settle-requires-clause-may : goal.settle-requires-clause-may
settle-requires-clause-may c =
    let at = goal.at.settle-requires-clause-may c in
    let is = member at.After-unwrap-c (place at.In-loop) in
    let may = may_next c.args.ledger.now.pool (λ u. Settle u (Exceptional c.args.code)) c.args.ledger.now.events (relayed c.args.ledger.now.events c.args.t.serial) c.loop.counter c.unwrap-c.result.serial c.requires.may is in
    subst (λ (p : Past). Allowed p.pool p.events (Settle c.unwrap-c.result.serial (Exceptional c.args.code))) (sym c.loop.invariant.past) may

-- what was read is the parent
parent_read : (c : After-parent-at) → is_kept c.loop.ledger.events c.unwrap-c.result.serial ≡ true → option_map (λ (x : Handle). x.serial) c.parent-at.result ≡ parent c.loop.ledger.events c.unwrap-c.result.serial
parent_read c is = c.parent-at.ensures.parent is

pub loop-preserved : goal.loop-preserved
loop-preserved c =
    let at = goal.at.loop-preserved c in
    let now = c.args.ledger.now in
    let t = c.args.t.serial in
    let i = c.loop.counter in
    let us = relayed now.events t in
    let is = member at.After-unwrap-c (place at.In-loop) in
    let e = Settle c.unwrap-c.result.serial (Exceptional c.args.code) in
    record {
      past = c.settle.ensures ∙ ap (λ (p : Past). grown p (e ∷ [])) c.loop.invariant.past ∙ next_more (λ u. Settle u (Exceptional c.args.code)) now us i c.unwrap-c.result.serial is;
      next = λ some.
          let later = some_get us (i + 1) (omega (arith, some, c.requires.count)) in
          let on_way : slice_get (path now.events t) i ≡ Some c.unwrap-c.result.serial = relayed_at now.events t i (omega (arith, some, c.requires.count)) ∙ is in
          let next_on_way : slice_get (path now.events t) (i + 1) ≡ Some later.0 = relayed_at now.events t (i + 1) (omega (arith, some, c.requires.count)) ∙ later.1 in
          parent_read at.After-parent-at (kept at.After-parent-at is) ∙ ap (λ (p : Past). parent p.events c.unwrap-c.result.serial) c.loop.invariant.past ∙ parent_settled now.events c.args.code (take i us) c.unwrap-c.result.serial
          ∙ next_up now.events t i c.unwrap-c.result.serial later.0 on_way next_on_way ∙ sym next_on_way;
    }
