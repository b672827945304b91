use Rattle.std.proofs.Common.{◌+◌, ℕ, List, ◌≡◌, ◌<◌, length, None, sym, ◌∙◌, ap, subst, arith}
use Rattle.fj_rules.specs.Pasts.{limit}
use Rattle.fj_rules.specs.declared.event.Event.TheVariants.{Make}
use Rattle.fj_rules.specs.declared.kind.Kind.TheVariants.{Completer}
use Rattle.fj_rules.specs.declared.place.Place.TheVariants.{Open}
use Rattle.fj_rules.specs.Bounds.{Pool}
use Rattle.fj_rules.specs.Tasks.{accepted}
use Rattle.fj_rules.specs.Allowed.{Allowed}
use Rattle.fj_rules.specs.Runs.{Past}
use Rattle.fj_tree.specs.Handles.{Handle}
use Rattle.fj_ledger.proofs.Updates.Accepted.{made_is, trigger_holds}
use Rattle.fj_ledger.proofs.Recorded.Records.{IsMade}
use Rattle.fj_rules.proofs.Places.KeptPlaces.{few_open}
use Rattle.fj_ledger.proofs.Updates.Spent.{few_accepted}
use Rattle.fj_ledger.proofs.ledger.Ledger.make_trigger.Goals as goal
use Rattle.fj_ledger.proofs.ledger.Ledger.make_trigger.Goals.{After-self, After-insert-h}

fits : (c : After-self) → length c.self.inside.log.events < length c.self.inside.log.sealed + c.self.inside.limits.events
fits c = subst (λ (p : Past). length p.events < limit p) (sym c.self.view_is) c.requires.fits

may : (c : After-self) → Allowed (record { mode = c.self.inside.mode; limits = c.self.inside.limits }) c.self.inside.log.events (Make (accepted c.self.inside.log.events) (Completer c.args.relay c.args.count None))
may c = subst (λ (p : Past). Allowed p.pool p.events (Make (accepted p.events) (Completer c.args.relay c.args.count None))) (sym c.self.view_is) c.requires.may

pub insert-h-requires-clause-made : goal.insert-h-requires-clause-made
insert-h-requires-clause-made c =
    let at = (goal.at.insert-h-requires-clause-made c).After-self in
    let h = c.self.inside.log.events in
    omega (arith, c.self.invariant.holds.tree_kept.made, few_accepted h, fits at, c.self.invariant.holds.within.few_events)

pub insert-h-requires-clause-room : goal.insert-h-requires-clause-room
insert-h-requires-clause-room c =
    let at = (goal.at.insert-h-requires-clause-room c).After-self in
    let keeps = c.self.invariant.holds.tree_kept in
    omega (arith, keeps.live, keeps.room, (may at).0.room)

pub insert-h-requires-clause-pending : goal.insert-h-requires-clause-pending
insert-h-requires-clause-pending c =
    let at = (goal.at.insert-h-requires-clause-pending c).After-self in
    rw c.trigger.ensures (may at).0.count

pub push-requires-2 : goal.push-requires-2
push-requires-2 c =
    let pool : Pool = record { mode = c.self.inside.mode; limits = c.self.inside.limits } in
    let h = c.self.inside.log.events in
    let holds = c.self.invariant.holds in
    let at = (goal.at.push-requires-2 c).After-self in
    omega (arith, few_open pool h holds.lawful, (may at).0.room, ap (λ (ts : List ℕ). length ts) holds.open_kept, c.self.invariant.open_room)

-- what the insertion left
made : (c : After-insert-h) → IsMade c.self.inside.tree c.insert-h.new.self c.insert-h.result.key c.insert-h.result.serial c.trigger.result Open
made c = made_is _ _ c.insert-h.result _ _ c.insert-h.ensures.number c.insert-h.ensures.made c.insert-h.ensures.room c.insert-h.ensures.vacant c.insert-h.ensures.record c.insert-h.ensures.others c.insert-h.ensures.kept

pub invariant_of-self : goal.invariant_of-self
invariant_of-self c =
    let at = goal.at.invariant_of-self c in
    let pool : Pool = record { mode = c.self.inside.mode; limits = c.self.inside.limits } in
    let h = c.self.inside.log.events in
    let holds = c.self.invariant.holds in
    let number : c.insert-h.result.serial ≡ accepted h = c.insert-h.ensures.number ∙ holds.tree_kept.made in
    let read : c.h.inside.serial ≡ c.insert-h.result.serial = ap (λ (x : Handle). x.serial) c.h.view_is in record {
      holds = rw (c.push.ensures, c.push-2.ensures, c.trigger-2.ensures, read, number)
          (trigger_holds pool h (accepted h) (Completer c.args.relay c.args.count None) _ _ _ _ _ _ _ c.insert-h.result.key holds (may at.After-self) (fits at.After-self) (rw (number, c.trigger.ensures) at (made at.After-insert-h)));
      log_room = rw c.push.ensures (c.self.invariant.log_room);
      open_room = rw c.push-2.ensures (c.self.invariant.open_room);
      gone_room = c.self.invariant.gone_room;
    }
