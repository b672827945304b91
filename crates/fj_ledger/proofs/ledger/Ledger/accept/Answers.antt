use Rattle.std.proofs.Common.{◌+◌, ◌≡◌, ◌<◌, length, sym, ◌∙◌, ap, subst, arith}
use Rattle.fj_rules.specs.Pasts.{limit}
use Rattle.fj_rules.specs.declared.event.Event.TheVariants.{Acc}
use Rattle.fj_rules.specs.declared.place.Place.TheVariants.{Queued}
use Rattle.fj_rules.specs.Bounds.{Pool}
use Rattle.fj_rules.specs.Tasks.{accepted}
use Rattle.fj_rules.specs.Allowed.{Allowed}
use Rattle.fj_rules.specs.Runs.{Past}
use Rattle.fj_tree.specs.Handles.{Handle}
use Rattle.fj_ledger.proofs.Updates.Accepted.{parent_there, parent_is, made_is, accept_holds}
use Rattle.fj_ledger.proofs.Recorded.Records.{IsMade}
use Rattle.fj_ledger.proofs.Histories.Rooms.{queues_are_short}
use Rattle.fj_ledger.proofs.Updates.Spent.{few_accepted}
use Rattle.fj_ledger.proofs.ledger.Ledger.accept.Goals as goal
use Rattle.fj_ledger.proofs.ledger.Ledger.accept.Goals.{After-self, After-queue_number}

may : (c : After-self) → Allowed (record { mode = c.self.inside.mode; limits = c.self.inside.limits }) c.self.inside.log.events (Acc (accepted c.self.inside.log.events) c.args.owner.now c.args.kind.now)
may c = subst (λ (p : Past). Allowed p.pool p.events (Acc (accepted p.events) c.args.owner.now c.args.kind.now)) (sym c.self.view_is) c.requires.may

fits : (c : After-self) → length c.self.inside.log.events < length c.self.inside.log.sealed + c.self.inside.limits.events
fits c = subst (λ (p : Past). length p.events < limit p) (sym c.self.view_is) c.requires.fits

pub renewed-parent-requires : goal.renewed-parent-requires
renewed-parent-requires c =
    let at = (goal.at.renewed-parent-requires c).After-self in
    let limits = c.self.inside.limits in
    parent_there c.self.inside.log.events c.self.inside.tree limits _ c.args.parent c.self.invariant.holds.tree_kept (may at).0.under c.requires.parent

pub insert-requires-clause-made : goal.insert-requires-clause-made
insert-requires-clause-made c =
    let at = (goal.at.insert-requires-clause-made c).After-self in
    let h = c.self.inside.log.events in
    omega (arith, c.self.invariant.holds.tree_kept.made, few_accepted h, fits at, c.self.invariant.holds.within.few_events)

pub insert-requires-clause-room : goal.insert-requires-clause-room
insert-requires-clause-room c =
    let at = (goal.at.insert-requires-clause-room c).After-self in
    let keeps = c.self.invariant.holds.tree_kept in
    omega (arith, keeps.live, keeps.room, (may at).0.room)

pub insert-requires-clause-pending : goal.insert-requires-clause-pending
insert-requires-clause-pending c = (may (goal.at.insert-requires-clause-pending c).After-self).0.count

pub insert-requires-clause-named : goal.insert-requires-clause-named
insert-requires-clause-named c = c.renewed-parent.ensures.number ∙ c.requires.parent

pub insert-requires-clause-completer : goal.insert-requires-clause-completer
insert-requires-clause-completer c =
    let at = (goal.at.insert-requires-clause-completer c).After-self in
    let limits = c.self.inside.limits in
    parent_is c.self.inside.log.events c.self.inside.tree limits _ c.renewed-parent.result c.self.invariant.holds.tree_kept (may at).0.under
    (c.renewed-parent.ensures.number ∙ c.requires.parent) c.renewed-parent.ensures.found

pub push-requires-2-clause-room : goal.push-requires-2-clause-room
push-requires-2-clause-room c =
    let at = (goal.at.push-requires-2-clause-room c).After-self in
    let pool : Pool = record { mode = c.self.inside.mode; limits = c.self.inside.limits } in
    let h = c.self.inside.log.events in
    let holds = c.self.invariant.holds in
    omega (arith, queues_are_short pool h c.self.inside.queues holds.lawful holds.queues_kept, holds.queues_kept.room, (may at).0.room)

-- what the insertion left
made : (c : After-queue_number) → IsMade c.self.inside.tree c.insert.new.self c.insert.result.key c.insert.result.serial c.args.kind.now (Queued c.args.owner.now)
made c = made_is _ _ c.insert.result _ _ c.insert.ensures.number c.insert.ensures.made c.insert.ensures.room c.insert.ensures.vacant c.insert.ensures.record c.insert.ensures.others c.insert.ensures.kept

pub invariant_of-self : goal.invariant_of-self
invariant_of-self c =
    let at = goal.at.invariant_of-self c in
    let pool : Pool = record { mode = c.self.inside.mode; limits = c.self.inside.limits } in
    let h = c.self.inside.log.events in
    let holds = c.self.invariant.holds in
    let number : c.insert.result.serial ≡ accepted h = c.insert.ensures.number ∙ holds.tree_kept.made in
    let read : c.t.inside.serial ≡ c.insert.result.serial = ap (λ (x : Handle). x.serial) c.t.view_is in record {
      holds = rw (c.push.ensures, c.push-2.ensures.pushed, c.queue_number.ensures, read, number)
          (accept_holds pool h (accepted h) c.args.owner.now c.args.kind.now _ _ _ _ _ _ _ c.insert.result.key holds (may at.After-self) (fits at.After-self) (rw number at (made at.After-queue_number)));
      log_room = rw c.push.ensures (c.self.invariant.log_room);
      open_room = c.self.invariant.open_room;
      gone_room = c.self.invariant.gone_room;
    }
