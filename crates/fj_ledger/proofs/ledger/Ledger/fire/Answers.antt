use Rattle.std.proofs.Common.{◌+◌, ◌≡◌, ◌<◌, length, true, None, Some, refl, ap, sym, ◌∙◌, subst, arith}
use Rattle.fj_rules.specs.Pasts.{limit}
use Rattle.fj_rules.specs.declared.event.Event.TheVariants.{Fire}
use Rattle.fj_rules.specs.Bounds.{Pool}
use Rattle.fj_rules.specs.Tasks.{is_completer, parent_in}
use Rattle.fj_rules.specs.Hooks.{hooks, hand, receiver}
use Rattle.fj_rules.specs.Allowed.{Allowed}
use Rattle.fj_rules.specs.Runs.{Past}
use Rattle.fj_tree.specs.declared.record.Record.{Record}
use Rattle.fj_ledger.specs.InHands.{InHand}
use Rattle.fj_ledger.proofs.Recorded.Located.{located, completer_at, read_at}
use Rattle.fj_ledger.proofs.Updates.Settled.{fire_holds}
use Rattle.fj_ledger.proofs.Updates.Spent.{gone_room, open_once}
use Rattle.fj_tree.specs.Handles.{Handle}
use Rattle.fj_ledger.proofs.ledger.Ledger.fire.Goals as goal

pub fire-requires : goal.fire-requires
fire-requires c =
    let h = c.self.inside.log.events in
    let is : is_completer h c.args.c.serial ≡ true = subst (λ (p : Past). is_completer p.events c.args.c.serial ≡ true) (sym c.self.view_is) c.requires.completer in
    let l = located c.self.inside.tree c.args.c.serial c.renew.result c.unwrap-h.result c.renew.ensures.found c.renew.ensures.good c.unwrap-h.ensures in
    completer_at h c.self.inside.tree c.args.c.serial c.unwrap-h.result l (c.self.invariant.holds.tree_kept.each c.unwrap-h.result.key l.found l.at) is

pub close-requires-clause-once : goal.close-requires-clause-once
close-requires-clause-once c = open_once _ _ _ _ _ _ _ _ c.self.invariant.holds

pub close-requires-clause-room : goal.close-requires-clause-room
close-requires-clause-room c =
    let fits : length c.self.inside.log.events < length c.self.inside.log.sealed + c.self.inside.limits.events = subst (λ (p : Past). length p.events < limit p) (sym c.self.view_is) c.requires.fits in
    omega (arith, gone_room _ _ _ _ _ _ _ _ c.self.invariant.holds, fits, c.self.invariant.gone_room)

pub invariant_of-self : goal.invariant_of-self
invariant_of-self c =
    let pool : Pool = record { mode = c.self.inside.mode; limits = c.self.inside.limits } in
    let h = c.self.inside.log.events in
    let t = c.args.c.serial in
    let w = c.args.w in
    let fits : length h < length c.self.inside.log.sealed + c.self.inside.limits.events = subst (λ (p : Past). length p.events < limit p) (sym c.self.view_is) c.requires.fits in
    let may : Allowed pool h (Fire t c.args.how) = subst (λ (p : Past). Allowed p.pool p.events (Fire t c.args.how)) (sym c.self.view_is) c.requires.may in
    let is : is_completer h t ≡ true = subst (λ (p : Past). is_completer p.events t ≡ true) (sym c.self.view_is) c.requires.completer in
    let within : w < c.self.inside.limits.workers = subst (λ (p : Past). w < p.pool.limits.workers) (sym c.self.view_is) c.requires.worker in
    let free : hand h w ≡ None = subst (λ (p : Past). hand p.events w ≡ None) (sym c.self.view_is) c.requires.free in
    let given : receiver t (hooks h).just_ended (hooks h).last_worker ≡ Some w = subst (λ (p : Past). receiver t (hooks p.events).just_ended (hooks p.events).last_worker ≡ Some w) (sym c.self.view_is) c.requires.given in
    let l = located c.self.inside.tree t c.renew.result c.unwrap-h.result c.renew.ensures.found c.renew.ensures.good c.unwrap-h.ensures in
    let read = read_at c.self.inside.tree t c.unwrap-h.result l c.unwrap.result.now (rw c.unwrap.ensures at c.get.ensures) in
    let hook : InHand = record { completer = t; parent = c.parent-parent.result; how = c.args.how; released = None } in record {
      holds = rw (c.push.ensures, c.close.ensures.tree, c.close.ensures.open, c.close.ensures.gone, c.fire.ensures, c.w.view_is, ap (λ (x : Handle). x.serial) c.c.view_is)
          (fire_holds pool h t w c.args.how _ _ _ hook _ _ _ c.unwrap-h.result c.self.invariant.holds c.renew.ensures.sound l may is fits within free given refl (c.parent-parent.ensures ∙ ap (λ (r : Record). parent_in (Some r.kind)) read) refl refl);
      log_room = rw c.push.ensures (c.self.invariant.log_room);
      open_room = omega (arith, c.close.ensures.open_room, c.self.invariant.open_room);
      gone_room = omega (arith, c.close.ensures.gone_room, c.self.invariant.gone_room);
    }
