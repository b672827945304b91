use Rattle.std.proofs.Common.{◌+◌, ◌≡◌, ◌<◌, length, true, ap, sym, subst, arith}
use Rattle.fj_rules.specs.Pasts.{limit}
use Rattle.fj_rules.specs.declared.event.Event.TheVariants.{Pass}
use Rattle.fj_rules.specs.Bounds.{Pool}
use Rattle.fj_rules.specs.Tasks.{is_completer}
use Rattle.fj_rules.specs.Allowed.{Allowed}
use Rattle.fj_rules.specs.Runs.{Past}
use Rattle.fj_tree.specs.Handles.{Handle}
use Rattle.fj_ledger.proofs.Recorded.Located.{located, completer_at}
use Rattle.fj_ledger.proofs.Updates.Settled.{pass_holds}
use Rattle.fj_ledger.proofs.Updates.Spent.{gone_room, open_once}
use Rattle.fj_ledger.proofs.ledger.Ledger.pass.Goals as goal

pub fire-requires : goal.fire-requires
fire-requires c =
    let h = c.self.inside.log.events in
    let is : is_completer h c.args.c.serial ≡ true = subst (λ (p : Past). is_completer p.events c.args.c.serial ≡ true) (sym c.self.view_is) c.requires.completer in
    let l = located c.self.inside.tree c.args.c.serial c.renew.result c.unwrap-h.result c.renew.ensures.found c.renew.ensures.good c.unwrap-h.ensures in
    completer_at h c.self.inside.tree c.args.c.serial c.unwrap-h.result l (c.self.invariant.holds.tree_kept.each c.unwrap-h.result.key l.found l.at) is

pub close-requires-clause-once : goal.close-requires-clause-once
close-requires-clause-once c = open_once _ _ _ _ _ _ _ _ c.self.invariant.holds

pub close-requires-clause-room : goal.close-requires-clause-room
close-requires-clause-room c =
    let fits : length c.self.inside.log.events < length c.self.inside.log.sealed + c.self.inside.limits.events = subst (λ (p : Past). length p.events < limit p) (sym c.self.view_is) c.requires.fits in
    omega (arith, gone_room _ _ _ _ _ _ _ _ c.self.invariant.holds, fits, c.self.invariant.gone_room)

pub invariant_of-self : goal.invariant_of-self
invariant_of-self c =
    let pool : Pool = record { mode = c.self.inside.mode; limits = c.self.inside.limits } in
    let h = c.self.inside.log.events in
    let fits : length h < length c.self.inside.log.sealed + c.self.inside.limits.events = subst (λ (p : Past). length p.events < limit p) (sym c.self.view_is) c.requires.fits in
    let may : Allowed pool h (Pass c.args.c.serial) = subst (λ (p : Past). Allowed p.pool p.events (Pass c.args.c.serial)) (sym c.self.view_is) c.requires.may in
    let is : is_completer h c.args.c.serial ≡ true = subst (λ (p : Past). is_completer p.events c.args.c.serial ≡ true) (sym c.self.view_is) c.requires.completer in
    let l = located c.self.inside.tree c.args.c.serial c.renew.result c.unwrap-h.result c.renew.ensures.found c.renew.ensures.good c.unwrap-h.ensures in record {
      holds = rw (c.push.ensures, c.close.ensures.tree, c.close.ensures.open, c.close.ensures.gone, c.fire.ensures, ap (λ (x : Handle). x.serial) c.c.view_is)
          (pass_holds pool h c.args.c.serial _ _ _ _ _ _ c.unwrap-h.result c.self.invariant.holds c.renew.ensures.sound l may is fits);
      log_room = rw c.push.ensures (c.self.invariant.log_room);
      open_room = omega (arith, c.close.ensures.open_room, c.self.invariant.open_room);
      gone_room = omega (arith, c.close.ensures.gone_room, c.self.invariant.gone_room);
    }
