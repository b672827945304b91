use Rattle.std.proofs.Common.{◌+◌, ◌<◌, length, ap, sym, subst}
use Rattle.fj_rules.specs.Pasts.{limit}
use Rattle.fj_rules.specs.declared.event.Event.TheVariants.{Add}
use Rattle.fj_rules.specs.Bounds.{Pool}
use Rattle.fj_rules.specs.Allowed.{Allowed}
use Rattle.fj_rules.specs.Runs.{Past}
use Rattle.fj_ledger.proofs.Updates.Counted.{raise_holds, addable}
use Rattle.fj_tree.specs.Handles.{Handle}
use Rattle.fj_ledger.proofs.Recorded.Located.{located}
use Rattle.fj_ledger.proofs.Recorded.Refused.{unrefused, of_ok}
use Rattle.fj_ledger.proofs.ledger.Ledger.raise.Goals as goal

pub unwrap-requires : goal.unwrap-requires
unwrap-requires c =
    let pool : Pool = record { mode = c.self.inside.mode; limits = c.self.inside.limits } in
    let h = c.self.inside.log.events in
    let may : Allowed pool h (Add c.args.c.serial c.args.n) = subst (λ (p : Past). Allowed p.pool p.events (Add c.args.c.serial c.args.n)) (sym c.self.view_is) c.requires.may in
    let l = located c.self.inside.tree c.args.c.serial c.renew.result c.unwrap-h.result c.renew.ensures.found c.renew.ensures.good c.unwrap-h.ensures in
    unrefused c.add.result _ c.add.ensures.refused (addable pool h c.args.c.serial c.args.n _ _ _ _ _ _ c.unwrap-h.result c.self.invariant.holds l may)

pub invariant_of-self : goal.invariant_of-self
invariant_of-self c =
    let pool : Pool = record { mode = c.self.inside.mode; limits = c.self.inside.limits } in
    let h = c.self.inside.log.events in
    let fits : length h < length c.self.inside.log.sealed + c.self.inside.limits.events = subst (λ (p : Past). length p.events < limit p) (sym c.self.view_is) c.requires.fits in
    let may : Allowed pool h (Add c.args.c.serial c.args.n) = subst (λ (p : Past). Allowed p.pool p.events (Add c.args.c.serial c.args.n)) (sym c.self.view_is) c.requires.may in
    let l = located c.self.inside.tree c.args.c.serial c.renew.result c.unwrap-h.result c.renew.ensures.found c.renew.ensures.good c.unwrap-h.ensures in
    let ok = unrefused c.add.result _ c.add.ensures.refused (addable pool h c.args.c.serial c.args.n _ _ _ _ _ _ c.unwrap-h.result c.self.invariant.holds l may) in record {
      holds = rw (c.push.ensures, ap (λ (x : Handle). x.serial) c.c.view_is, of_ok c.add.result _ c.add.ensures.added ok) (raise_holds pool h c.args.c.serial c.args.n _ _ _ _ _ _ c.unwrap-h.result c.self.invariant.holds c.renew.ensures.sound l may fits);
      log_room = rw c.push.ensures (c.self.invariant.log_room);
      open_room = c.self.invariant.open_room;
      gone_room = c.self.invariant.gone_room;
    }
