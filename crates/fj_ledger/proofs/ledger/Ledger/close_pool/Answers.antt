use Rattle.std.proofs.Common.{◌+◌, ◌<◌, length, sym, subst}
use Rattle.fj_rules.specs.Pasts.{limit}
use Rattle.fj_rules.specs.declared.event.Event.TheVariants.{Close}
use Rattle.fj_rules.specs.Bounds.{Pool}
use Rattle.fj_rules.specs.Allowed.{Allowed}
use Rattle.fj_rules.specs.Runs.{Past}
use Rattle.fj_ledger.proofs.Updates.Shut.{close_holds}
use Rattle.fj_ledger.proofs.ledger.Ledger.close_pool.Goals as goal

pub invariant_of-self : goal.invariant_of-self
invariant_of-self c =
    let pool : Pool = record { mode = c.self.inside.mode; limits = c.self.inside.limits } in
    let h = c.self.inside.log.events in
    let fits : length h < length c.self.inside.log.sealed + c.self.inside.limits.events = subst (λ (p : Past). length p.events < limit p) (sym c.self.view_is) c.requires.fits in
    let may : Allowed pool h Close = subst (λ (p : Past). Allowed p.pool p.events Close) (sym c.self.view_is) c.requires.may in record {
      holds = rw c.push.ensures (close_holds pool h _ _ _ _ _ _ c.self.invariant.holds may fits);
      log_room = rw c.push.ensures (c.self.invariant.log_room);
      open_room = c.self.invariant.open_room;
      gone_room = c.self.invariant.gone_room;
    }
