use Rattle.std.proofs.Common.{◌+◌, ap, ◌≡◌, ◌<◌, length, Some, sym, subst}
use Rattle.fj_rules.specs.Pasts.{limit}
use Rattle.fj_rules.specs.Bounds.{Pool}
use Rattle.fj_rules.specs.Hooks.{hand}
use Rattle.fj_rules.specs.Runs.{Past}
use Rattle.fj_ledger.proofs.Updates.HookEnds.{hook_end_holds}
use Rattle.fj_tree.specs.Handles.{Handle}
use Rattle.fj_ledger.proofs.ledger.Ledger.end_hook.Goals as goal

pub invariant_of-self : goal.invariant_of-self
invariant_of-self c =
    let pool : Pool = record { mode = c.self.inside.mode; limits = c.self.inside.limits } in
    let h = c.self.inside.log.events in
    let within : c.args.w < c.self.inside.limits.workers = subst (λ (p : Past). c.args.w < p.pool.limits.workers) (sym c.self.view_is) c.requires.worker in
    let is : hand h c.args.w ≡ Some c.args.c.serial = subst (λ (p : Past). hand p.events c.args.w ≡ Some c.args.c.serial) (sym c.self.view_is) c.requires.hand in
    let fits : length h < length c.self.inside.log.sealed + c.self.inside.limits.events = subst (λ (p : Past). length p.events < limit p) (sym c.self.view_is) c.requires.fits in record {
      holds = rw (c.push.ensures, c.w.view_is, ap (λ (x : Handle). x.serial) c.c.view_is) (hook_end_holds pool h c.args.c.serial c.args.w _ _ _ _ _ _ c.self.invariant.holds within is fits);
      log_room = rw c.push.ensures (c.self.invariant.log_room);
      open_room = c.self.invariant.open_room;
      gone_room = c.self.invariant.gone_room;
    }
