use Rattle.std.proofs.Common.{arith, sym, append_assoc}
use Rattle.fj_rules.proofs.Events.Closing.{closed_more, stopped_more}
use Rattle.fj_ledger.proofs.log.Log.push.Goals as goal

pub invariant_of-self : goal.invariant_of-self
invariant_of-self c =
    let whole = c.self.inside in record {
      fits = omega (arith, c.push_reserved.ensures.capacity, c.self.invariant.fits);
      closed = rw (c.push_reserved.ensures.items, ← append_assoc, c.is_close.ensures, c.self.invariant.closed) (sym (closed_more _ c.args.event));
      stopped = rw (c.push_reserved.ensures.items, ← append_assoc, c.is_stop.ensures, c.self.invariant.stopped) (sym (stopped_more _ c.args.event));
      sealed = c.self.invariant.sealed;
      seals = c.self.invariant.seals;
      few = c.self.invariant.few;
    }
