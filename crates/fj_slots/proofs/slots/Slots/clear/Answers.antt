use Rattle.std.proofs.Common.{◌<◌, None, sym, arith}
use Rattle.fj_slots.proofs.Padded.{in_count, write_low, write_same}
use Rattle.fj_slots.proofs.slots.Slots.clear.Goals as goal

pub returns-then-at-len-clause-rest : goal.returns-then-at-len-clause-rest
returns-then-at-len-clause-rest g c =
    let q = c.self.inside in
    let within : c.args.at < q.count = in_count q.written.items q.count None c.args.at c.self.invariant.within c.self.view_is c.requires in
    rw (← c.self.view_is) (sym (write_same q.written.items q.count None c.args.at (omega (arith, c.if-at-len.true, c.len.ensures, q.written.ok.0)) within))

pub returns-clause-rest : goal.returns-clause-rest
returns-clause-rest g c =
    let q = c.self.inside in
    rw (← c.self.view_is, c.take.ensures.after) (write_low q.written.items q.count None None c.args.at (omega (arith, c.if-at-len.false, c.len.ensures, q.written.ok.0)))
