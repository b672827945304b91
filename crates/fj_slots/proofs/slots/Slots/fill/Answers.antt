use Rattle.std.proofs.Common.{◌≡◌, ◌<◌, None, Some, length, arith}
use Rattle.fj_slots.proofs.Padded.{in_count, long_up, write_low, write_high}
use Rattle.fj_slots.proofs.slots.Slots.fill.Goals as goal

pub returns-then-at-len : goal.returns-then-at-len
returns-then-at-len g c =
    let q = c.self.inside in
    let low : c.args.at < length q.written.items = omega (arith, c.if-at-len.true, c.len.ensures, q.written.ok.0) in
    rw (← c.self.view_is, c.overwrite.ensures.items) (write_low q.written.items q.count None (Some (c.args.number, c.args.item)) c.args.at low)

pub returns-else-at-len : goal.returns-else-at-len
returns-else-at-len g c =
    let q = c.self.inside in
    let within : c.args.at < q.count = in_count q.written.items q.count None c.args.at c.self.invariant.within c.self.view_is c.requires in
    rw (← c.self.view_is, c.push_reserved.ensures.items, c.write_up_to.ensures.items)
    (write_high q.written.items q.count None (Some (c.args.number, c.args.item)) c.args.at (omega (arith, c.if-at-len.false, c.len.ensures, q.written.ok.0)) within)

pub write_up_to-requires-clause-room : goal.write_up_to-requires-clause-room
write_up_to-requires-clause-room g c =
    omega (arith, c.self.invariant.fits, in_count c.self.inside.written.items c.self.inside.count None c.args.at c.self.invariant.within c.self.view_is c.requires)

pub push_reserved-requires : goal.push_reserved-requires
push_reserved-requires g c =
    let q = c.self.inside in
    let within : c.args.at < q.count = in_count q.written.items q.count None c.args.at c.self.invariant.within c.self.view_is c.requires in
    let new = c.write_up_to.new.written in
    let long : length new.items ≡ c.args.at = long_up q.written.items None c.args.at c.write_up_to.ensures.items (omega (arith, c.if-at-len.false, c.len.ensures, q.written.ok.0)) in
    omega (arith, new.ok.0, c.write_up_to.ensures.capacity, c.self.invariant.fits)

pub invariant_of-self-else-at-len : goal.invariant_of-self-else-at-len
invariant_of-self-else-at-len g c =
    let q = c.self.inside in
    let within : c.args.at < q.count = in_count q.written.items q.count None c.args.at c.self.invariant.within c.self.view_is c.requires in
    let new = c.write_up_to.new.written in
    let long : length new.items ≡ c.args.at = long_up q.written.items None c.args.at c.write_up_to.ensures.items (omega (arith, c.if-at-len.false, c.len.ensures, q.written.ok.0)) in
    record {
      some = c.self.invariant.some;
      within = omega (arith, c.push_reserved.new.self.ok.0, new.ok.0, c.push_reserved.ensures.len);
      fits = omega (arith, c.self.invariant.fits, c.write_up_to.ensures.capacity, c.push_reserved.ensures.capacity);
    }
