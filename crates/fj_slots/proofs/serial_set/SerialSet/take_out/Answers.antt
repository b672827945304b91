use Rattle.fj_slots.specs.Shelves.{entries}
use Rattle.fj_slots.proofs.Marking.{marked_less}
use Rattle.fj_slots.proofs.serial_set.SerialSet.take_out.Goals as goal

pub invariant_of-self : goal.invariant_of-self
invariant_of-self c = record {
  marked = rw (c.take-mark.ensures.entries, c.remove_last.ensures.items) (marked_less (entries c.self.inside.marks) c.self.inside.numbers.items c.args.t c.self.invariant.marked);
  fits = rw (c.take-mark.ensures.room, c.remove_last.ensures.room) c.self.invariant.fits;
}
