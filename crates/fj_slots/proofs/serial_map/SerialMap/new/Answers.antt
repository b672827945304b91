use Rattle.fj_slots.proofs.Standing.{nothing_stands}
use Rattle.fj_slots.proofs.serial_map.SerialMap.new.Goals as goal

pub returns-clause-entries : goal.returns-clause-entries
returns-clause-entries g c =
    rw (c.in_ok-new.ensures, c.in_ok-new-2.ensures) (nothing_stands {T = g.row.T.Denot} c.args.room c.requires).1

pub invariant_of-result : goal.invariant_of-result
invariant_of-result g c =
    rw (c.in_ok-new.ensures, c.in_ok-new-2.ensures) (nothing_stands {T = g.row.T.Denot} c.args.room c.requires).0
