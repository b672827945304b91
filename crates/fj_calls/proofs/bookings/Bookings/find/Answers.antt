use Rattle.std.proofs.Common.{rules}
use Rattle.fj_calls.proofs.Index.{within_bookings, found_by_place}
use Rattle.fj_calls.proofs.bookings.Bookings.find.Goals as goal

pub index-requires : goal.index-requires
index-requires c = within_bookings _ _ c.args.ticket c.in_ok-place-in-Some.place _ c.self.invariant.index (search rules) c.self.inside.list.ok.0

pub returns-in_ok-place-in-Some : goal.returns-in_ok-place-in-Some
returns-in_ok-place-in-Some c = rw (← c.self.view_is) (found_by_place _ _ c.args.ticket c.in_ok-place-in-Some.place c.index.result.now c.self.invariant.index (search rules) c.index.ensures)
