use Rattle.std.proofs.Common.{ℕ, ◌≡◌, ◌<◌, Some}
use Rattle.std.specs.Prelude.{slice_get}
use Rattle.fj_submitter.specs.Seats.{SeatState}
use Rattle.fj_monitor.proofs.pool.Pool.are_all.Given as goal

-- the number of each one so far is its place
abbrev pub invariant-loop-n : goal.invariant-loop-n
invariant-loop-n g l = (k : ℕ) (seat : SeatState g.row.B.Denot) → k < l.n → slice_get l.submitters k ≡ Some seat → seat.number ≡ k
