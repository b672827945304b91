use denote.Exit.{no}
use denote.Param.{param}
use denote.Param.Send.{arg_sync, param_sync}
use mir.Syntax.{named}
use Rattle.std.proofs.Common.{ℕ, rules, List, Option, sym, ap, ◌∙◌, subst}
use Rattle.fj_gate.specs.Numbers.{IsNumbersBelow}
use Rattle.fj_submitter.specs.Seats.{SeatState}
use Rattle.fj_parts.specs.Winding.{AreSettled, has_terminated, tickets_of}
use Rattle.fj_run.specs.Playing.{RunningState}
use Rattle.fj_run.proofs.Crossing.{crew_sync}
use Rattle.fj_run.proofs.playing.open_and_play.Goals as goal

-- what the threads share may be lent to them
pub run_all-requires-sync-C : goal.run_all-requires-sync-C
run_all-requires-sync-C g c κs _ =
    let bounds = c.type_bounds in
    let crew = crew_sync (record { mir = named 8; lft = κs.1.1.1.1.1.1.1.1.0 }) (record { mir = named 9; lft = κs.1.1.1.1.1.1.1.1.1.0 }) (record { mir = named 10; lft = κs.1.1.1.1.1.1.1.1.1.1.0 })
    (param 0 g.row.B) (param 1 g.row.N) (param 3 g.row.T) (param 4 g.row.R) (param 5 g.row.B-Key) (param 6 g.row.B-Out) g.B.Body g.B.Key.PartialEq g.B.Key.Eq g.N.Naming
    bounds.send-B bounds.send-B-Key bounds.send-B-Out bounds.send-N bounds.sync-T bounds.sync-R in
    param_sync 1 _ (arg_sync _ no _ crew)

pub returns-clause-told : goal.returns-clause-told
returns-clause-told g c =
    let seen = c.in-Some.ensures in
    let last : RunningState g.row.B.Denot g.row.B-Key.Denot g.row.B-Out.Denot = record { seen = seen.0; seats = c.player.inside.submitters.all.items } in
    let left = c.wind_up-record.result in
    let ends = c.wind_up-record.ensures in
    let seats = ap (λ v. v.items) c.into_all.ensures.these in (
      last,
      search rules,
      record {
        log = c.stand_still-still.result.1;
        core = c.stand_still-still.result.0;
        begins = seen.2;
        ends = c.stand_still-still.ensures;
        past = ends.machine;
        bookings = ends.bookings;
        lanes = subst (λ (all : List (SeatState g.row.B.Denot)). AreSettled left.machine.events left.bookings.bookings all left.lanes.items) seats ends.lanes;
        admitted = subst (λ (all : List (SeatState g.row.B.Denot)). IsNumbersBelow left.admitted (tickets_of all)) seats ends.admitted;
      },
    )

pub returns-clause-run : goal.returns-clause-run
returns-clause-run g c = c.wind_up-record.ensures.run

pub returns-clause-pool : goal.returns-clause-pool
returns-clause-pool g c = c.wind_up-record.ensures.pool

pub returns-clause-history : goal.returns-clause-history
returns-clause-history g c = c.wind_up-record.ensures.history

pub returns-clause-at_close : goal.returns-clause-at_close
returns-clause-at_close g c = c.wind_up-record.ensures.at_close

pub returns-clause-taken_in : goal.returns-clause-taken_in
returns-clause-taken_in g c = c.wind_up-record.ensures.taken_in

pub returns-clause-emptied : goal.returns-clause-emptied
returns-clause-emptied g c = c.wind_up-record.ensures.emptied

pub returns-clause-terminated : goal.returns-clause-terminated
returns-clause-terminated g c =
    let ends = c.wind_up-record.ensures in
    ends.terminated ∙ ap (λ (closed : Option ℕ). has_terminated closed c.wind_up-record.result.machine) (sym ends.closed)
