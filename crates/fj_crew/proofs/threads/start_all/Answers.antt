use denote.Param.{param}
use denote.Param.Send.{IsSend, IsSync, param_send}
use mir.Syntax.{named}
use Rattle.std.proofs.Crossing.{crosses, Vec-send}
use Rattle.std.specs.contracts.alloc.Global as Global
use Rattle.std.specs.contracts.impls.GlobalAllocator.TheImpl as GlobalImpl
use Rattle.std.specs.contracts.sync.Mutex as Mutex
use Rattle.std.specs.contracts.vec.Vec as Vec
use Rattle.fj_crew.proofs.threads.Shared.TheSendSync.{the_sync as shared_sync}
use Rattle.fj_crew.proofs.threads.start_all.Lts.{arg-1-1}
use Rattle.fj_crew.proofs.threads.start_all.Goals as goal

-- the closure of a worker's thread holds a reference to what all share, a number, and a reference to the hands
pub spawn_scoped-started-requires-send-F : goal.spawn_scoped-started-requires-send-F
spawn_scoped-started-requires-send-F g c κs _ =
    let H = param 1 g.row.H in
    let hand : IsSend H = c.type_bounds.send-H in
    let all : IsSend (Vec.the_row H Global.the_row GlobalImpl.ghosts) = Vec-send H hand in
    let hands : IsSync (Mutex.the_row (Vec.the_row H Global.the_row GlobalImpl.ghosts)) = search (crosses, all) depth 20 in
    let shared = shared_sync (record { mir = named 6; lft = κs.1.1.1.1.1.1.0 }) (record { mir = named 7; lft = κs.1.1.1.1.1.1.1.0 }) (param 2 g.row.C) (param 3 g.row.R) c.type_bounds.sync-C c.type_bounds.sync-R in
    let row = arg-1-1 g.row.E g.row.H g.row.C g.row.R g.E.laws g.H.laws g.C.laws g.R.laws g.C.Crew-dict g.R.Threads-dict g.R.Wait-dict g.H.Destruct-dict κs in
    let sent : IsSend row = record {
      owned = λ x vs vss. (
        tt,
        (
          (tt, shared.shared x.0.now x.0.ref_ptr.0 x.0.ref_ptr.1 κs.1.1.1.1.1.0),
          ((tt, tt), ((tt, hands.shared x.2.now x.2.ref_ptr.0 x.2.ref_ptr.1 κs.1.1.1.1.1.1.1.1.0), tt)),
        ),
      );
      leaving = λ k x w. tt;
    } in
    param_send 1 row sent
