-- What the threads of a pool share may be lent to them.
use denote.Param.Send.{IsSend, IsSync, sendable}
use denote.Param.SendFields.{declared_sync, as_row_sync}
use denote.RattleType.{RattleType}
use denote.Ref.{NamedLft}
use Rattle.std.proofs.Crossing.{crosses}
use Rattle.std.specs.declared.cmp.Eq as Eq
use Rattle.std.specs.declared.cmp.PartialEq as PartialEq
use Rattle.fj_body.specs.declared.body.Body as Body
use Rattle.fj_submitter.specs.declared.naming.Naming as Naming
use Rattle.fj_wake.proofs.Crossing.{waking_core_send}
use Rattle.fj_wake.specs.contracts.waking_core.WakingCore as WakingCore
use Rattle.fj_wake.specs.contracts.waking_core.WakingCoreCoreView.TheImpl as ViewImpl
use Rattle.fj_monitor.proofs.Crossing.{pool_sync}
use Rattle.fj_monitor.specs.contracts.pool.Pool as Pool
use Rattle.fj_run.specs.contracts.crew.PoolCrew as PoolCrew

module _ (p r t : NamedLft) (B N T R K O : RattleType) (g : Body.Ghosts B.Denot K.Denot O.Denot) (e : PartialEq.Ghosts K.Denot) (q : Eq.Ghosts K.Denot) (n : Naming.Ghosts N.Denot)
    (b : IsSend B) (k : IsSend K) (o : IsSend O) (named : IsSend N) (turnstile : IsSync T) (rt : IsSync R) where
  pool : IsSync (Pool.the_row B N (WakingCore.the_row B K O g e) K O n g q e (ViewImpl.ghosts B K O g ViewImpl.no_dict q ViewImpl.no_dict e ViewImpl.no_dict ViewImpl.no_dict ViewImpl.no_dict ViewImpl.no_dict))
  pool = pool_sync B N (WakingCore.the_row B K O g e) K O g q e n (ViewImpl.ghosts B K O g ViewImpl.no_dict q ViewImpl.no_dict e ViewImpl.no_dict ViewImpl.no_dict ViewImpl.no_dict ViewImpl.no_dict) b (waking_core_send B K O g e b k o) named

  pub crew_sync : IsSync (PoolCrew.the_row p r t B N T R K O n g q e)
  crew_sync = declared_sync (PoolCrew.the_type p r t B N T R K O n g q e) (
    search (sendable, crosses, as_row_sync, pool) depth 20,
    (search (sendable, crosses, rt) depth 20, (search (sendable, crosses, turnstile) depth 20, (search (sendable, as_row_sync) depth 20, tt))),
  )
