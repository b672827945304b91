-- A pool may be lent to other threads, where its bodies, and its core, may go to them.
use denote.Param.Send.{IsSend, IsSync, sendable}
use denote.Param.SendFields.{declared_sync, as_row_sync}
use denote.RattleType.{RattleType}
use Rattle.std.proofs.Crossing.{crosses, sync}
use Rattle.std.specs.declared.cmp.Eq as Eq
use Rattle.std.specs.declared.cmp.PartialEq as PartialEq
use Rattle.fj_body.specs.declared.body.Body as Body
use Rattle.fj_calls.specs.declared.calls.view.CoreView as CoreView
use Rattle.fj_fronts.proofs.log.Log.TheSendSync.{the_sync as log_sync}
use Rattle.fj_submitter.specs.declared.naming.Naming as Naming
use Rattle.fj_parts.proofs.Crossing.{locked_send}
use Rattle.fj_parts.specs.contracts.locked.Locked as Locked
use Rattle.fj_monitor.proofs.pool.Shell.TheSendSync.{the_sync as shell_sync}
use Rattle.fj_monitor.specs.contracts.pool.Pool as Pool

module _ (B N C K O : RattleType) (g : Body.Ghosts B.Denot K.Denot O.Denot) (q : Eq.Ghosts K.Denot) (e : PartialEq.Ghosts K.Denot) (n : Naming.Ghosts N.Denot) (s : CoreView.Ghosts C.Denot B.Denot K.Denot O.Denot) (b : IsSend B) (core : IsSend C) (named : IsSend N) where
  locked_row : IsSend (Locked.the_row B N C K O g q e n s)
  locked_row = locked_send B N C K O g q e n s b core named

  pub pool_sync : IsSync (Pool.the_row B N C K O n g q e s)
  pool_sync = declared_sync (Pool.the_type B N C K O n g q e s) (
    search (sendable, crosses, sync) depth 20,
    (
      search (sendable, crosses, as_row_sync, locked_row) depth 20,
      (search (sendable, crosses, shell_sync) depth 20, (search (sendable, crosses, log_sync) depth 20, tt)),
    ),
  )
