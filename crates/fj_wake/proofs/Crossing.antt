-- A core with the account of who sleeps may go to another thread, where its bodies, keys and results may.
use denote.Param.Send.{IsSend, sendable}
use denote.Param.SendFields.{declared_send, as_row_send}
use denote.RattleType.{RattleType}
use Rattle.std.proofs.Crossing.{crosses}
use Rattle.std.specs.declared.cmp.PartialEq as PartialEq
use Rattle.fj_body.specs.declared.body.Body as Body
use Rattle.fj_core.proofs.Crossing.{core_send}
use Rattle.fj_core.specs.contracts.pool_core.Core as Core
use Rattle.fj_wake.proofs.waits.Waits.TheSendSync.{the_send as waits_send}
use Rattle.fj_wake.specs.contracts.waking_core.WakingCore as WakingCore
use Rattle.fj_wake.specs.contracts.waking_core.WakingCore.TheInside as WakingCoreInside

module _ (B K O : RattleType) (g : Body.Ghosts B.Denot K.Denot O.Denot) (e : PartialEq.Ghosts K.Denot) (b : IsSend B) (k : IsSend K) (o : IsSend O) where
  waking_core_inner : IsSend (WakingCoreInside.the_row B K O g e)
  waking_core_inner = declared_send (WakingCoreInside.the_type B K O g e) (
    as_row_send (Core.the_field B K O g e) (core_send B K O g e b k o),
    (search (sendable, crosses, as_row_send, waits_send), tt),
  )

  pub waking_core_send : IsSend (WakingCore.the_row B K O g e)
  waking_core_send = record { owned = λ d vs x. (waking_core_inner.owned x.0 vs, tt); leaving = λ k d w. tt }
