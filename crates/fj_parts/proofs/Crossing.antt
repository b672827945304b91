-- What the lock guards may go to another thread, where its bodies, keys and results, and its core, may.
use denote.Param.Send.{IsSend, sendable}
use denote.Param.SendFields.{declared_send, as_row_send}
use denote.RattleType.{RattleType}
use Rattle.std.proofs.Crossing.{crosses}
use Rattle.std.specs.declared.cmp.Eq as Eq
use Rattle.std.specs.declared.cmp.PartialEq as PartialEq
use Rattle.fj_agreement.proofs.end.End.TheSendSync.{the_send as end_send}
use Rattle.fj_body.specs.declared.body.Body as Body
use Rattle.fj_calls.specs.declared.calls.view.CoreView as CoreView
use Rattle.fj_fronts.proofs.keeper.Keeper.TheSendSync.{the_send as keeper_send}
use Rattle.fj_submitter.specs.declared.naming.Naming as Naming
use Rattle.fj_guarded.proofs.Crossing.{guarded_send}
use Rattle.fj_guarded.specs.contracts.guarded.Guarded as Guarded
use Rattle.fj_parts.specs.contracts.locked.Locked as Locked
use Rattle.fj_parts.specs.contracts.locked.Locked.TheInside as LockedInside

module _ (B N C K O : RattleType) (g : Body.Ghosts B.Denot K.Denot O.Denot) (q : Eq.Ghosts K.Denot) (e : PartialEq.Ghosts K.Denot) (n : Naming.Ghosts N.Denot) (s : CoreView.Ghosts C.Denot B.Denot K.Denot O.Denot) (b : IsSend B) (core : IsSend C) (named : IsSend N) where
  locked_inner : IsSend (LockedInside.the_row B N C K O g q e n s)
  locked_inner = declared_send (LockedInside.the_type B N C K O g q e n s) (
    as_row_send (Guarded.the_field B N C K O g e n s) (guarded_send B N C K O g e n s b core named),
    (search (sendable, crosses, as_row_send, end_send), (search (sendable, crosses, as_row_send, keeper_send) depth 20, tt)),
  )

  pub locked_send : IsSend (Locked.the_row B N C K O g q e n s)
  locked_send = record { owned = λ d vs x. (locked_inner.owned x.0 vs, tt); leaving = λ k d w. tt }
