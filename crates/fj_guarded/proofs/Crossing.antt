-- What the lock guards may go to another thread, where its bodies, keys and results, and its core, may.
use denote.Param.Send.{IsSend, sendable}
use denote.Param.SendFields.{declared_send, as_row_send}
use denote.RattleType.{RattleType}
use Rattle.std.proofs.Crossing.{crosses}
use Rattle.std.specs.declared.cmp.PartialEq as PartialEq
use Rattle.fj_rules.proofs.ids.SubId.TheSendSync.{the_send as submitter_send}
use Rattle.fj_gate.proofs.entrant.Entrant.TheSendSync.{the_send as entrant_send}
use Rattle.fj_lane.proofs.rest.Rest.TheSendSync.{the_send as rest_send}
use Rattle.fj_lane.specs.contracts.rest.Rest as Rest
use Rattle.fj_body.specs.declared.body.Body as Body
use Rattle.fj_calls.specs.declared.calls.view.CoreView as CoreView
use Rattle.fj_submitter.specs.declared.naming.Naming as Naming
use Rattle.fj_guarded.specs.contracts.guarded.Guarded as Guarded
use Rattle.fj_guarded.specs.contracts.guarded.Guarded.TheInside as GuardedInside

module _ (B N C K O : RattleType) (g : Body.Ghosts B.Denot K.Denot O.Denot) (e : PartialEq.Ghosts K.Denot) (n : Naming.Ghosts N.Denot) (s : CoreView.Ghosts C.Denot B.Denot K.Denot O.Denot) (b : IsSend B) (core : IsSend C) (named : IsSend N) where
  rest_row : IsSend (Rest.the_row B)
  rest_row = rest_send B b

  guarded_inner : IsSend (GuardedInside.the_row B N C K O g e n s)
  guarded_inner = declared_send (GuardedInside.the_type B N C K O g e n s) (
    search (sendable, crosses, as_row_send, core),
    (
      search (sendable, crosses, as_row_send, entrant_send),
      (search (sendable, crosses, as_row_send, rest_row), (search (sendable, crosses, as_row_send, submitter_send), (search (sendable, crosses, as_row_send, named), tt))),
    ),
  )

  pub guarded_send : IsSend (Guarded.the_row B N C K O g e n s)
  guarded_send = record { owned = λ d vs x. (guarded_inner.owned x.0 vs, tt); leaving = λ k d w. tt }
