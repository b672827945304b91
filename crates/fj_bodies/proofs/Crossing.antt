-- A store may go to another thread, where its bodies, keys and results may.
use denote.Param.Send.{IsSend, sendable}
use denote.Param.SendFields.{declared_send, as_row_send}
use denote.RattleType.{RattleType}
use Rattle.std.proofs.Crossing.{crosses}
use Rattle.std.specs.declared.cmp.PartialEq as PartialEq
use Rattle.fj_machine.proofs.Crossing.{machine_send}
use Rattle.fj_machine.specs.contracts.machine.Machine as Machine
use Rattle.fj_slots.proofs.serial_map.SerialMap.TheSendSync.{the_send as map_send}
use Rattle.fj_slots.proofs.serial_set.SerialSet.TheSendSync.{the_send as set_send}
use Rattle.fj_slots.specs.contracts.serial_set.SerialSet as SerialSet
use Rattle.fj_body.proofs.kept_result.KeptResult.TheSendSync.{the_send as kept_send}
use Rattle.fj_body.specs.contracts.kept_result.KeptResult as KeptResult
use Rattle.fj_bodies.specs.contracts.store.Store as Store
use Rattle.fj_bodies.specs.contracts.store.Store.TheInside as Inside
use Rattle.fj_body.specs.declared.body.Body as Body

module _ (B K O : RattleType) (g : Body.Ghosts B.Denot K.Denot O.Denot) (e : PartialEq.Ghosts K.Denot) (b : IsSend B) (k : IsSend K) (o : IsSend O) where
  kept_row : IsSend (KeptResult.the_row B K O g e)
  kept_row = kept_send B K O g e k o

  store_inner : IsSend (Inside.the_row B K O g e)
  store_inner = declared_send (Inside.the_type B K O g e) (
    as_row_send Machine.the_field machine_send,
    (
      search (sendable, crosses, as_row_send, map_send, b),
      (
        search (sendable, crosses, as_row_send, map_send, kept_row),
        (as_row_send SerialSet.the_field set_send, (search (sendable), tt)),
      ),
    ),
  )

  pub store_send : IsSend (Store.the_row B K O g e)
  store_send = record { owned = λ d vs x. (store_inner.owned x.0 vs, tt); leaving = λ k d w. tt }
