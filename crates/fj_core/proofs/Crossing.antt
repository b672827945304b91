-- A core may go to another thread, where its bodies, keys and results may.
use denote.Param.Send.{IsSend, sendable}
use denote.Param.SendFields.{declared_send, as_row_send}
use denote.Model.Marks.{tied_send}
use denote.Model.Local.{Parts, rows}
use denote.RattleType.{RattleType}
use Rattle.std.proofs.Crossing.{crosses}
use Rattle.std.proofs.option.Option.TheSendSync.{the_send as option_send}
use Rattle.std.specs.declared.cmp.PartialEq as PartialEq
use Rattle.fj_rules.proofs.epoch.Sealed.TheSendSync.{the_send as sealed_send}
use Rattle.fj_lane.proofs.drain.Drain.TheSendSync.{the_send as drain_send}
use Rattle.fj_lane.proofs.misses.Misses.TheSendSync.{the_send as misses_send}
use Rattle.fj_lane.specs.contracts.drain.Drain as Drain
use Rattle.fj_bodies.proofs.Crossing.{store_send}
use Rattle.fj_bodies.specs.contracts.store.Store as Store
use Rattle.fj_body.specs.declared.body.Body as Body
use Rattle.fj_calls.proofs.bookings.Bookings.TheSendSync.{the_send as bookings_send}
use Rattle.fj_calls.proofs.cutoff.Cutoff.TheSendSync.{the_send as cutoff_send}
use Rattle.fj_calls.specs.contracts.archive.Archive as Archive
use Rattle.fj_calls.specs.contracts.archive.Archive.TheKnot as archive
use Rattle.fj_calls.specs.declared.archive.Archive.TheDeep.{the_members as archive_members, member-Archive}
use Rattle.fj_core.specs.contracts.pool_core.Core as Core
use Rattle.fj_core.specs.contracts.pool_core.Core.TheInside as CoreInside

archive_layer : (p : Parts archive.frame) → IsSend (archive.view-Archive p)
archive_layer p = search (sendable, crosses, sealed_send, option_send) depth 40

keeps-archive : (p : Parts archive.frame) → ((j : archive_members) → IsSend (rows archive.frame p j)) → (i : archive_members) → IsSend (rows archive.frame (archive.step p) i)
keeps-archive p s member-Archive = record { owned = (archive_layer p).owned; leaving = λ k d w. tt }

archive_send : IsSend Archive.the_row
archive_send = tied_send archive.frame archive.step archive.sizes keeps-archive member-Archive

module _ (B K O : RattleType) (g : Body.Ghosts B.Denot K.Denot O.Denot) (e : PartialEq.Ghosts K.Denot) (b : IsSend B) (k : IsSend K) (o : IsSend O) where
  drain_row : IsSend (Drain.the_row B)
  drain_row = drain_send B b

  core_inner : IsSend (CoreInside.the_row B K O g e)
  core_inner = declared_send (CoreInside.the_type B K O g e) (
    as_row_send (Store.the_field B K O g e) (store_send B K O g e b k o),
    (
      search (sendable, crosses, as_row_send, drain_row),
      (
        search (sendable, crosses, as_row_send, bookings_send),
        (
          search (sendable, crosses, as_row_send, cutoff_send),
          (as_row_send Archive.the_field archive_send, (search (sendable, crosses, as_row_send, misses_send), tt)),
        ),
      ),
    ),
  )

  pub core_send : IsSend (Core.the_row B K O g e)
  core_send = record { owned = λ d vs x. (core_inner.owned x.0 vs, tt); leaving = λ k d w. tt }
