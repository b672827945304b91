use Rattle.std.proofs.Common.{◌∷◌, [], ◌++◌, ap, ◌∙◌}
use Rattle.fj_calls.specs.Archives.{Archived}
use Rattle.fj_calls.specs.Cores.{CoreState}
use Rattle.fj_core.proofs.Parts.{parts_kept, sealed_core}
use Rattle.fj_core.proofs.pool_core.Core.seal_part.Goals as goal

pub invariant_of-self-2 : goal.invariant_of-self-2
invariant_of-self-2 g c =
    let self = c.self.inside in
    let part = c.in_ok-part.part in
    let hands = c.in_ok-part.ensures in
    record {
      core = sealed_core _ _ _ _ _ part hands c.self.invariant.core;
      room = c.self.invariant.room;
      parts = parts_kept self.archive c.reserve.new.self c.push.new.self part _ c.reserve.ensures.same c.push.ensures (hands.joins (self.archive.handed ++ self.archive.kept) c.self.invariant.parts);
    }

pub returns-clause-seals : goal.returns-clause-seals
returns-clause-seals g c =
    let self = c.self.inside in
    let part = c.in_ok-part.part in
    let with_archive : Archived → CoreState g.row.B.Denot g.row.B-Key.Denot g.row.B-Out.Denot =
    λ a. record { store = c.seal.new.self; lanes = self.drains.items; bookings = self.bookings.bookings; closing = self.closing; handed = a.handed; parts = a.kept; missed_seals = self.missed_seals.number } in
    let more = ap with_archive c.push.ensures ∙ ap (λ (a : Archived). with_archive (record a { kept = a.kept ++ part ∷ [] })) c.reserve.ensures.same in
    rw (← c.self.view_is) (record { part = part; hands = c.in_ok-part.ensures; others = more })
