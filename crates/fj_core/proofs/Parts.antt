-- The parts that a core keeps stay those of its history.
use Rattle.std.proofs.Common.{◌≡◌, Bool, true, false, inl, inr, List, [], ◌∷◌, ◌++◌, refl, ap, sym, ◌∙◌, subst, append_assoc, append-nil}
use Rattle.fj_rules.specs.declared.epoch.Sealed.{Sealed}
use Rattle.fj_rules.specs.declared.event.Event.{Event}
use Rattle.fj_rules.specs.Pasts.{Past, grown, sealed_now}
use Rattle.fj_rules.specs.Places.{gone}
use Rattle.fj_lane.specs.Ends.{DrainState}
use Rattle.fj_body.specs.Stores.{StoreState, StaysInside}
use Rattle.fj_body.specs.Sealing.{HandsPart}
use Rattle.fj_body.proofs.Frames.{releases_stay}
use Rattle.fj_calls.specs.declared.booking.Booking.{Booking}
use Rattle.fj_calls.specs.declared.cutoff.Cutoff.{Cutoff}
use Rattle.fj_calls.specs.Archives.{Archived}
use Rattle.fj_calls.specs.Closes.{Dues}
use Rattle.fj_calls.specs.Cores.{AreParts, IsCore}
use Rattle.fj_core.proofs.Lanes.{same_booked}

-- nothing was sealed
record KeepsSealed (old new : Past) : Type 0 where
  pub sealed : new.sealed ≡ old.sealed
  pub seals : new.seals ≡ old.seals

keeps_parts : (parts : List Sealed) (old new : Past) → KeepsSealed old new → AreParts parts old → AreParts parts new
keeps_parts parts old new keeps are = record { events = are.events ∙ sym keeps.sealed; gone = are.gone ∙ ap gone (sym keeps.sealed); count = are.count ∙ sym keeps.seals }

then_keeps : (a b c : Past) → KeepsSealed a b → KeepsSealed b c → KeepsSealed a c
then_keeps a b c ab bc = record { sealed = bc.sealed ∙ ab.sealed; seals = bc.seals ∙ ab.seals }

grown_keeps : (old new : Past) (es : List Event) → new ≡ grown old es → KeepsSealed old new
grown_keeps old new es is = record { sealed = ap (λ (p : Past). p.sealed) is; seals = ap (λ (p : Past). p.seals) is }

same_sealed : (past : Past) → KeepsSealed past past
same_sealed past = record { sealed = refl; seals = refl }

-- one part more is kept
pub parts_kept : (old ready new : Archived) (part : Sealed) (past : Past) → ready ≡ record old { room = ready.room } → new ≡ record ready { kept = ready.kept ++ part ∷ [] } → AreParts (old.handed ++ old.kept ++ part ∷ []) past
    → AreParts (new.handed ++ new.kept) past
parts_kept old ready new part past reserved pushed are =
    let more : new.handed ++ new.kept ≡ old.handed ++ old.kept ++ part ∷ [] =
    ap (λ (a : Archived). a.handed ++ a.kept) pushed ∙ ap (λ (a : Archived). a.handed ++ (a.kept ++ part ∷ [])) reserved ∙ sym (append_assoc old.handed old.kept (part ∷ [])) in
    subst (λ (ps : List Sealed). AreParts ps past) (sym more) are

-- those that were kept count as handed out
pub parts_handed : (old new : Archived) (past : Past) → new ≡ record { handed = old.handed ++ old.kept; kept = []; room = new.room } → AreParts (old.handed ++ old.kept) past → AreParts (new.handed ++ new.kept) past
parts_handed old new past handed are =
    subst (λ (ps : List Sealed). AreParts ps past) (sym (ap (λ (a : Archived). a.handed ++ a.kept) handed ∙ append-nil (old.handed ++ old.kept))) are

module _ {B K O : Type 0} where
  inside_keeps : (old new : StoreState B K O) → StaysInside old new → KeepsSealed old.past new.past
  inside_keeps old new stays = record { sealed = stays.past.sealed; seals = stays.past.seals }

  pub parts_stay : (parts : List Sealed) (old new : StoreState B K O) → StaysInside old new → AreParts parts old.past → AreParts parts new.past
  parts_stay parts old new stays are = keeps_parts parts old.past new.past (inside_keeps old new stays) are

  dues_keep : (due stopping : Bool) (old new : StoreState B K O) → Dues due stopping old new → KeepsSealed old.past new.past
  dues_keep false stopping old new is = subst (λ s. KeepsSealed old.past s.past) (sym is) (same_sealed old.past)
  dues_keep true stopping old new (inl was) = subst (λ s. KeepsSealed old.past s.past) (sym was.1) (same_sealed old.past)
  dues_keep true stopping old new (inr (free, (true, shuts))) =
      then_keeps old.past shuts.mid.past new.past (grown_keeps old.past shuts.mid.past _ shuts.step.1) (inside_keeps shuts.mid new (releases_stay shuts.mid new shuts.releases))
  dues_keep true stopping old new (inr (free, (false, shuts))) = subst (λ s. KeepsSealed old.past s.past) (sym shuts.1) (same_sealed old.past)

  -- what is due is made
  pub parts_due : (parts : List Sealed) (due stopping : Bool) (old new : StoreState B K O) → Dues due stopping old new → AreParts parts old.past → AreParts parts new.past
  parts_due parts due stopping old new made are = keeps_parts parts old.past new.past (dues_keep due stopping old new made) are

  -- a task was accepted, and what is due is made
  pub parts_taken : (parts : List Sealed) (due stopping : Bool) (old ready mid new : StoreState B K O) (es : List Event) → ready ≡ old → mid.past ≡ grown ready.past es → Dues due stopping mid new
      → AreParts parts old.past → AreParts parts new.past
  parts_taken parts due stopping old ready mid new es same grew made are =
      keeps_parts parts old.past new.past
      (then_keeps old.past mid.past new.past (grown_keeps old.past mid.past es (grew ∙ ap (λ (s : StoreState B K O). grown s.past es) same)) (dues_keep due stopping mid new made)) are

  -- the core after a seal
  pub sealed_core : (old new : StoreState B K O) (lanes : List (DrainState B)) (bookings : List Booking) (closing : Cutoff) (part : Sealed) → HandsPart old part new → IsCore old lanes bookings closing → IsCore new lanes bookings closing
  sealed_core old new lanes bookings closing part hands is =
      subst (λ s. IsCore s lanes bookings closing) (sym hands.others)
      (record { booked = same_booked old.past (sealed_now old.past) lanes bookings (record { pool = refl; pushes = λ s. refl }) is.booked; closes = is.closes })
