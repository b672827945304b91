-- An arrival at a completer whose body has just ended.
use Rattle.std.proofs.Common.{ℕ, ◌≡◌, Bool, true, false, not, List, [], ◌∷◌, ◌++◌, refl, ◌∙◌}
use Rattle.std.specs.Prelude.{if◌then◌else◌, nat_lt}
use Rattle.fj_rules.specs.declared.event.Event.{Event}
use Rattle.fj_rules.specs.declared.event.Event.TheVariants as event
use Rattle.fj_rules.specs.declared.place.Place.TheVariants.{Open, Gone}
use Rattle.fj_rules.specs.Bounds.{Pool}
use Rattle.fj_rules.specs.Tasks.{is_completer}
use Rattle.fj_rules.specs.Completers.{is_spent, pending}
use Rattle.fj_rules.specs.Places.{is_open}
use Rattle.fj_rules.specs.Climbs.{Spent, Counted, Early, Fires, arrival}
use Rattle.fj_rules.specs.Allowed.{Allowed, AllowedFrom}
use Rattle.fj_rules.proofs.Completers.ArrivalPlaces.{arrival_at}
use Rattle.fj_rules.proofs.Completers.Arrivals.{pending_untouched}
use Rattle.fj_rules.proofs.Events.KindsKept.{completer_same}
use Rattle.fj_rules.proofs.Events.Lawful.{allowed_more}
use Rattle.fj_rules.proofs.Events.Opening.{ended_place}
use Rattle.fj_rules.proofs.Events.Spending.{moved_spent}

-- it is not too early
pub ended_arrival : (pool : Pool) (h : List Event) (w t : ℕ) → AllowedFrom pool [] h → Allowed pool h (event.End t w) → is_completer h t ≡ true
    → arrival (h ++ event.End t w ∷ []) t ≡ (if is_spent h t then Spent else if nat_lt 0 (pending h t) then Counted else Fires)
ended_arrival pool h w t so may completer =
    arrival_at pool (h ++ e ∷ []) t (allowed_more pool [] h e so may) (completer_same h e t refl ∙ completer)
    ∙ rw (moved_spent h e t refl, pending_untouched h e t refl refl, ended_place pool h t w so may, completer) (go (is_spent h t) (nat_lt 0 (pending h t)))
  where
    e : Event
    e = event.End t w

    go : (s p : Bool) → (if s then Spent else if p then Counted else if is_open (if not s then Open else Gone) then Fires else Early) ≡ (if s then Spent else if p then Counted else Fires)
    go true p = refl
    go false true = refl
    go false false = refl
