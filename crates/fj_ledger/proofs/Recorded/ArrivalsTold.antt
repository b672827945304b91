-- What the record of a task tells of an arrival at it.
use Rattle.std.proofs.Common.{ℕ, ◌≡◌, Bool, true, false, not, List, [], Option, Some, None, refl, sym, ◌∙◌}
use Rattle.std.specs.Prelude.{◌||◌, ◌&&◌, nat_lt, if◌then◌else◌, is_some}
use Rattle.std.proofs.lemmas.Bool.{not-true, not-false}
use Rattle.fj_rules.specs.declared.event.Event.{Event}
use Rattle.fj_rules.specs.declared.owner.Owner.{Owner}
use Rattle.fj_rules.specs.Lists.{is_in}
use Rattle.fj_rules.specs.Bounds.{Pool}
use Rattle.fj_rules.specs.Allowed.{AllowedFrom}
use Rattle.fj_rules.specs.Tasks.{tasks, released, is_kept, is_completer}
use Rattle.fj_rules.specs.Completers.{is_spent, pending}
use Rattle.fj_rules.specs.Places.{place, place_of, queued_in, held_by, opened}
use Rattle.fj_rules.specs.Climbs.{Arrival, Spent, Counted, Early, Fires, arrival}
use Rattle.fj_rules.proofs.Places.KeptPlaces.{released_arrival}
use Rattle.fj_rules.proofs.Events.KindsKept.{completer_known}
use Rattle.fj_rules.proofs.Places.OnePlace.{never}
use Rattle.fj_tree.specs.declared.record.Record.{Record}
use Rattle.fj_tree.specs.declared.arrive.Arrived.TheVariants as arrive
use Rattle.fj_tree.specs.Arrivals.{arrival_at, is_queued_or_held}
use Rattle.fj_tree.specs.Arrivals as record_is
use Rattle.fj_ledger.specs.Arriving.{as_arrival}
use Rattle.fj_ledger.specs.Holds.{Tells}

-- it is too early where the task is in a queue or on a stack
arrival_by_place : (h : List Event) (c : ℕ)
    → arrival h c ≡ (if is_spent h c then Spent else if nat_lt 0 (pending h c) then Counted else if is_queued_or_held (place h c) then Early else Fires)
unfolding arrival place
arrival_by_place h c = go (is_spent h c) (nat_lt 0 (pending h c)) (queued_in h c) (held_by h c) (is_completer h c && is_in c (opened h) && not (is_spent h c))
  where
    go : (s p : Bool) (q : Option Owner) (v : Option ℕ) (o : Bool)
        → (if s then Spent else if p then Counted else if is_some q || is_some v then Early else Fires)
        ≡ (if s then Spent else if p then Counted else if is_queued_or_held (place_of q v o) then Early else Fires)
    go true p q v o = refl
    go false true q v o = refl
    go false false (Some r) v o = refl
    go false false None (Some w) o = refl
    go false false None None true = refl
    go false false None None false = refl

-- a completer that is not kept was released, so it is spent
pub released_told : (pool : Pool) (h : List Event) (c : ℕ) → AllowedFrom pool [] h → is_completer h c ≡ true → is_kept h c ≡ false → Spent ≡ arrival h c
unfolding is_kept
released_told pool h c so completer none = sym (released_arrival pool h c so completer (not-false (is_in c (released h)) (and_false (is_in c (tasks h)) (not (is_in c (released h))) (completer_known h c completer) none)))
  where
    and_false : (a b : Bool) → a ≡ true → (a && b) ≡ false → b ≡ false
    and_false a b is none = rw is at none

-- so one at which an arrival changes anything is kept
pub arrived_kept : (pool : Pool) (h : List Event) (c : ℕ) (a : Arrival) → AllowedFrom pool [] h → is_completer h c ≡ true → arrival h c ≡ a → (Spent ≡ a → ⊥) → is_kept h c ≡ true
arrived_kept pool h c a so completer is other = not-false (is_kept h c) (never (not (is_kept h c)) (λ none. other (released_told pool h c so completer (not-true (is_kept h c) none) ∙ is)))

pub spent_told : (h : List Event) (r : Record) → Tells h r → is_spent h r.serial ≡ record_is.is_spent r
unfolding is_spent
spent_told h r tells = rw (tells.fired, tells.status) refl

pub arrival_told : (h : List Event) (r : Record) → Tells h r → as_arrival (arrival_at r) ≡ arrival h r.serial
arrival_told h r tells =
    rw (arrival_by_place h r.serial, spent_told h r tells, tells.pending, tells.place) (go (record_is.is_spent r) (nat_lt 0 r.pending) (is_queued_or_held r.place))
  where
    go : (s p q : Bool) → as_arrival (if s then arrive.Spent else if p then arrive.Counted else if q then arrive.Early else arrive.Fire)
        ≡ (if s then Spent else if p then Counted else if q then Early else Fires)
    go true p q = refl
    go false true q = refl
    go false false true = refl
    go false false false = refl
