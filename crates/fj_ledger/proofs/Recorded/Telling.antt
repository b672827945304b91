-- What a record says of its task still holds after an event that does not touch the task.
use Rattle.std.proofs.Common.{ℕ, ◌≡◌, Bool, true, false, not, List, [], ◌∷◌, ◌++◌, Option, Some, None, refl, ap, ◌∙◌}
use Rattle.std.specs.Prelude.{◌==◌}
use Rattle.std.specs.List.{filter_map, list_any}
use Rattle.std.proofs.lemmas.Bool.{eqb-true, and_parts}
use Rattle.std.proofs.lemmas.List.{append-nil}
use Rattle.std.proofs.lemmas.List.Folds.{list_any-append}
use Rattle.fj_rules.specs.declared.event.Event.{Event}
use Rattle.fj_rules.specs.declared.event.Event.TheVariants.{Acc, Make, Out, Skip, End, Add, Dec, Fire, Pass, Settle, Stop, Rel}
use Rattle.fj_rules.specs.Bounds.{Pool}
use Rattle.fj_rules.specs.Lists.{is_in}
use Rattle.fj_rules.specs.Tasks.{tasks, released, released_by, is_kept, kind}
use Rattle.fj_rules.specs.Queues.{taken_by}
use Rattle.fj_rules.specs.Stacks.{ended_by}
use Rattle.fj_rules.specs.Completers.{pending, added_by, counted_by, fires_or_passes}
use Rattle.fj_rules.specs.Allowed.{Allowed, AllowedFrom, is_stop}
use Rattle.fj_rules.proofs.Events.Growth.{filter_map_more, or_false}
use Rattle.fj_rules.proofs.Events.Lawful.{known_more, number_if_is, not_new}
use Rattle.fj_rules.proofs.Places.OnePlace.{never}
use Rattle.fj_rules.proofs.Places.PlaceLaws.{place_kept}
use Rattle.fj_rules.proofs.Events.Releasing.{released_same}
use Rattle.fj_rules.proofs.Events.Spending.{spends, settled_by, spent_kept, status_kept}
use Rattle.fj_tree.specs.declared.record.Record.{Record}
use Rattle.fj_ledger.specs.Holds.{Tells}
use Rattle.fj_rules.proofs.Events.KindsKept.{kind_still, kept_known}

-- whether the event says something of one task at most, and releases none
abbrev pub is_of_one : Event → Bool
is_of_one Stop = false
is_of_one (Rel t) = false
is_of_one _ = true

pub no_stop : (e : Event) → is_of_one e ≡ true → is_stop e ≡ false
no_stop Stop is = absurd cc
no_stop _ is = refl

pub no_release : (e : Event) → is_of_one e ≡ true → released_by e ≡ None
no_release (Rel t) is = absurd cc
no_release _ is = refl

-- the task of which this event says something that its record says too
abbrev pub touched : Event → Option ℕ
touched (Acc t o k) = Some t
touched (Make t k) = Some t
touched (Out t w) = Some t
touched (Skip t w) = Some t
touched (End t w) = Some t
touched (Add c n) = Some c
touched (Dec c) = Some c
touched (Fire c how) = Some c
touched (Pass c) = Some c
touched (Settle t s) = Some t
touched _ = None

taken_touched : (e : Event) (t : ℕ) → taken_by e ≡ Some t → touched e ≡ Some t
taken_touched (Out u w) t is = is
taken_touched (Skip u w) t is = is
taken_touched _ t is = absurd cc

ended_touched : (w : ℕ) (e : Event) (t : ℕ) → ended_by w e ≡ Some t → touched e ≡ Some t
ended_touched w (End u v) t is = ap Some (number_if_is (w == v) u t is).1
ended_touched w _ t is = absurd cc

pub spends_touched : (e : Event) (t : ℕ) → spends e ≡ Some t → touched e ≡ Some t
spends_touched (Fire c how) t is = is
spends_touched (Pass c) t is = is
spends_touched (Settle c s) t is = is
spends_touched _ t is = absurd cc

settled_touched : (e : Event) (t : ℕ) → settled_by e ≡ Some t → touched e ≡ Some t
settled_touched (Settle c s) t is = is
settled_touched _ t is = absurd cc

fired_touched : (e : Event) (t : ℕ) → fires_or_passes t e ≡ true → touched e ≡ Some t
fired_touched (Fire c how) t is = ap Some (eqb-true c t is)
fired_touched (Pass c) t is = ap Some (eqb-true c t is)
fired_touched _ t is = absurd cc

adds_none : (e : Event) (t : ℕ) → (touched e ≡ Some t → ⊥) → added_by t e ≡ None
adds_none (Add c n) t other = rw (never (c == t) (λ is. other (ap Some (eqb-true c t is)))) refl
adds_none _ t other = refl

counts_none : (e : Event) (t : ℕ) → (touched e ≡ Some t → ⊥) → counted_by t e ≡ None
counts_none (Dec c) t other = rw (never (c == t) (λ is. other (ap Some (eqb-true c t is)))) refl
counts_none _ t other = refl

pub fired_same : (h : List Event) (e : Event) (t : ℕ) → fires_or_passes t e ≡ false → list_any (fires_or_passes t) (h ++ e ∷ []) ≡ list_any (fires_or_passes t) h
fired_same h e t no_fire =
    list_any-append (fires_or_passes t) h (e ∷ []) ∙ rw no_fire (or_false (list_any (fires_or_passes t) h))

-- the pending count of a task is another only where something was added or counted
pub pending_same : (h : List Event) (e : Event) (t : ℕ) → kind (h ++ e ∷ []) t ≡ kind h t → added_by t e ≡ None → counted_by t e ≡ None → pending (h ++ e ∷ []) t ≡ pending h t
unfolding pending
pending_same h e t same added counted =
    let adds : filter_map (added_by t) (h ++ e ∷ []) ≡ filter_map (added_by t) h = filter_map_more (added_by t) h e ∙ rw added (append-nil _) in
    let counts : filter_map (counted_by t) (h ++ e ∷ []) ≡ filter_map (counted_by t) h = filter_map_more (counted_by t) h e ∙ rw counted (append-nil _) in
    rw (same, adds, counts) refl

-- a task that was kept is kept
pub kept_more : (h : List Event) (e : Event) (t : ℕ) → is_of_one e ≡ true → is_kept h t ≡ true → is_kept (h ++ e ∷ []) t ≡ true
unfolding is_kept
kept_more h e t is kept =
    let parts = and_parts (is_in t (tasks h)) (not (is_in t (released h))) kept in
    rw (known_more h e t parts.0, released_same h e (no_release e is)) parts.1

pub tells_same : (pool : Pool) (h : List Event) (e : Event) (r : Record) → AllowedFrom pool [] h → Allowed pool h e → is_of_one e ≡ true
    → (touched e ≡ Some r.serial → ⊥) → Tells h r → Tells (h ++ e ∷ []) r
tells_same pool h e r so may is other tells =
    let t = r.serial in
    let known = kept_known h t tells.kept in
    let unstopped = no_stop e is in
    let kinds = kind_still h e t (not_new pool h e t so may known) in
    let spent = spent_kept h e t unstopped (λ said. other (spends_touched e t said)) in
    record {
      kept = kept_more h e t is tells.kept;
      kind = kinds ∙ tells.kind;
      place = place_kept pool h e t so may known (λ said. other (taken_touched e t said)) (λ w said. other (ended_touched w e t said)) spent ∙ tells.place;
      status = status_kept h e t unstopped (λ said. other (settled_touched e t said)) ∙ tells.status;
      pending = pending_same h e t kinds (adds_none e t other) (counts_none e t other) ∙ tells.pending;
      fired = fired_same h e t (never (fires_or_passes t e) (λ said. other (fired_touched e t said))) ∙ tells.fired;
    }
