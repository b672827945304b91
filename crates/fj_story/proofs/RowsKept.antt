-- What one more event leaves of the rows of tasks of which it says nothing.
use Rattle.std.proofs.Common.{ℕ, ◌≡◌, ◌+◌, true, false, List, [], ◌∷◌, ◌++◌, length, Some, None, refl, ap, ◌∙◌}
use Rattle.std.specs.Prelude.{◌==◌}
use Rattle.std.specs.List.{filter_map}
use Rattle.std.proofs.lemmas.Bool.{eqb-true}
use Rattle.std.proofs.lemmas.List.{append-nil}
use Rattle.fj_rules.specs.declared.event.Event.{Event}
use Rattle.fj_rules.specs.declared.event.Event.TheVariants.{Acc, Out, Skip, End, Add, Dec, Fire, Pass, Settle}
use Rattle.fj_rules.specs.Bounds.{Pool}
use Rattle.fj_rules.specs.Lists.{is_in}
use Rattle.fj_rules.specs.Tasks.{tasks, accepted_by, kind}
use Rattle.fj_rules.specs.Queues.{taken_by}
use Rattle.fj_rules.specs.Stacks.{ended_by}
use Rattle.fj_rules.specs.Statuses.{status}
use Rattle.fj_rules.specs.Completers.{pending, added_by, counted_by}
use Rattle.fj_rules.specs.Places.{owner_by, place}
use Rattle.fj_rules.specs.Allowed.{Allowed, AllowedFrom, is_stop}
use Rattle.fj_rules.proofs.Events.Growth.{filter_map_more}
use Rattle.fj_rules.proofs.Events.Lawful.{not_new, number_if_is}
use Rattle.fj_rules.proofs.Events.KindsKept.{kind_still}
use Rattle.fj_rules.proofs.Events.Spending.{spends, settled_by, spent_kept, status_kept}
use Rattle.fj_rules.proofs.Places.OnePlace.{never}
use Rattle.fj_rules.proofs.Places.PlaceLaws.{place_kept}
use Rattle.fj_story.specs.declared.row.TaskRow.{TaskRow}
use Rattle.fj_story.specs.Rows.{row, moments, home, taker, taker_by, or_plain}
use Rattle.fj_story.specs.Changes.{told_by}
use Rattle.fj_story.proofs.Numbers.{home_same, taker_same, moments_more, moments_other}

-- a row is known by its cells
pub row_is : (h : List Event) (t : ℕ) (r : TaskRow) → or_plain (kind h t) ≡ r.kind → home h t ≡ r.queue → taker h t ≡ r.worker → pending h t ≡ r.pending → place h t ≡ r.place → status h t ≡ r.status → moments h t ≡ r.at
    → row h t ≡ r
unfolding row
row_is h t r kinds homes takers counts places statuses at = rw (kinds, homes, takers, counts, places, statuses, at) refl

-- ---- of what the event says nothing

pub owner_none : (t : ℕ) (e : Event) → (accepted_by e ≡ Some t → ⊥) → owner_by t e ≡ None
owner_none t (Acc u o k) new = rw (never (u == t) (λ is. new (ap Some (eqb-true u t is)))) refl
owner_none t _ new = refl

taker_none : (t : ℕ) (e : Event) → (told_by e ≡ Some t → ⊥) → taker_by t e ≡ None
taker_none t (Out u w) other = rw (never (u == t) (λ is. other (ap Some (eqb-true u t is)))) refl
taker_none t (Skip u w) other = rw (never (u == t) (λ is. other (ap Some (eqb-true u t is)))) refl
taker_none t _ other = refl

adds_none : (t : ℕ) (e : Event) → (told_by e ≡ Some t → ⊥) → added_by t e ≡ None
adds_none t (Add c k) other = rw (never (c == t) (λ is. other (ap Some (eqb-true c t is)))) refl
adds_none t _ other = refl

counts_none : (t : ℕ) (e : Event) → (told_by e ≡ Some t → ⊥) → counted_by t e ≡ None
counts_none t (Dec c) other = rw (never (c == t) (λ is. other (ap Some (eqb-true c t is)))) refl
counts_none t _ other = refl

taken_told : (e : Event) (t : ℕ) → taken_by e ≡ Some t → told_by e ≡ Some t
taken_told (Out u w) t is = is
taken_told (Skip u w) t is = is
taken_told _ t is = absurd cc

ended_told : (w : ℕ) (e : Event) (t : ℕ) → ended_by w e ≡ Some t → told_by e ≡ Some t
ended_told w (End u v) t is = ap Some (number_if_is (w == v) u t is).1
ended_told w _ t is = absurd cc

spends_told : (e : Event) (t : ℕ) → spends e ≡ Some t → told_by e ≡ Some t
spends_told (Fire c how) t is = is
spends_told (Pass c) t is = is
spends_told (Settle c s) t is = is
spends_told _ t is = absurd cc

settled_told : (e : Event) (t : ℕ) → settled_by e ≡ Some t → told_by e ≡ Some t
settled_told (Settle c s) t is = is
settled_told _ t is = absurd cc

-- the pending count is another only where something was added or counted
pub pending_same : (h : List Event) (e : Event) (t : ℕ) → kind (h ++ e ∷ []) t ≡ kind h t → added_by t e ≡ None → counted_by t e ≡ None → pending (h ++ e ∷ []) t ≡ pending h t
unfolding pending
pending_same h e t same added counted =
    let adds : filter_map (added_by t) (h ++ e ∷ []) ≡ filter_map (added_by t) h = filter_map_more (added_by t) h e ∙ rw added (append-nil _) in
    let counts : filter_map (counted_by t) (h ++ e ∷ []) ≡ filter_map (counted_by t) h = filter_map_more (counted_by t) h e ∙ rw counted (append-nil _) in
    rw (same, adds, counts) refl

-- the row of an accepted task stays, where the event is of another one and no stop
pub row_same : (pool : Pool) (h : List Event) (e : Event) (t : ℕ) → AllowedFrom pool [] h → Allowed pool h e → is_in t (tasks h) ≡ true → (told_by e ≡ Some t → ⊥) → is_stop e ≡ false
    → row (h ++ e ∷ []) t ≡ row h t
unfolding row
row_same pool h e t so may known other unstopped =
    let new = not_new pool h e t so may known in
    let kinds = kind_still h e t new in
    let spent = spent_kept h e t unstopped (λ said. other (spends_told e t said)) in
    row_is (h ++ e ∷ []) t (row h t)
    (ap or_plain kinds)
    (home_same h e t (owner_none t e new))
    (taker_same h e t (taker_none t e other))
    (pending_same h e t kinds (adds_none t e other) (counts_none t e other))
    (place_kept pool h e t so may known (λ said. other (taken_told e t said)) (λ w said. other (ended_told w e t said)) spent)
    (status_kept h e t unstopped (λ said. other (settled_told e t said)))
    (moments_more h e t ∙ moments_other (moments h t) e t (length h + 1) new other)
