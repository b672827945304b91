-- What one more event changes of the row of its task.
use Rattle.std.proofs.Common.{ℕ, ◌≡◌, ◌+◌, true, not, ◌||◌, List, [], ◌∷◌, ◌++◌, length, Option, Some, None, refl, ap, sym, ◌∙◌, subst}
use Rattle.std.specs.Prelude.{if◌then◌else◌}
use Rattle.std.proofs.lemmas.Bool.{eq-eqb}
use Rattle.fj_rules.specs.declared.event.Event.{Event}
use Rattle.fj_rules.specs.declared.event.Event.TheVariants.{Acc, Make, Out, Skip, End, Add, Dec, Fire, Pass, Hooked, Settle, Stop, Rel}
use Rattle.fj_rules.specs.declared.event.How.{How}
use Rattle.fj_rules.specs.declared.kind.Kind.{Kind}
use Rattle.fj_rules.specs.declared.owner.Owner.{Owner}
use Rattle.fj_rules.specs.declared.place.Place.TheVariants.{Open, Gone}
use Rattle.fj_rules.specs.declared.status.Status.{Status}
use Rattle.fj_rules.specs.Bounds.{Pool}
use Rattle.fj_rules.specs.Lists.{is_in}
use Rattle.fj_rules.specs.Tasks.{tasks, accepted_by, kind, is_completer, is_completer_kind}
use Rattle.fj_rules.specs.Statuses.{status, is_undone}
use Rattle.fj_rules.specs.Completers.{pending, added_by, counted_by, is_spent}
use Rattle.fj_rules.specs.Places.{owner_by, place}
use Rattle.fj_rules.specs.Climbs.{ClimbsCompleters}
use Rattle.fj_rules.specs.Follows.{NamesCompleter}
use Rattle.fj_rules.specs.Allowed.{Allowed, AllowedFrom}
use Rattle.fj_rules.proofs.Events.Calm.{calm_place, calm_status}
use Rattle.fj_rules.proofs.Events.Ends.{status_settle}
use Rattle.fj_rules.proofs.Events.KindsKept.{kind_same, kept_known, completer_known}
use Rattle.fj_rules.proofs.Events.Lawful.{is_new}
use Rattle.fj_rules.proofs.Events.NewTasks.{new_kind, new_count, new_undone, submitted_place, made_place}
use Rattle.fj_rules.proofs.Events.Opening.{opens, ended_place, ended_accepted}
use Rattle.fj_rules.proofs.Events.Pending.{pending_added, pending_counted}
use Rattle.fj_rules.proofs.Events.Spending.{moved_status, status_kept, spent_place}
use Rattle.fj_rules.proofs.Events.Stopping.{stop_cancels, stop_pending, stop_place}
use Rattle.fj_rules.proofs.Events.Taking.{handed_place, skipped_place, taken_accepted}
use Rattle.fj_rules.proofs.Completers.Climbed.{hand_climbed}
use Rattle.fj_rules.proofs.Completers.Unfired.{climbs_unfired}
use Rattle.fj_rules.proofs.Completers.Unknown.{unknown_unspent}
use Rattle.fj_story.specs.Rows.{row, moments, taker, or_plain}
use Rattle.fj_story.specs.Changes.{changed, first_row, is_row_spent, place_behind, stopped, told_by}
use Rattle.fj_story.proofs.Numbers.{fires_told, home_more, home_same, taker_more, taker_same, moments_more}
use Rattle.fj_story.proofs.Unsaid.{unsaid_home, unsaid_moments, unsaid_taker}
use Rattle.fj_story.proofs.RowsKept.{row_is, pending_same}

-- ---- an event of one task that accepts none

-- the cells that such an event leaves are given, the others are shown
changed_row : (h : List Event) (e : Event) (t : ℕ) → accepted_by e ≡ None → owner_by t e ≡ None → taker (h ++ e ∷ []) t ≡ (changed (row h t) e (length h + 1)).worker
    → pending (h ++ e ∷ []) t ≡ (changed (row h t) e (length h + 1)).pending → place (h ++ e ∷ []) t ≡ (changed (row h t) e (length h + 1)).place
    → status (h ++ e ∷ []) t ≡ (changed (row h t) e (length h + 1)).status → moments (h ++ e ∷ []) t ≡ (changed (row h t) e (length h + 1)).at
    → (changed (row h t) e (length h + 1)).kind ≡ (row h t).kind → (changed (row h t) e (length h + 1)).queue ≡ (row h t).queue
    → row (h ++ e ∷ []) t ≡ changed (row h t) e (length h + 1)
unfolding row
changed_row h e t none unowned takers counts places statuses at kinds homes =
    row_is (h ++ e ∷ []) t (changed (row h t) e (length h + 1))
    (ap or_plain (kind_same h e t none) ∙ sym kinds) (home_same h e t unowned ∙ sym homes) takers counts places statuses at

pending_kept : (h : List Event) (e : Event) (t : ℕ) → accepted_by e ≡ None → added_by t e ≡ None → counted_by t e ≡ None → pending (h ++ e ∷ []) t ≡ pending h t
pending_kept h e t none adds counts = pending_same h e t (kind_same h e t none) adds counts

-- ---- handed out, or skipped

handed_row : (pool : Pool) (h : List Event) (t w : ℕ) → AllowedFrom pool [] h → Allowed pool h (Out t w) → row (h ++ Out t w ∷ []) t ≡ changed (row h t) (Out t w) (length h + 1)
unfolding row
handed_row pool h t w so may =
    let e = Out t w in
    changed_row h e t refl refl (taker_more h e t ∙ rw (eq-eqb t t refl) refl) (pending_kept h e t refl refl refl) (handed_place pool h t w so may) (moved_status h e t refl)
    (moments_more h e t ∙ rw (eq-eqb t t refl) refl) refl refl

skipped_row : (pool : Pool) (h : List Event) (t w : ℕ) → AllowedFrom pool [] h → Allowed pool h (Skip t w) → row (h ++ Skip t w ∷ []) t ≡ changed (row h t) (Skip t w) (length h + 1)
unfolding row
skipped_row pool h t w so may =
    let e = Skip t w in
    changed_row h e t refl refl (taker_more h e t ∙ rw (eq-eqb t t refl) refl) (pending_kept h e t refl refl refl) (skipped_place pool h t w so may) (moved_status h e t refl)
    (moments_more h e t ∙ rw (eq-eqb t t refl) refl) refl refl

-- ---- the end of a body

plain_or : (k : Option Kind) → is_completer_kind k ≡ is_completer_kind (Some (or_plain k))
plain_or (Some k) = refl
plain_or None = refl

-- whether it was fired, passed or done is in the row
spent_told : (h : List Event) (t : ℕ) → is_spent h t ≡ is_row_spent (row h t)
unfolding is_spent row moments
spent_told h t = ap (λ b. b || not (is_undone (status h t))) (fires_told h t)

opens_told : (h : List Event) (t : ℕ) → (if opens h t then Open else Gone) ≡ place_behind (row h t)
unfolding is_completer row
opens_told h t = rw (spent_told h t, plain_or (kind h t)) refl

ended_row : (pool : Pool) (h : List Event) (t w : ℕ) → AllowedFrom pool [] h → Allowed pool h (End t w) → row (h ++ End t w ∷ []) t ≡ changed (row h t) (End t w) (length h + 1)
unfolding row
ended_row pool h t w so may =
    let e = End t w in
    changed_row h e t refl refl (taker_same h e t refl) (pending_kept h e t refl refl refl) (ended_place pool h t w so may ∙ opens_told h t) (moved_status h e t refl)
    (moments_more h e t ∙ rw (eq-eqb t t refl) refl) refl refl

-- ---- counts

added_row : (pool : Pool) (h : List Event) (c k : ℕ) → AllowedFrom pool [] h → Allowed pool h (Add c k) → row (h ++ Add c k ∷ []) c ≡ changed (row h c) (Add c k) (length h + 1)
unfolding row
added_row pool h c k so may =
    let e = Add c k in
    changed_row h e c refl refl (taker_same h e c refl) (pending_added pool h c k so) (calm_place pool h e c so may refl (kept_known h c may.0)) (calm_status h e c refl) (moments_more h e c) refl refl

counted_row : (pool : Pool) (h : List Event) (c : ℕ) → AllowedFrom pool [] h → Allowed pool h (Dec c) → is_completer h c ≡ true → row (h ++ Dec c ∷ []) c ≡ changed (row h c) (Dec c) (length h + 1)
unfolding row
counted_row pool h c so may completer =
    let e = Dec c in
    changed_row h e c refl refl (taker_same h e c refl) (pending_counted h c) (calm_place pool h e c so may refl (completer_known h c completer)) (calm_status h e c refl) (moments_more h e c) refl refl

-- ---- fired, passed, its action ended

fired_row : (pool : Pool) (h : List Event) (c : ℕ) (how : How) → AllowedFrom pool [] h → Allowed pool h (Fire c how) → is_completer h c ≡ true
    → row (h ++ Fire c how ∷ []) c ≡ changed (row h c) (Fire c how) (length h + 1)
unfolding row
fired_row pool h c how so may completer =
    let e = Fire c how in
    changed_row h e c refl refl (taker_same h e c refl) (pending_kept h e c refl refl refl) (spent_place pool h e c so may refl (completer_known h c completer)) (status_kept h e c refl (λ said. absurd cc))
    (moments_more h e c ∙ rw (eq-eqb c c refl) refl) refl refl

passed_row : (pool : Pool) (h : List Event) (c : ℕ) → AllowedFrom pool [] h → Allowed pool h (Pass c) → is_completer h c ≡ true → row (h ++ Pass c ∷ []) c ≡ changed (row h c) (Pass c) (length h + 1)
unfolding row
passed_row pool h c so may completer =
    let e = Pass c in
    changed_row h e c refl refl (taker_same h e c refl) (pending_kept h e c refl refl refl) (spent_place pool h e c so may refl (completer_known h c completer)) (status_kept h e c refl (λ said. absurd cc))
    (moments_more h e c ∙ rw (eq-eqb c c refl) refl) refl refl

hooked_row : (pool : Pool) (h : List Event) (c : ℕ) → AllowedFrom pool [] h → Allowed pool h (Hooked c) → is_in c (tasks h) ≡ true → row (h ++ Hooked c ∷ []) c ≡ changed (row h c) (Hooked c) (length h + 1)
unfolding row
hooked_row pool h c so may known =
    let e = Hooked c in
    changed_row h e c refl refl (taker_same h e c refl) (pending_kept h e c refl refl refl) (calm_place pool h e c so may refl known) (calm_status h e c refl)
    (moments_more h e c ∙ rw (eq-eqb c c refl) refl) refl refl

-- ---- settled, released

settled_row : (pool : Pool) (h : List Event) (t : ℕ) (s : Status) → AllowedFrom pool [] h → Allowed pool h (Settle t s) → row (h ++ Settle t s ∷ []) t ≡ changed (row h t) (Settle t s) (length h + 1)
unfolding row
settled_row pool h t s so may =
    let e = Settle t s in
    changed_row h e t refl refl (taker_same h e t refl) (pending_kept h e t refl refl refl) (spent_place pool h e t so may refl may.0) (status_settle pool h t s so may.1) (moments_more h e t) refl refl

released_row : (pool : Pool) (h : List Event) (t : ℕ) → AllowedFrom pool [] h → Allowed pool h (Rel t) → row (h ++ Rel t ∷ []) t ≡ changed (row h t) (Rel t) (length h + 1)
unfolding row
released_row pool h t so may =
    let e = Rel t in
    changed_row h e t refl refl (taker_same h e t refl) (pending_kept h e t refl refl refl) (calm_place pool h e t so may refl (kept_known h t may.0)) (calm_status h e t refl)
    (moments_more h e t ∙ rw (eq-eqb t t refl) refl) refl refl

-- ---- all of these

-- the task of which the event says something was accepted
pub told_known : (pool : Pool) (h : List Event) (e : Event) (t : ℕ) → AllowedFrom pool [] h → ClimbsCompleters h → Allowed pool h e → NamesCompleter h e → told_by e ≡ Some t → is_in t (tasks h) ≡ true
told_known pool h e t so climbs may names is = go e may names is
  where
    same : (u : ℕ) → Some u ≡ Some t → is_in u (tasks h) ≡ true → is_in t (tasks h) ≡ true
    same u is known = let one : u ≡ t = cc in subst (λ v. is_in v (tasks h) ≡ true) one known

    go : (e : Event) → Allowed pool h e → NamesCompleter h e → told_by e ≡ Some t → is_in t (tasks h) ≡ true
    go (Out u w) may names is = taken_accepted pool h (Out u w) t may is
    go (Skip u w) may names is = taken_accepted pool h (Skip u w) t may is
    go (End u w) may names is = same u is (ended_accepted pool h u w so may)
    go (Add c k) may names is = same c is (kept_known h c may.0)
    go (Dec c) may names is = same c is (completer_known h c names)
    go (Fire c how) may names is = same c is (completer_known h c names)
    go (Pass c) may names is = same c is (completer_known h c names)
    go (Hooked c) may names is = same c is (completer_known h c (climbs c (hand_climbed pool h may.0 c so may.1)))
    go (Settle u s) may names is = same u is may.0
    go (Rel u) may names is = same u is (kept_known h u may.0)
    go _ may names is = absurd cc

pub told_row : (pool : Pool) (h : List Event) (e : Event) (t : ℕ) → AllowedFrom pool [] h → ClimbsCompleters h → Allowed pool h e → NamesCompleter h e → told_by e ≡ Some t
    → row (h ++ e ∷ []) t ≡ changed (row h t) e (length h + 1)
told_row pool h e t so climbs may names is = go e may names is
  where
    moved : (e : Event) (u : ℕ) → Some u ≡ Some t → row (h ++ e ∷ []) u ≡ changed (row h u) e (length h + 1) → row (h ++ e ∷ []) t ≡ changed (row h t) e (length h + 1)
    moved e u is told = let one : u ≡ t = cc in subst (λ v. row (h ++ e ∷ []) v ≡ changed (row h v) e (length h + 1)) one told

    go : (e : Event) → Allowed pool h e → NamesCompleter h e → told_by e ≡ Some t → row (h ++ e ∷ []) t ≡ changed (row h t) e (length h + 1)
    go (Out u w) may names is = moved (Out u w) u is (handed_row pool h u w so may)
    go (Skip u w) may names is = moved (Skip u w) u is (skipped_row pool h u w so may)
    go (End u w) may names is = moved (End u w) u is (ended_row pool h u w so may)
    go (Add u k) may names is = moved (Add u k) u is (added_row pool h u k so may)
    go (Dec u) may names is = moved (Dec u) u is (counted_row pool h u so may names)
    go (Fire u how) may names is = moved (Fire u how) u is (fired_row pool h u how so may names)
    go (Pass u) may names is = moved (Pass u) u is (passed_row pool h u so may names)
    go (Hooked u) may names is = moved (Hooked u) u is (hooked_row pool h u so may (told_known pool h (Hooked u) u so climbs may names refl))
    go (Settle u s) may names is = moved (Settle u s) u is (settled_row pool h u s so may)
    go (Rel u) may names is = moved (Rel u) u is (released_row pool h u so may)
    go _ may names is = absurd cc

-- ---- a new task

pub submitted_row : (pool : Pool) (h : List Event) (t : ℕ) (o : Owner) (k : Kind) → AllowedFrom pool [] h → ClimbsCompleters h → Allowed pool h (Acc t o k) → row (h ++ Acc t o k ∷ []) t ≡ first_row k (Some o) (length h + 1)
submitted_row pool h t o k so climbs may =
    let e = Acc t o k in
    let absent = is_new pool h e t so may refl in
    row_is (h ++ e ∷ []) t (first_row k (Some o) (length h + 1))
    (ap or_plain (new_kind pool h e t k so may refl refl))
    (home_more h e t ∙ rw (unsaid_home h t absent, eq-eqb t t refl) refl)
    (taker_same h e t refl ∙ unsaid_taker pool h t so absent)
    (new_count pool h e t k so may refl refl)
    (submitted_place pool h t o k so may)
    (new_undone pool h e t so may refl)
    (moments_more h e t ∙ rw (eq-eqb t t refl, unsaid_moments pool h t so climbs absent) refl)

pub made_row : (pool : Pool) (h : List Event) (t : ℕ) (k : Kind) → AllowedFrom pool [] h → ClimbsCompleters h → Allowed pool h (Make t k) → row (h ++ Make t k ∷ []) t ≡ first_row k None (length h + 1)
made_row pool h t k so climbs may =
    let e = Make t k in
    let absent = is_new pool h e t so may refl in
    row_is (h ++ e ∷ []) t (first_row k None (length h + 1))
    (ap or_plain (new_kind pool h e t k so may refl refl))
    (home_same h e t refl ∙ unsaid_home h t absent)
    (taker_same h e t refl ∙ unsaid_taker pool h t so absent)
    (new_count pool h e t k so may refl refl)
    (made_place pool h t k so may (unknown_unspent pool h t so (climbs_unfired h climbs) absent))
    (new_undone pool h e t so may refl)
    (moments_more h e t ∙ rw (eq-eqb t t refl, unsaid_moments pool h t so climbs absent) refl)

-- ---- a stop

pub stopped_row : (pool : Pool) (h : List Event) (t : ℕ) → AllowedFrom pool [] h → Allowed pool h Stop → is_in t (tasks h) ≡ true → row (h ++ Stop ∷ []) t ≡ stopped (row h t)
unfolding row
stopped_row pool h t so may known =
    row_is (h ++ Stop ∷ []) t (stopped (row h t)) (ap or_plain (kind_same h Stop t refl)) (home_same h Stop t refl) (taker_same h Stop t refl) (stop_pending h t) (stop_place pool h t so may known)
    (stop_cancels pool h t so known) (moments_more h Stop t)
