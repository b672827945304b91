-- What a history says of a number that it has not accepted: nothing.
use Rattle.std.proofs.Common.{ℕ, ◌≡◌, ◌+◌, true, false, List, [], ◌∷◌, ◌++◌, Option, Some, None, refl, ap, sym, ◌∙◌, ⊎_elim}
use Rattle.std.specs.Prelude.{◌==◌}
use Rattle.std.specs.List.{filter_map, cons_option}
use Rattle.std.proofs.lemmas.Bool.{or_parts, true≢false}
use Rattle.fj_rules.specs.declared.event.Event.{Event}
use Rattle.fj_rules.specs.declared.event.Event.TheVariants.{Acc, Make, Out, Skip, End, Fire, Pass, Hooked}
use Rattle.fj_rules.specs.Bounds.{Pool}
use Rattle.fj_rules.specs.Lists.{is_in, or_else, first_said, number_if}
use Rattle.fj_rules.specs.Tasks.{tasks, accepted_by, released, released_by}
use Rattle.fj_rules.specs.Queues.{taken, taken_by}
use Rattle.fj_rules.specs.Places.{owner_by, opened, opened_by}
use Rattle.fj_rules.specs.Climbs.{ClimbsCompleters, climbed, climbed_by}
use Rattle.fj_rules.specs.Allowed.{Allowed, AllowedFrom}
use Rattle.fj_rules.proofs.Lists.Members.{is_in_append}
use Rattle.fj_rules.proofs.Events.Growth.{filter_map_more}
use Rattle.fj_rules.proofs.Events.Lawful.{by_events, is_in_with, filter_map_within, taken_known}
use Rattle.fj_rules.proofs.Events.KindsKept.{completer_known}
use Rattle.fj_rules.proofs.Events.Releasing.{released_known}
use Rattle.fj_rules.proofs.Completers.Climbed.{climbed_more, hand_climbed}
use Rattle.fj_rules.proofs.Places.OnePlace.{never, opened_out}
use Rattle.fj_story.specs.Rows.{is_number, moment_from, moment, moments, body_ended_by, fired_by, passed_by, hooked_by, home, taker, taker_by, last_said}
use Rattle.fj_story.specs.Changes.{accepted_at}

-- ---- of what no event says there is no number

unsaid_or : (t n : ℕ) (said : Option ℕ) (ts : List ℕ) (x : Option ℕ) → (is_in t ts ≡ false → x ≡ None) → is_in t (cons_option said ts) ≡ false → or_else x (number_if (is_number said t) n) ≡ None
unsaid_or t n None ts x none absent = rw (none absent) refl
unsaid_or t n (Some u) ts x none absent = let parts = or_parts (u == t) (is_in t ts) absent in rw (parts.0, none parts.1) refl

unsaid_from : (says : Event → Option ℕ) (before : ℕ) (h : List Event) (t : ℕ) → is_in t (filter_map says h) ≡ false → moment_from says before h t ≡ None
unfolding moment_from
unsaid_from says before [] t absent = refl
unsaid_from says before (e ∷ later) t absent =
    unsaid_or t (before + 1) (says e) (filter_map says later) (moment_from says (before + 1) later t) (unsaid_from says (before + 1) later t) absent

unsaid : (says : Event → Option ℕ) (h : List Event) (t : ℕ) → is_in t (filter_map says h) ≡ false → moment says h t ≡ None
unfolding moment
unsaid says h t absent = unsaid_from says 0 h t absent

-- ---- what is said of a task is said of one that was accepted

-- where what is said of t says that it was accepted
unless_known : (h : List Event) (t : ℕ) (ts : List ℕ) → is_in t (tasks h) ≡ false → (is_in t ts ≡ true → is_in t (tasks h) ≡ true) → is_in t ts ≡ false
unless_known h t ts absent known = never (is_in t ts) (λ there. true≢false (sym (known there) ∙ absent))

takes_unknown : (pool : Pool) (h : List Event) (t : ℕ) → AllowedFrom pool [] h → is_in t (tasks h) ≡ false → is_in t (filter_map taken_by h) ≡ false
unfolding taken
takes_unknown pool h t so absent = unless_known h t (filter_map taken_by h) absent (taken_known pool h so t)

accepts_unknown : (h : List Event) (t : ℕ) → is_in t (tasks h) ≡ false → is_in t (filter_map accepted_by h) ≡ false
unfolding tasks
accepts_unknown h t absent = absent

ends_open : (e : Event) (t : ℕ) → body_ended_by e ≡ Some t → opened_by e ≡ Some t
ends_open (End u w) t is = is
ends_open _ t is = absurd cc

ends_unknown : (pool : Pool) (h : List Event) (t : ℕ) → AllowedFrom pool [] h → is_in t (tasks h) ≡ false → is_in t (filter_map body_ended_by h) ≡ false
unfolding opened
ends_unknown pool h t so absent =
    unless_known h t (filter_map body_ended_by h) absent (λ there. (opened_out pool h so t (filter_map_within body_ended_by opened_by ends_open t h there)).known)

fires_climb : (e : Event) (c : ℕ) → fired_by e ≡ Some c → climbed_by e ≡ Some c
fires_climb (Fire d how) c is = is
fires_climb _ c is = absurd cc

passes_climb : (e : Event) (c : ℕ) → passed_by e ≡ Some c → climbed_by e ≡ Some c
passes_climb (Pass d) c is = is
passes_climb _ c is = absurd cc

climbs_unknown : (h : List Event) (says : Event → Option ℕ) (t : ℕ) → ((e : Event) (c : ℕ) → says e ≡ Some c → climbed_by e ≡ Some c) → ClimbsCompleters h → is_in t (tasks h) ≡ false
    → is_in t (filter_map says h) ≡ false
unfolding climbed
climbs_unknown h says t wider climbs absent =
    unless_known h t (filter_map says h) absent (λ there. completer_known h t (climbs t (filter_map_within says climbed_by wider t h there)))

abbrev AreClimbed : List Event → Type 0
AreClimbed h = (c : ℕ) → is_in c (filter_map hooked_by h) ≡ true → is_in c (climbed h) ≡ true

hooked_climbed : (pool : Pool) (h : List Event) (e : Event) (c : ℕ) → AllowedFrom pool [] h → Allowed pool h e → hooked_by e ≡ Some c → is_in c (climbed h) ≡ true
hooked_climbed pool h (Hooked d) c so may is = let same : d ≡ c = cc in ap (λ u. is_in u (climbed h)) (sym same) ∙ hand_climbed pool h may.0 d so may.1
hooked_climbed pool h _ c so may is = absurd cc

climbed_still : (h : List Event) (e : Event) (c : ℕ) → is_in c (climbed h) ≡ true → is_in c (climbed (h ++ e ∷ [])) ≡ true
climbed_still h e c there = rw (climbed_more, is_in_append c (climbed h) (cons_option (climbed_by e) []), there) refl

are_climbed_more : (pool : Pool) (h : List Event) (e : Event) → AllowedFrom pool [] h → AreClimbed h → Allowed pool h e → AreClimbed (h ++ e ∷ [])
are_climbed_more pool h e so are may c there =
    climbed_still h e c (⊎_elim (are c) (hooked_climbed pool h e c so may) (is_in_with c (filter_map hooked_by h) (hooked_by e) (rw (filter_map_more hooked_by h e) at there)))

are_climbed : (pool : Pool) (h : List Event) → AllowedFrom pool [] h → AreClimbed h
are_climbed pool = by_events pool AreClimbed (λ c there. absurd cc) (are_climbed_more pool)

hooks_unknown : (pool : Pool) (h : List Event) (t : ℕ) → AllowedFrom pool [] h → ClimbsCompleters h → is_in t (tasks h) ≡ false → is_in t (filter_map hooked_by h) ≡ false
hooks_unknown pool h t so climbs absent =
    unless_known h t (filter_map hooked_by h) absent (λ there. completer_known h t (climbs t (are_climbed pool h so t there)))

releases_unknown : (pool : Pool) (h : List Event) (t : ℕ) → AllowedFrom pool [] h → is_in t (tasks h) ≡ false → is_in t (filter_map released_by h) ≡ false
unfolding released
releases_unknown pool h t so absent = unless_known h t (filter_map released_by h) absent (released_known pool h so t)

-- ---- so nothing is said of the number

pub unsaid_moments : (pool : Pool) (h : List Event) (t : ℕ) → AllowedFrom pool [] h → ClimbsCompleters h → is_in t (tasks h) ≡ false → moments h t ≡ accepted_at None
unfolding moments
unsaid_moments pool h t so climbs absent =
    rw (
      unsaid accepted_by h t (accepts_unknown h t absent),
      unsaid taken_by h t (takes_unknown pool h t so absent),
      unsaid body_ended_by h t (ends_unknown pool h t so absent),
      unsaid fired_by h t (climbs_unknown h fired_by t fires_climb climbs absent),
      unsaid passed_by h t (climbs_unknown h passed_by t passes_climb climbs absent),
      unsaid hooked_by h t (hooks_unknown pool h t so climbs absent),
      unsaid released_by h t (releases_unknown pool h t so absent),
    ) refl

unowned : (h : List Event) (t : ℕ) → is_in t (filter_map accepted_by h) ≡ false → first_said (owner_by t) h ≡ None
unowned [] t absent = refl
unowned (Acc u o k ∷ later) t absent = let parts = or_parts (u == t) (is_in t (filter_map accepted_by later)) absent in rw (parts.0) (unowned later t parts.1)
unowned (Make u k ∷ later) t absent = unowned later t (or_parts (u == t) (is_in t (filter_map accepted_by later)) absent).1
unowned (e ∷ later) t absent = unowned later t absent

pub unsaid_home : (h : List Event) (t : ℕ) → is_in t (tasks h) ≡ false → home h t ≡ None
unfolding home
unsaid_home h t absent = unowned h t (accepts_unknown h t absent)

untaken : (h : List Event) (t : ℕ) → is_in t (filter_map taken_by h) ≡ false → last_said (taker_by t) h ≡ None
untaken [] t absent = refl
untaken (Out u w ∷ later) t absent = let parts = or_parts (u == t) (is_in t (filter_map taken_by later)) absent in rw (untaken later t parts.1, parts.0) refl
untaken (Skip u w ∷ later) t absent = let parts = or_parts (u == t) (is_in t (filter_map taken_by later)) absent in rw (untaken later t parts.1, parts.0) refl
untaken (e ∷ later) t absent = rw (untaken later t absent) refl

pub unsaid_taker : (pool : Pool) (h : List Event) (t : ℕ) → AllowedFrom pool [] h → is_in t (tasks h) ≡ false → taker h t ≡ None
unfolding taker
unsaid_taker pool h t so absent = untaken h t (takes_unknown pool h t so absent)
