-- Which tasks the events of a step are about.
use Rattle.std.proofs.Common.{ℕ, ◌≡◌, ◌⊎◌, inl, inr, Bool, true, false, not, List, [], ◌∷◌, ◌++◌, length, map, drop, Option, Some, None, refl, ap, sym, ◌∙◌, ⊎_elim}
use Rattle.std.specs.Prelude.{if◌then◌else◌, ◌==◌, ◌-◌}
use Rattle.std.specs.List.{list_all}
use Rattle.std.proofs.lemmas.Bool.{and_parts, or_cases, or_right, eq-eqb, eqb-true}
use Rattle.fj_rules.specs.declared.event.Event.{Event}
use Rattle.fj_rules.specs.declared.event.Event.TheVariants as event
use Rattle.fj_rules.specs.declared.event.How.TheVariants as how_is
use Rattle.fj_rules.specs.declared.status.Status.{Status}
use Rattle.fj_rules.specs.declared.status.Status.TheVariants as status_is
use Rattle.fj_rules.specs.declared.step.Ending.{Ending}
use Rattle.fj_rules.specs.declared.step.Ending.TheVariants as ending_is
use Rattle.fj_rules.specs.declared.step.Step.TheVariants as ask
use Rattle.fj_rules.specs.Lists.{is_in, last_of}
use Rattle.fj_rules.specs.Tasks.{is_kept, parent}
use Rattle.fj_rules.specs.Statuses.{status, is_undone}
use Rattle.fj_rules.specs.Completers.{is_spent}
use Rattle.fj_rules.specs.Stacks.{stack}
use Rattle.fj_rules.specs.Hooks.{hand as hook_of}
use Rattle.fj_rules.specs.Climbs.{Arrival, arrival, path, path_up, passed, relayed}
use Rattle.fj_rules.specs.Climbs as climb
use Rattle.fj_rules.specs.Allowed.{has_kept_child, is_fired_by_complete}
use Rattle.fj_rules.specs.Answers.{answer, events_of, running, settling, arriving, failing, passing, pass_end, root_of, settle_root, root_events, after_end, ending_events, settling_own, above_hook, hook_events}
use Rattle.fj_rules.specs.Pasts.{Past}
use Rattle.fj_rules.specs.Epochs.{IsPast}
use Rattle.fj_rules.proofs.Lists.Members.{get_is_in}
use Rattle.fj_rules.proofs.Events.KindsKept.{path_same}
use Rattle.fj_rules.proofs.Places.KeptPlaces.{held_kept}
use Rattle.fj_rules.proofs.Completers.Ways.{passed_on_way, rest_on_way}
use Rattle.fj_rules.proofs.Completers.KeptParents.{child_found}
use Rattle.fj_rules.proofs.Steps.AnswersAllowed.{history_allowed}
use Rattle.fj_rules.proofs.Steps.SettlesAllowed.{relayed_on_way}
use Rattle.fj_rules.proofs.Steps.Standing.{stands}
use Rattle.fj_rules.proofs.Events.Releasable.{is_on_way, OnlyAbout, way_has_child}
use Rattle.fj_rules.proofs.Steps.Answered.{Answered, Refuses, Makes, answered}

-- ---- parts of answers

way_append : (way : List ℕ) (xs ys : List Event) → list_all (is_on_way way) xs ≡ true → list_all (is_on_way way) ys ≡ true → list_all (is_on_way way) (xs ++ ys) ≡ true
way_append way [] ys all more = more
way_append way (x ∷ xs) ys all more = let parts = and_parts (is_on_way way x) (list_all (is_on_way way) xs) all in rw (parts.0, way_append way xs ys parts.1 more) refl

settling_way : (way : List ℕ) (h : List Event) (t : ℕ) (s : Status) → is_in t way ≡ true → list_all (is_on_way way) (settling h t s) ≡ true
settling_way way h t s there = go (is_undone (status h t))
  where
    go : (b : Bool) → list_all (is_on_way way) (if b then event.Settle t s ∷ [] else []) ≡ true
    go true = rw there refl
    go false = refl

arriving_way : (way : List ℕ) (c : ℕ) (a : Arrival) → is_in c way ≡ true → list_all (is_on_way way) (arriving c a) ≡ true
arriving_way way c climb.Spent there = refl
arriving_way way c climb.Counted there = refl
arriving_way way c climb.Early there = refl
arriving_way way c climb.Fires there = rw there refl

settles_way : (way : List ℕ) (code : ℕ) (us : List ℕ) → ((u : ℕ) → is_in u us ≡ true → is_in u way ≡ true)
    → list_all (is_on_way way) (map (λ u. event.Settle u (status_is.Exceptional code)) us) ≡ true
settles_way way code [] within = refl
settles_way way code (u ∷ us) within =
    rw (within u (rw (eq-eqb u u refl) refl)) (settles_way way code us (λ v there. within v (or_right (u == v) (is_in v us) there)))

passes_way : (way : List ℕ) (us : List ℕ) → ((u : ℕ) → is_in u us ≡ true → is_in u way ≡ true) → list_all (is_on_way way) (map event.Pass us) ≡ true
passes_way way [] within = refl
passes_way way (u ∷ us) within = rw (within u (rw (eq-eqb u u refl) refl)) (passes_way way us (λ v there. within v (or_right (u == v) (is_in v us) there)))

failing_way : (h : List Event) (t code : ℕ) → list_all (is_on_way (path h t)) (failing h t code) ≡ true
failing_way h t code = go (is_undone (status h t))
  where
    go : (b : Bool) → list_all (is_on_way (path h t)) (if b then map (λ u. event.Settle u (status_is.Exceptional code)) (relayed h t) else []) ≡ true
    go true = settles_way (path h t) code (relayed h t) (relayed_on_way h t)
    go false = refl

last_there : (ts : List ℕ) (r : ℕ) → last_of ts ≡ Some r → is_in r ts ≡ true
last_there ts r is = get_is_in r ts (length ts - 1) is

pass_end_way : (h : List Event) (way rest : List ℕ) → ((u : ℕ) → is_in u rest ≡ true → is_in u way ≡ true) → list_all (is_on_way way) (pass_end h rest (root_of way)) ≡ true
pass_end_way h way (c ∷ above) within = arriving_way way c (arrival h c) (within c (rw (eq-eqb c c refl) refl))
pass_end_way h way [] within = go (root_of way) refl
  where
    go : (r : Option ℕ) → root_of way ≡ r → list_all (is_on_way way) (settle_root r) ≡ true
    go None is = refl
    go (Some r) is = rw (last_there way r is) refl

passing_way : (h : List Event) (t : ℕ) → list_all (is_on_way (path h t)) (passing h t) ≡ true
passing_way h t =
    way_append (path h t) (map event.Pass (passed h t)) (pass_end h (drop (length (passed h t)) (path h t)) (root_of (path h t))) (passes_way (path h t) (passed h t) (passed_on_way h t))
    (pass_end_way h (path h t) (drop (length (passed h t)) (path h t)) (rest_on_way h t))

root_way : (h k : List Event) (way : List ℕ) → list_all (is_on_way way) (root_events k (root_of way)) ≡ true
root_way h k way = go (root_of way) refl
  where
    go : (r : Option ℕ) → root_of way ≡ r → list_all (is_on_way way) (root_events k r) ≡ true
    go None is = refl
    go (Some r) is = settling_way way k r status_is.Normal (last_there way r is)

-- ---- the end of a body

itself_on_way : (h : List Event) (t : ℕ) → is_in t (path h t) ≡ true
unfolding path path_up
itself_on_way h t = rw (eq-eqb t t refl) refl

after_end_way : (h : List Event) (t : ℕ) (ending : Ending) → list_all (is_on_way (path h t)) (after_end h t ending) ≡ true
after_end_way h t ending_is.Ok = settling_way (path h t) h t status_is.Normal (itself_on_way h t)
after_end_way h t ending_is.Quiet = refl
after_end_way h t ending_is.Try = arriving_way (path h t) t (arrival h t) (itself_on_way h t)
after_end_way h t ending_is.Pass = passing_way h t
after_end_way h t ending_is.Complete = go (is_spent h t)
  where
    go : (b : Bool) → list_all (is_on_way (path h t)) (if b then [] else event.Fire t how_is.Complete ∷ []) ≡ true
    go true = refl
    go false = rw (itself_on_way h t) refl
after_end_way h t (ending_is.Fail code) = failing_way h t code

ending_way : (h : List Event) (w t : ℕ) (ending : Ending) → list_all (is_on_way (path h t)) (event.End t w ∷ after_end (h ++ event.End t w ∷ []) t ending) ≡ true
ending_way h w t ending =
    let same = path_same h (event.End t w) t refl in
    rw (itself_on_way h t) (rw same at (after_end_way (h ++ event.End t w ∷ []) t ending))

nothing_about : (h : List Event) (t : ℕ) (es : List Event) → es ≡ [] → OnlyAbout h t es
nothing_about h t es none = record { way = []; above = λ u there. absurd cc; all = rw none refl }

up_from : (past : Past) (t : ℕ) (es : List Event) → IsPast past → is_kept past.events t ≡ true → list_all (is_on_way (path past.events t)) es ≡ true → OnlyAbout past.events t es
up_from past t es run kept all = record { way = path past.events t; above = λ u there. way_has_child past.pool past.events t u (history_allowed past run) kept there; all = all }

pub end_about : (past : Past) (w t : ℕ) (ending : Ending) → IsPast past → running past.events w ≡ Some t → OnlyAbout past.events t (answer past (ask.End w ending)).1
unfolding events_of
end_about past w t ending run runs = go (answered past (ask.End w ending))
  where
    kept : is_kept past.events t ≡ true
    kept = held_kept past.pool past.events w t (history_allowed past run) (last_there (stack past.events w) t runs)

    go : Answered past (ask.End w ending) (answer past (ask.End w ending)).0 (answer past (ask.End w ending)).1 → OnlyAbout past.events t (answer past (ask.End w ending)).1
    go (Refuses r said none) = nothing_about past.events t (answer past (ask.End w ending)).1 none
    go (Makes stood said made) =
        up_from past t (answer past (ask.End w ending)).1 run kept (rw (made ∙ ap (ending_events past.events w ending) runs) (ending_way past.events w t ending))

-- ---- the end of a hook

hook_way : (h : List Event) (c : ℕ) (p : Option ℕ) (way : List ℕ) → is_in c way ≡ true → ((q : ℕ) → p ≡ Some q → is_in q way ≡ true) → (k l : List Event)
    → list_all (is_on_way way) (event.Hooked c ∷ settling_own k c ++ above_hook l c p) ≡ true
hook_way h c p way there above k l = rw there (way_append way (settling_own k c) (above_hook l c p) (own (is_fired_by_complete k c)) (up p above))
  where
    own : (b : Bool) → list_all (is_on_way way) (if b then settling k c status_is.Normal else []) ≡ true
    own true = settling_way way k c status_is.Normal there
    own false = refl

    up : (p : Option ℕ) → ((q : ℕ) → p ≡ Some q → is_in q way ≡ true) → list_all (is_on_way way) (above_hook l c p) ≡ true
    up None above = settling_way way l c status_is.Normal there
    up (Some q) above = arriving_way way q (arrival l q) (above q refl)

-- a task, and its parent if it has one
abbrev with_parent : ℕ → Option ℕ → List ℕ
with_parent c None = c ∷ []
with_parent c (Some p) = c ∷ p ∷ []

pub hook_about : (past : Past) (w c : ℕ) → is_kept past.events c ≡ true → hook_of past.events w ≡ Some c → OnlyAbout past.events c (answer past (ask.HookDone w)).1
unfolding events_of
hook_about past w c kept at = go (answered past (ask.HookDone w))
  where
    h : List Event
    h = past.events

    two : (p : Option ℕ) → parent h c ≡ p → (u : ℕ) → is_in u (with_parent c p) ≡ true → (u ≡ c) ⊎ (has_kept_child h u ≡ true)
    two None is u there = ⊎_elim (λ here. inl (sym (eqb-true c u here))) (λ none. absurd cc) (or_cases (c == u) false there)
    two (Some p) is u there =
        ⊎_elim (λ here. inl (sym (eqb-true c u here)))
        (λ later. ⊎_elim (λ here. inr (child_found h c u kept (is ∙ ap Some (eqb-true p u here)))) (λ none. absurd cc) (or_cases (p == u) false later))
        (or_cases (c == u) (is_in u (p ∷ [])) there)

    first : (p : Option ℕ) → is_in c (with_parent c p) ≡ true
    first None = rw (eq-eqb c c refl) refl
    first (Some p) = rw (eq-eqb c c refl) refl

    second : (p : Option ℕ) (q : ℕ) → p ≡ Some q → is_in q (with_parent c p) ≡ true
    second None q is = absurd cc
    second (Some p) q is = or_right (c == q) (is_in q (p ∷ [])) (here p q is)
      where
        here : (p q : ℕ) → ◌≡◌ {A = Option ℕ} (Some p) (Some q) → is_in q (p ∷ []) ≡ true
        here p q is = let same : p ≡ q = cc in rw (eq-eqb p q same) refl

    go : Answered past (ask.HookDone w) (answer past (ask.HookDone w)).0 (answer past (ask.HookDone w)).1 → OnlyAbout h c (answer past (ask.HookDone w)).1
    go (Refuses r said none) = nothing_about h c (answer past (ask.HookDone w)).1 none
    go (Makes stood said made) = record {
      way = with_parent c (parent h c);
      above = two (parent h c) refl;
      all = rw (made ∙ ap (hook_events h) at) (hook_way h c (parent h c) (with_parent c (parent h c)) (first (parent h c)) (second (parent h c))
          (h ++ event.Hooked c ∷ []) ((h ++ event.Hooked c ∷ []) ++ settling_own (h ++ event.Hooked c ∷ []) c));
    }

-- ---- the others

kept_so : (h : List Event) (t : ℕ) → not (is_kept h t) ≡ false → is_kept h t ≡ true
kept_so h t is = go (is_kept h t) is
  where
    go : (b : Bool) → not b ≡ false → b ≡ true
    go true is = refl
    go false is = absurd cc

pub quiet_root_about : (past : Past) (w t : ℕ) → IsPast past → OnlyAbout past.events t (answer past (ask.QuietRoot w t)).1
unfolding events_of
quiet_root_about past w t run = go (answered past (ask.QuietRoot w t))
  where
    go : Answered past (ask.QuietRoot w t) (answer past (ask.QuietRoot w t)).0 (answer past (ask.QuietRoot w t)).1 → OnlyAbout past.events t (answer past (ask.QuietRoot w t)).1
    go (Refuses r said none) = nothing_about past.events t (answer past (ask.QuietRoot w t)).1 none
    go (Makes stood said made) =
        up_from past t (answer past (ask.QuietRoot w t)).1 run (kept_so past.events t (stands past (ask.QuietRoot w t) stood).tests.1.1.1.0)
        (rw made (root_way past.events past.events (path past.events t)))

pub fault_about : (past : Past) (t code : ℕ) → IsPast past → OnlyAbout past.events t (answer past (ask.Fault t code)).1
unfolding events_of
fault_about past t code run = go (answered past (ask.Fault t code))
  where
    go : Answered past (ask.Fault t code) (answer past (ask.Fault t code)).0 (answer past (ask.Fault t code)).1 → OnlyAbout past.events t (answer past (ask.Fault t code)).1
    go (Refuses r said none) = nothing_about past.events t (answer past (ask.Fault t code)).1 none
    go (Makes stood said made) =
        up_from past t (answer past (ask.Fault t code)).1 run (kept_so past.events t (stands past (ask.Fault t code) stood).tests.0) (rw made (failing_way past.events t code))

pub cancel_about : (past : Past) (t : ℕ) → IsPast past → OnlyAbout past.events t (answer past (ask.Cancel t)).1
unfolding events_of
cancel_about past t run = go (answered past (ask.Cancel t))
  where
    go : Answered past (ask.Cancel t) (answer past (ask.Cancel t)).0 (answer past (ask.Cancel t)).1 → OnlyAbout past.events t (answer past (ask.Cancel t)).1
    go (Refuses r said none) = nothing_about past.events t (answer past (ask.Cancel t)).1 none
    go (Makes stood said made) =
        up_from past t (answer past (ask.Cancel t)).1 run (kept_so past.events t (stands past (ask.Cancel t) stood).tests.0)
        (rw made (settling_way (path past.events t) past.events t status_is.Cancelled (itself_on_way past.events t)))

pub skip_about : (h : List Event) (t w : ℕ) → OnlyAbout h t (event.Skip t w ∷ [])
skip_about h t w = record {
  way = t ∷ [];
  above = λ u there. ⊎_elim (λ here. inl (sym (eqb-true t u here))) (λ none. absurd cc) (or_cases (t == u) false there);
  all = rw (eq-eqb t t refl) refl;
}
