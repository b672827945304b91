-- Which completion actions a step ends.
use Rattle.std.proofs.Common.{ℕ, ◌≡◌, ◌⊎◌, Bool, true, false, not, List, [], ◌∷◌, ◌++◌, Option, Some, None, refl, ap, sym, ◌∙◌, ⊎_elim}
use Rattle.std.specs.Prelude.{if◌then◌else◌, ◌||◌}
use Rattle.std.specs.List.{list_all}
use Rattle.std.proofs.lemmas.Bool.{and_parts, or_cases}
use Rattle.std.proofs.lemmas.List.Elements.{filter_map-append}
use Rattle.fj_rules.specs.declared.event.Event.{Event}
use Rattle.fj_rules.specs.declared.event.Event.TheVariants as event
use Rattle.fj_rules.specs.declared.event.How.TheVariants as how_is
use Rattle.fj_rules.specs.declared.status.Status.TheVariants as status_is
use Rattle.fj_rules.specs.declared.step.Ending.{Ending}
use Rattle.fj_rules.specs.declared.step.Step.{Step}
use Rattle.fj_rules.specs.declared.step.Step.TheVariants as ask
use Rattle.fj_rules.specs.Bounds.{Pool}
use Rattle.fj_rules.specs.Lists.{is_in}
use Rattle.fj_rules.specs.Tasks.{tasks, released, released_by, is_kept}
use Rattle.fj_rules.specs.Statuses.{status, is_undone}
use Rattle.fj_rules.specs.Climbs.{climbed, path}
use Rattle.fj_rules.specs.Allowed.{Allowed, AllowedFrom, is_closed, is_stopped}
use Rattle.fj_rules.specs.Choices.{choice}
use Rattle.fj_rules.specs.Answers.{answer, events_of, taking, settling, failing, root_of, root_events, after_end, end_says, ending_events, running}
use Rattle.fj_rules.specs.Epochs.{IsPast}
use Rattle.fj_rules.specs.Runs.{Past}
use Rattle.fj_rules.proofs.Lists.Members.{is_in_append}
use Rattle.fj_rules.proofs.Completers.Climbed.{climbed_append, hand_climbed}
use Rattle.fj_rules.proofs.Events.KindsKept.{completer_known}
use Rattle.fj_rules.proofs.Events.Lawful.{by_events}
use Rattle.fj_rules.proofs.Steps.Answered.{Answered, Refuses, Makes, answered}
use Rattle.fj_rules.proofs.Steps.AnswersAllowed.{climbed_completer, history_allowed}
use Rattle.fj_body.specs.Stores.{hook_ended_by, hooks_ended}
use Rattle.fj_body.proofs.Following.{is_rest, AfterEnd, Fired, Unfired, after_ended, settling_rest, failing_rest}
use Rattle.fj_body.proofs.HookEndings.{HookFired, HookUnfired}
use Rattle.fj_bodies.proofs.Normals.{in_one}

pub ended_append : (h es : List Event) → hooks_ended (h ++ es) ≡ hooks_ended h ++ hooks_ended es
unfolding hooks_ended
ended_append h es = filter_map-append hook_ended_by h es

-- one that has ended now had ended before, or ends by these events
pub ended_cases : (h es : List Event) (c : ℕ) → is_in c (hooks_ended (h ++ es)) ≡ true → (is_in c (hooks_ended h) ≡ true) ⊎ (is_in c (hooks_ended es) ≡ true)
ended_cases h es c there =
    or_cases (is_in c (hooks_ended h)) (is_in c (hooks_ended es)) (sym (ap (is_in c) (ended_append h es) ∙ is_in_append c (hooks_ended h) (hooks_ended es)) ∙ there)

-- ---- it was a task's that was known

abbrev EndedClimbed : List Event → Type 0
EndedClimbed h = (c : ℕ) → is_in c (hooks_ended h) ≡ true → is_in c (climbed h) ≡ true

ended_none : EndedClimbed []
unfolding hooks_ended
ended_none c there = absurd cc

climbed_before : (pool : Pool) (h : List Event) (e : Event) (c : ℕ) → AllowedFrom pool [] h → Allowed pool h e → is_in c (hooks_ended (e ∷ [])) ≡ true → is_in c (climbed h) ≡ true
unfolding hooks_ended
climbed_before pool h (event.Hooked d) c so may there = hand_climbed pool h may.0 c so (may.1 ∙ ap Some (in_one d c there))
climbed_before pool h _ c so may there = absurd cc

ended_climbed : (pool : Pool) (h : List Event) (e : Event) → AllowedFrom pool [] h → EndedClimbed h → Allowed pool h e → EndedClimbed (h ++ e ∷ [])
ended_climbed pool h e so climbs may c there =
    ap (is_in c) (climbed_append h (e ∷ [])) ∙ is_in_append c (climbed h) (climbed (e ∷ [])) ∙ ap (λ b. b || is_in c (climbed (e ∷ [])))
    (⊎_elim (λ old. climbs c old) (λ new. climbed_before pool h e c so may new) (ended_cases h (e ∷ []) c there))

pub ended_known : (past : Past) (c : ℕ) → IsPast past → is_in c (hooks_ended past.events) ≡ true → is_in c (tasks past.events) ≡ true
ended_known past c run there =
    completer_known past.events c (climbed_completer past c run (by_events past.pool EndedClimbed ended_none (ended_climbed past.pool) past.events (history_allowed past run) c there))

-- a known task that is kept after these events was kept before them
pub known_kept : (h es : List Event) (t : ℕ) → is_in t (tasks h) ≡ true → is_kept (h ++ es) t ≡ true → is_kept h t ≡ true
unfolding is_kept released
known_kept h es t known kept =
    rw known (neither (is_in t (released h)) (is_in t (released es))
    (ap not (sym (ap (is_in t) (filter_map-append released_by h es) ∙ is_in_append t (released h) (released es))) ∙ (and_parts (is_in t (tasks (h ++ es))) (not (is_in t (released (h ++ es)))) kept).1))
  where
    neither : (a b : Bool) → not (a || b) ≡ true → not a ≡ true
    neither true b is = absurd cc
    neither false b is = refl

-- ---- which a step ends

abbrev pub is_hook_done : Step → Bool
is_hook_done (ask.HookDone w) = true
is_hook_done _ = false

pub rest_ends_none : (es : List Event) → list_all is_rest es ≡ true → hooks_ended es ≡ []
unfolding hooks_ended
rest_ends_none [] all = refl
rest_ends_none (e ∷ es) all = let parts = and_parts (is_rest e) (list_all is_rest es) all in rw (one e parts.0) (rest_ends_none es parts.1)
  where
    one : (e : Event) → is_rest e ≡ true → hook_ended_by e ≡ None
    one (event.Dec c) is = refl
    one (event.Pass c) is = refl
    one (event.Settle t s) is = refl
    one _ is = absurd cc

taking_ends_none : (h : List Event) (w : ℕ) (t : Option ℕ) → hooks_ended (taking h w t) ≡ []
unfolding hooks_ended
taking_ends_none h w None = refl
taking_ends_none h w (Some t) = go (is_undone (status h t))
  where
    go : (b : Bool) → hooks_ended ((if b then event.Out t w else event.Skip t w) ∷ []) ≡ []
    go true = refl
    go false = refl

end_ends_none : (h : List Event) (w : ℕ) (ending : Ending) (t : Option ℕ) → hooks_ended (ending_events h w ending t) ≡ []
unfolding hooks_ended
end_ends_none h w ending None = refl
end_ends_none h w ending (Some t) = go (after_ended (h ++ event.End t w ∷ []) t ending)
  where
    go : AfterEnd t (end_says (h ++ event.End t w ∷ []) t ending) (after_end (h ++ event.End t w ∷ []) t ending) → hooks_ended (after_end (h ++ event.End t w ∷ []) t ending) ≡ []
    go (Fired how said made) = rw made refl
    go (Unfired over rest) = rest_ends_none (after_end (h ++ event.End t w ∷ []) t ending) rest

root_ends_none : (h : List Event) (root : Option ℕ) → hooks_ended (root_events h root) ≡ []
unfolding hooks_ended
root_ends_none h None = refl
root_ends_none h (Some c) = rest_ends_none (settling h c status_is.Normal) (settling_rest h c status_is.Normal)

step_ends_none : (pool : Pool) (h : List Event) (asked : Step) → is_hook_done asked ≡ false → hooks_ended (events_of pool h asked) ≡ []
unfolding events_of hooks_ended
step_ends_none pool h (ask.Submit s k) other = refl
step_ends_none pool h (ask.Fork w k) other = refl
step_ends_none pool h (ask.Trigger w count) other = refl
step_ends_none pool h (ask.Poll w r) other = taking_ends_none h w (choice pool h w r)
step_ends_none pool h (ask.Help w r) other = taking_ends_none h w (choice pool h w r)
step_ends_none pool h (ask.Join w t r) other = go (is_undone (status h t))
  where
    go : (b : Bool) → hooks_ended (if b then taking h w (choice pool h w r) else []) ≡ []
    go true = taking_ends_none h w (choice pool h w r)
    go false = refl
step_ends_none pool h (ask.End w ending) other = end_ends_none h w ending (running h w)
step_ends_none pool h (ask.HookDone w) other = absurd cc
step_ends_none pool h (ask.Add w c n) other = refl
step_ends_none pool h (ask.QuietRoot w t) other = root_ends_none h (root_of (path h t))
step_ends_none pool h (ask.Fault t code) other = rest_ends_none (failing h t code) (failing_rest h t code)
step_ends_none pool h (ask.Cancel t) other = rest_ends_none (settling h t status_is.Cancelled) (settling_rest h t status_is.Cancelled)
step_ends_none pool h ask.Shutdown other = go (is_closed h || is_stopped h)
  where
    go : (b : Bool) → hooks_ended (if b then [] else event.Close ∷ []) ≡ []
    go true = refl
    go false = refl
step_ends_none pool h ask.Stop other = go (is_stopped h)
  where
    go : (b : Bool) → hooks_ended (if b then [] else event.Stop ∷ []) ≡ []
    go true = refl
    go false = refl
step_ends_none pool h ask.IsQuiescent other = refl
step_ends_none pool h (ask.State t) other = refl
step_ends_none pool h (ask.Release t) other = refl

pub answer_ends_none : (past : Past) (asked : Step) → is_hook_done asked ≡ false → hooks_ended (answer past asked).1 ≡ []
unfolding hooks_ended
answer_ends_none past asked other = go (answered past asked)
  where
    go : Answered past asked (answer past asked).0 (answer past asked).1 → hooks_ended (answer past asked).1 ≡ []
    go (Refuses r refused none) = rw none refl
    go (Makes none replied made) = rw made (step_ends_none past.pool past.events asked other)

-- ---- the end of one

-- only that of this task ends
abbrev pub EndsOnly : ℕ → List Event → Type 0
EndsOnly c es = (d : ℕ) → is_in d (hooks_ended es) ≡ true → c ≡ d

ends_one : (c d : ℕ) (rest : List Event) → hooks_ended rest ≡ [] → is_in d (hooks_ended (event.Hooked c ∷ rest)) ≡ true → c ≡ d
unfolding hooks_ended
ends_one c d rest none there = in_one c d (rw none at there)

pub fired_only : (h : List Event) (w p : ℕ) (es : List Event) → (fired : HookFired h w p es) → EndsOnly fired.task es
unfolding hooks_ended
fired_only h w p es fired d there =
    ends_one fired.task d (fired.own ++ event.Fire p how_is.Zero ∷ []) (ended_append fired.own (event.Fire p how_is.Zero ∷ []) ∙ rw (rest_ends_none fired.own fired.still) refl)
    (ap (λ (es : List Event). is_in d (hooks_ended es)) (sym fired.made) ∙ there)

pub over_only : (h : List Event) (w : ℕ) (es : List Event) → (over : HookUnfired h w es) → EndsOnly over.task es
over_only h w es over d there = ends_one over.task d over.rest (rest_ends_none over.rest over.still) (ap (λ (es : List Event). is_in d (hooks_ended es)) (sym over.made) ∙ there)
