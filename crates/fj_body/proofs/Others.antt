-- What the step of one worker leaves of the hands of the others.
use Rattle.std.proofs.Common.{ℕ, ◌≡◌, ◌≢◌, ◌+◌, ◌≤◌, not, Bool, true, false, List, [], ◌∷◌, ◌++◌, Option, Some, None, refl, ap, sym, ◌∙◌, subst, arith, append_assoc}
use Rattle.std.specs.Prelude.{if◌then◌else◌, ◌==◌, ◌||◌, ⊤}
use Rattle.std.specs.List.{list_all, filter_map, cons_option}
use Rattle.std.proofs.lemmas.Bool.{and_parts, eq-eqb, ne_eqb, not-true}
use Rattle.std.proofs.lemmas.List.{append-nil, map-append}
use Rattle.fj_rules.specs.declared.event.Event.{Event}
use Rattle.fj_rules.specs.declared.event.Event.TheVariants as event
use Rattle.fj_rules.specs.declared.event.How.{How}
use Rattle.fj_rules.specs.declared.event.How.TheVariants as how_is
use Rattle.fj_rules.specs.declared.refusal.Refusal.{Refusal}
use Rattle.fj_rules.specs.declared.said.Said.{Said}
use Rattle.fj_rules.specs.declared.status.Status.TheVariants as status_is
use Rattle.fj_rules.specs.declared.step.Ending.{Ending}
use Rattle.fj_rules.specs.declared.step.Step.{Step}
use Rattle.fj_rules.specs.declared.step.Step.TheVariants as ask
use Rattle.fj_rules.specs.Bounds.{Pool}
use Rattle.fj_rules.specs.Lists.{times_in}
use Rattle.fj_rules.specs.Statuses.{status, is_undone}
use Rattle.fj_rules.specs.Stacks.{stack, out_by, ended_by}
use Rattle.fj_rules.specs.Hooks.{Hook, Hooks, hooks, hooks_after, hand as hook_of, completer_in, worker_in, with_hook, receiver}
use Rattle.fj_rules.specs.Choices.{choice}
use Rattle.fj_rules.specs.Climbs.{path}
use Rattle.fj_rules.specs.Allowed.{AllowedFrom, is_closed, is_stopped}
use Rattle.fj_rules.specs.Answers.{answer, answer_of, refusal_of, events_of, taking, settling, failing, root_events, root_of, running, ending_events, after_end, end_says}
use Rattle.fj_rules.specs.Headline.{fired, fired_by}
use Rattle.fj_rules.specs.Pasts.{Past}
use Rattle.fj_rules.specs.Epochs.{IsPast}
use Rattle.fj_rules.specs.Runs.{Steps}
use Rattle.fj_rules.proofs.Lists.Members.{times_in_append}
use Rattle.fj_rules.proofs.Events.Growth.{hooks_more, stack_same, filter_map_more}
use Rattle.fj_rules.proofs.Events.Hands.{is_of_hook, hand_same}
use Rattle.fj_rules.proofs.Events.Lawful.{by_events}
use Rattle.fj_rules.proofs.Completers.Firings.{fired_once}
use Rattle.fj_rules.proofs.Steps.Answered.{Answered, Refuses, Makes, answered}
use Rattle.fj_rules.proofs.Steps.AnswersAllowed.{history_allowed}
use Rattle.fj_rules.proofs.Completers.HookLists.{completers, but, hand_before, hand_stays, fewer_times, worker_found}
use Rattle.fj_body.proofs.Following.{is_rest, settling_rest, failing_rest, AfterEnd, Fired, Unfired, after_ended}
use Rattle.fj_body.proofs.HookEndings.{still_hooks, HookGives, HookFires, HookIsOver, HookRefused, hook_gives}

-- the worker holds the same bodies, and the same hook
abbrev pub Stays : ℕ → List Event → List Event → Type 0
Stays v h h' = (stack h' v ≡ stack h v) × (hook_of h' v ≡ hook_of h v)

then_stays : (v : ℕ) (a b c : List Event) → Stays v a b → Stays v b c → Stays v a c
then_stays v a b c ab bc = (bc.0 ∙ ab.0, bc.1 ∙ ab.1)

-- no events
none_stays : (v : ℕ) (h es : List Event) → es ≡ [] → Stays v h (h ++ es)
none_stays v h es none =
    let same : h ++ es ≡ h = ap (λ (es : List Event). h ++ es) none ∙ append-nil h in
    (ap (λ (h : List Event). stack h v) same, ap (λ (h : List Event). hook_of h v) same)

-- ---- events that are in no hand, or in another's

-- whether the event leaves what this worker holds
abbrev is_apart : ℕ → Event → Bool
is_apart v (event.Out t w) = not (v == w)
is_apart v (event.End t w) = not (v == w)
is_apart v (event.Fire c how) = false
is_apart v (event.Hooked c) = false
is_apart v _ = true

abbrev AreApart : ℕ → List Event → Type 0
AreApart v es = list_all (is_apart v) es ≡ true

apart_out : (v : ℕ) (e : Event) → is_apart v e ≡ true → out_by v e ≡ None
apart_out v (event.Out t w) is = rw (not-true (v == w) is) refl
apart_out v _ is = refl

apart_ended : (v : ℕ) (e : Event) → is_apart v e ≡ true → ended_by v e ≡ None
apart_ended v (event.End t w) is = rw (not-true (v == w) is) refl
apart_ended v _ is = refl

apart_hook : (v : ℕ) (e : Event) → is_apart v e ≡ true → is_of_hook e ≡ false
apart_hook v (event.Fire c how) is = absurd cc
apart_hook v (event.Hooked c) is = absurd cc
apart_hook v _ is = refl

apart_stays : (v : ℕ) (h es : List Event) → AreApart v es → Stays v h (h ++ es)
apart_stays v h [] all = none_stays v h [] refl
apart_stays v h (e ∷ es) all =
    let parts = and_parts (is_apart v e) (list_all (is_apart v) es) all in
    let one : Stays v h (h ++ e ∷ []) = (stack_same h v e (apart_ended v e parts.0) (apart_out v e parts.0), hand_same h e v (apart_hook v e parts.0)) in
    subst (Stays v h) (append_assoc h (e ∷ []) es) (then_stays v h (h ++ e ∷ []) ((h ++ e ∷ []) ++ es) one (apart_stays v (h ++ e ∷ []) es parts.1))

rest_apart : (v : ℕ) (es : List Event) → list_all is_rest es ≡ true → AreApart v es
rest_apart v [] all = refl
rest_apart v (e ∷ es) all = let parts = and_parts (is_rest e) (list_all is_rest es) all in rw (one e parts.0) (rest_apart v es parts.1)
  where
    one : (e : Event) → is_rest e ≡ true → is_apart v e ≡ true
    one (event.Dec c) is = refl
    one (event.Pass c) is = refl
    one (event.Settle t s) is = refl
    one _ is = absurd cc

-- ---- steps that end nothing

-- the step ends nothing, and hands nothing to this worker
abbrev pub PassesBy : ℕ → Step → Type 0
PassesBy v (ask.Poll w r) = v ≢ w
PassesBy v (ask.Help w r) = v ≢ w
PassesBy v (ask.Join w t r) = v ≢ w
PassesBy v (ask.End w how) = ⊥
PassesBy v (ask.HookDone w) = ⊥
PassesBy v _ = ⊤

taking_apart : (v w : ℕ) (h : List Event) (o : Option ℕ) → v ≢ w → AreApart v (taking h w o)
taking_apart v w h None other = refl
taking_apart v w h (Some t) other = go (is_undone (status h t))
  where
    go : (b : Bool) → AreApart v ((if b then event.Out t w else event.Skip t w) ∷ [])
    go true = rw (ne_eqb v w other) refl
    go false = refl

root_apart : (v : ℕ) (h : List Event) (root : Option ℕ) → AreApart v (root_events h root)
root_apart v h None = refl
root_apart v h (Some root) = rest_apart v (settling h root status_is.Normal) (settling_rest h root status_is.Normal)

events_apart : (v : ℕ) (pool : Pool) (h : List Event) (asked : Step) → PassesBy v asked → AreApart v (events_of pool h asked)
unfolding events_of
events_apart v pool h (ask.Submit s k) by = refl
events_apart v pool h (ask.Fork w k) by = refl
events_apart v pool h (ask.Trigger w count) by = refl
events_apart v pool h (ask.Poll w r) by = taking_apart v w h (choice pool h w r) by
events_apart v pool h (ask.Help w r) by = taking_apart v w h (choice pool h w r) by
events_apart v pool h (ask.Join w t r) by = go (is_undone (status h t))
  where
    go : (b : Bool) → AreApart v (if b then taking h w (choice pool h w r) else [])
    go true = taking_apart v w h (choice pool h w r) by
    go false = refl
events_apart v pool h (ask.End w how) by = absurd by
events_apart v pool h (ask.HookDone w) by = absurd by
events_apart v pool h (ask.Add w c n) by = refl
events_apart v pool h (ask.QuietRoot w t) by = root_apart v h (root_of (path h t))
events_apart v pool h (ask.Fault t code) by = rest_apart v (failing h t code) (failing_rest h t code)
events_apart v pool h (ask.Cancel t) by = rest_apart v (settling h t status_is.Cancelled) (settling_rest h t status_is.Cancelled)
events_apart v pool h ask.Shutdown by = go (is_closed h || is_stopped h)
  where
    go : (b : Bool) → AreApart v (if b then [] else event.Close ∷ [])
    go true = refl
    go false = refl
events_apart v pool h ask.Stop by = go (is_stopped h)
  where
    go : (b : Bool) → AreApart v (if b then [] else event.Stop ∷ [])
    go true = refl
    go false = refl
events_apart v pool h ask.IsQuiescent by = refl
events_apart v pool h (ask.State t) by = refl
events_apart v pool h (ask.Release t) by = refl

answer_apart : (v : ℕ) (past : Past) (asked : Step) → PassesBy v asked → AreApart v (answer past asked).1
unfolding answer
answer_apart v past asked by = go (refusal_of past asked)
  where
    go : (r : Option Refusal) → AreApart v (answer_of past asked r).1
    go None = events_apart v past.pool past.events asked by
    go (Some r) = refl

-- what a step leaves, by the events of its answer
by_answer : (v : ℕ) (past new : Past) (asked : Step) (reply : Said) → Stays v past.events (past.events ++ (answer past asked).1) → Steps past asked reply new → Stays v past.events new.events
by_answer v past new asked reply stays step = subst (λ (p : Past). Stays v past.events p.events) (sym step.1) stays

pub step_stays : (v : ℕ) (past new : Past) (asked : Step) (reply : Said) → PassesBy v asked → Steps past asked reply new → Stays v past.events new.events
step_stays v past new asked reply by step = by_answer v past new asked reply (apart_stays v past.events (answer past asked).1 (answer_apart v past asked by)) step

-- ---- a hook is handed to another worker

fire_stays : (v w : ℕ) (h : List Event) (c : ℕ) (how : How) → v ≢ w → receiver c (hooks h).just_ended (hooks h).last_worker ≡ Some w → Stays v h (h ++ event.Fire c how ∷ [])
unfolding hook_of
fire_stays v w h c how other to = (stack_same h v (event.Fire c how) refl refl, hook)
  where
    hook : completer_in v (hooks (h ++ event.Fire c how ∷ [])).in_hands ≡ completer_in v (hooks h).in_hands
    hook =
        ap (λ (s : Hooks). completer_in v s.in_hands) (hooks_more h (event.Fire c how)) ∙ ap (λ (o : Option ℕ). completer_in v (with_hook c o (hooks h).in_hands)) to
        ∙ hand_before v (hooks h).in_hands (record { completer = c; worker = w }) (λ same. other (sym same))

-- ---- the body of another worker ends

-- what follows the end of a body goes to its worker
after_stays : (v w : ℕ) (h : List Event) (t : ℕ) (reply : Said) (es : List Event) → v ≢ w → AfterEnd t reply es → Stays v (h ++ event.End t w ∷ []) ((h ++ event.End t w ∷ []) ++ es)
after_stays v w h t reply es other (Fired how said made) =
    subst (λ (es : List Event). Stays v (h ++ event.End t w ∷ []) ((h ++ event.End t w ∷ []) ++ es)) (sym made)
    (fire_stays v w (h ++ event.End t w ∷ []) t how other (ap (λ (s : Hooks). receiver t s.just_ended s.last_worker) (hooks_more h (event.End t w)) ∙ rw (eq-eqb t t refl) refl))
after_stays v w h t reply es other (Unfired over rest) = apart_stays v (h ++ event.End t w ∷ []) es (rest_apart v es rest)

ending_stays : (v w : ℕ) (h : List Event) (how : Ending) (o : Option ℕ) → v ≢ w → Stays v h (h ++ ending_events h w how o)
ending_stays v w h how None other = none_stays v h [] refl
ending_stays v w h how (Some t) other =
    let ended = h ++ event.End t w ∷ [] in
    subst (Stays v h) (append_assoc h (event.End t w ∷ []) (after_end ended t how))
    (then_stays v h ended (ended ++ after_end ended t how) (apart_stays v h (event.End t w ∷ []) apart)
    (after_stays v w h t (end_says ended t how) (after_end ended t how) other (after_ended ended t how)))
  where
    apart : AreApart v (event.End t w ∷ [])
    apart = rw (ne_eqb v w other) refl

end_answer_stays : (v w : ℕ) (past : Past) (how : Ending) → v ≢ w → Stays v past.events (past.events ++ (answer past (ask.End w how)).1)
unfolding events_of
end_answer_stays v w past how other = go (answered past (ask.End w how))
  where
    go : Answered past (ask.End w how) (answer past (ask.End w how)).0 (answer past (ask.End w how)).1 → Stays v past.events (past.events ++ (answer past (ask.End w how)).1)
    go (Refuses r said none) = none_stays v past.events (answer past (ask.End w how)).1 none
    go (Makes stands said made) =
        subst (λ (es : List Event). Stays v past.events (past.events ++ es)) (sym made) (ending_stays v w past.events how (running past.events w) other)

pub end_stays : (v w : ℕ) (past new : Past) (how : Ending) (reply : Said) → v ≢ w → Steps past (ask.End w how) reply new → Stays v past.events new.events
end_stays v w past new how reply other step = by_answer v past new (ask.End w how) reply (end_answer_stays v w past how other) step

-- ---- no hook is in two hands

-- each hook in a hand was handed out
hook_handed : (s : Hooks) (e : Event) (c : ℕ) → times_in c (completers (hooks_after s e).in_hands) ≤ times_in c (completers s.in_hands) + times_in c (cons_option (fired_by e) [])
hook_handed s (event.Fire d how) c = go (receiver d s.just_ended s.last_worker)
  where
    go : (o : Option ℕ) → times_in c (completers (with_hook d o s.in_hands)) ≤ times_in c (completers s.in_hands) + times_in c (d ∷ [])
    go None = omega arith
    go (Some w) = rw (map-append (λ (k : Hook). k.completer) s.in_hands (record { completer = d; worker = w } ∷ [])) (omega (arith, times_in_append c (completers s.in_hands) (d ∷ [])))
hook_handed s (event.Hooked d) c = omega (arith, fewer_times (λ (k : Hook). k.completer) (λ hook. not (hook.completer == d)) c s.in_hands)
hook_handed s _ c = omega arith

abbrev AreHanded : List Event → Type 0
AreHanded h = (c : ℕ) → times_in c (completers (hooks h).in_hands) ≤ times_in c (fired h)

handed_more : (h : List Event) (e : Event) → AreHanded h → AreHanded (h ++ e ∷ [])
unfolding fired
handed_more h e handed c =
    rw (hooks_more h e, filter_map_more fired_by h e) (omega (arith, hook_handed (hooks h) e c, handed c, times_in_append c (filter_map fired_by h) (cons_option (fired_by e) [])))

none_handed : AreHanded []
unfolding hooks fired
none_handed c = omega arith

hook_once : (pool : Pool) (h : List Event) (c : ℕ) → AllowedFrom pool [] h → times_in c (completers (hooks h).in_hands) ≤ 1
hook_once pool h c so = omega (arith, by_events pool AreHanded none_handed (λ h e before handed may. handed_more h e handed) h so c, fired_once pool h so c)

-- ---- the hook of another worker ends

hooked_stays : (v w : ℕ) (h : List Event) (c : ℕ) → v ≢ w → hook_of h w ≡ Some c → times_in c (completers (hooks h).in_hands) ≤ 1 → Stays v h (h ++ event.Hooked c ∷ [])
unfolding hook_of
hooked_stays v w h c other at once = (
  stack_same h v (event.Hooked c) refl refl,
  ap (λ (s : Hooks). completer_in v s.in_hands) (hooks_more h (event.Hooked c)) ∙ hand_stays v w c (hooks h).in_hands other at once,
)

-- then what may follow, in no hand
over_stays : (v w : ℕ) (h : List Event) (c : ℕ) (rest : List Event) → v ≢ w → hook_of h w ≡ Some c → times_in c (completers (hooks h).in_hands) ≤ 1 → list_all is_rest rest ≡ true
    → Stays v h (h ++ event.Hooked c ∷ rest)
over_stays v w h c rest other at once still =
    let ended = h ++ event.Hooked c ∷ [] in
    subst (Stays v h) (append_assoc h (event.Hooked c ∷ []) rest)
    (then_stays v h ended (ended ++ rest) (hooked_stays v w h c other at once) (apart_stays v ended rest (rest_apart v rest still)))

-- what fires then goes to the worker whose hook ended
goes_on : (w : ℕ) (h : List Event) (c p : ℕ) (own : List Event) → hook_of h w ≡ Some c → times_in c (completers (hooks h).in_hands) ≤ 1 → list_all is_rest own ≡ true
    → receiver p (hooks (h ++ event.Hooked c ∷ own)).just_ended (hooks (h ++ event.Hooked c ∷ own)).last_worker ≡ Some w
unfolding hook_of
goes_on w h c p own at once still = ap (λ (s : Hooks). receiver p s.just_ended s.last_worker) all ∙ worker_found w c (hooks h).in_hands at once
  where
    ended : List Event
    ended = h ++ event.Hooked c ∷ []

    one : hooks ended ≡ record { in_hands = but c (hooks h).in_hands; just_ended = None; last_worker = worker_in c (hooks h).in_hands }
    one = hooks_more h (event.Hooked c)

    all : hooks (h ++ event.Hooked c ∷ own) ≡ record { in_hands = but c (hooks h).in_hands; just_ended = None; last_worker = worker_in c (hooks h).in_hands }
    all = ap hooks (sym (append_assoc h (event.Hooked c ∷ []) own)) ∙ still_hooks ended own still (ap (λ (s : Hooks). s.just_ended) one) ∙ one

hook_answer_stays : (v w : ℕ) (past : Past) → IsPast past → v ≢ w → Stays v past.events (past.events ++ (answer past (ask.HookDone w)).1)
hook_answer_stays v w past run other = go (hook_gives past w)
  where
    h : List Event
    h = past.events

    once : (c : ℕ) → times_in c (completers (hooks h).in_hands) ≤ 1
    once c = hook_once past.pool h c (history_allowed past run)

    go : HookGives past.events w (answer past (ask.HookDone w)).0 (answer past (ask.HookDone w)).1 → Stays v past.events (past.events ++ (answer past (ask.HookDone w)).1)
    go (HookRefused r said none) = none_stays v h (answer past (ask.HookDone w)).1 none
    go (HookIsOver c rest at over still made) =
        subst (λ (es : List Event). Stays v past.events (past.events ++ es)) (sym made) (over_stays v w h c rest other at (once c) still)
    go (HookFires c p own at up still said made) =
        let ended = h ++ event.Hooked c ∷ own in
        let fire = event.Fire p how_is.Zero ∷ [] in
        subst (λ (es : List Event). Stays v past.events (past.events ++ es)) (sym made)
        (subst (Stays v h) (append_assoc h (event.Hooked c ∷ own) fire)
        (then_stays v h ended (ended ++ fire) (over_stays v w h c own other at (once c) still) (fire_stays v w ended p how_is.Zero other (goes_on w h c p own at (once c) still))))

pub hook_done_stays : (v w : ℕ) (past new : Past) (reply : Said) → IsPast past → v ≢ w → Steps past (ask.HookDone w) reply new → Stays v past.events new.events
hook_done_stays v w past new reply run other step = by_answer v past new (ask.HookDone w) reply (hook_answer_stays v w past run other) step
