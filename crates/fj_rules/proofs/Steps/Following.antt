-- The events of each step follow what has happened, and so do those of every run.
use Rattle.std.proofs.Common.{ℕ, ◌≡◌, ◌+◌, ◌≤◌, Bool, true, false, not, List, [], ◌∷◌, ◌++◌, length, Option, Some, None, refl, ap, sym, ◌∙◌, subst, arith, length-append, append_assoc}
use Rattle.std.specs.Prelude.{◌==◌, if◌then◌else◌, IfSome}
use Rattle.std.specs.List.{cons_option}
use Rattle.std.proofs.lemmas.Bool.{eq-eqb, ltb-false, or_right}
use Rattle.std.proofs.lemmas.List.{append-nil, map-append}
use Rattle.fj_rules.specs.declared.event.Event.{Event}
use Rattle.fj_rules.specs.declared.event.Event.TheVariants.{Fire, Hooked}
use Rattle.fj_rules.specs.declared.step.Step.{Step}
use Rattle.fj_rules.specs.declared.refusal.Refusal.{Refusal}
use Rattle.fj_rules.specs.declared.refusal.Refusal.TheVariants.{LogFull}
use Rattle.fj_rules.specs.declared.epoch.Move.{Move}
use Rattle.fj_rules.specs.declared.epoch.Move.TheVariants as move
use Rattle.fj_rules.specs.declared.epoch.Answer.{Answer}
use Rattle.fj_rules.specs.declared.epoch.Answer.TheVariants as gives
use Rattle.fj_rules.specs.Bounds.{Pool}
use Rattle.fj_rules.specs.Lists.{is_in, times_in}
use Rattle.fj_rules.specs.Tasks.{is_completer}
use Rattle.fj_rules.specs.Hooks.{Hook, Hooks, hooks, hooks_after, receiver, with_hook, hand, HooksApart}
use Rattle.fj_rules.specs.Climbs.{climbed, climbed_by}
use Rattle.fj_rules.specs.Allowed.{Allowed, AllowedFrom}
use Rattle.fj_rules.specs.Follows.{HasHand, AllFollow}
use Rattle.fj_rules.specs.Headline.{fired, fired_by}
use Rattle.fj_rules.specs.Pasts.{Past, fresh, grown, limit}
use Rattle.fj_rules.specs.Epochs.{Moves, MovesFrom, IsPast}
use Rattle.fj_rules.specs.Answers.{answer, answer_of, refusal_of, refusals_of, first_that_stands, does_not_fit, events_of}
use Rattle.fj_rules.proofs.Lists.Members.{times_in_append, Once, once_more}
use Rattle.fj_rules.proofs.Events.Growth.{with, filter_map_more, hooks_more}
use Rattle.fj_rules.proofs.Events.Hands.{in_hands_same}
use Rattle.fj_rules.proofs.Events.Lawful.{by_events, allowed_more}
use Rattle.fj_rules.proofs.Events.KindsKept.{completer_stays}
use Rattle.fj_rules.proofs.Completers.Climbed.{climbs_none}
use Rattle.fj_rules.proofs.Completers.Firings.{fired_once}
use Rattle.fj_rules.proofs.Completers.HookLists.{completers, workers_of, no_worker, fewer_times}
use Rattle.fj_rules.proofs.Steps.Standing.{stands, neither}
use Rattle.fj_rules.proofs.Steps.StepsAllowed.{step_allowed}
use Rattle.fj_rules.proofs.Steps.StepsClimb.{step_climbs}
use Rattle.fj_rules.proofs.Steps.HandsFree.{AllHaveHands, step_hands}
use Rattle.fj_rules.proofs.Steps.AnswersAllowed.{IsSound, move_sound}

-- ---- the events of one step

climbed_first : (c : ℕ) (e : Event) (es : List Event) → climbed_by e ≡ Some c → is_in c (climbed (e ∷ es)) ≡ true
unfolding climbed
climbed_first c e es is = rw (is, eq-eqb c c refl) refl

climbed_later : (c : ℕ) (e : Event) (es : List Event) → is_in c (climbed es) ≡ true → is_in c (climbed (e ∷ es)) ≡ true
unfolding climbed
climbed_later c e es there = go (climbed_by e)
  where
    go : (said : Option ℕ) → is_in c (cons_option said (climbed es)) ≡ true
    go None = there
    go (Some d) = or_right (d == c) (is_in c (climbed es)) there

-- what was shown of the events of a step together, each after those before it
all_follow : (past : Past) (es : List Event) → AllowedFrom past.pool past.events es → ((c : ℕ) → is_in c (climbed es) ≡ true → is_completer past.events c ≡ true)
    → AllHaveHands past.pool past.events es → length past.events + length es ≤ limit past → AllFollow past es
all_follow past [] so names hands fits = tt
all_follow past (e ∷ es) so names hands fits = (
  record { allowed = so.0; names = named (climbed_by e) refl; free = hands.0; fits = omega (arith, fits) },
  all_follow (grown past (e ∷ [])) es so.1 (λ c there. completer_stays past.events e c (names c (climbed_later c e es there))) hands.1 (omega (arith, fits, length-append past.events (e ∷ []))),
)
  where
    named : (said : Option ℕ) → climbed_by e ≡ said → IfSome said (λ c. is_completer past.events c ≡ true)
    named None is = tt
    named (Some c) is = names c (climbed_first c e es is)

fits_of : (past : Past) (asked : Step) → refusal_of past asked ≡ None → length past.events + length (events_of past.pool past.events asked) ≤ limit past
unfolding refusal_of
fits_of past asked none = go (does_not_fit past asked) refl (neither (first_that_stands (refusals_of past.pool past.events asked)) (if does_not_fit past asked then Some LogFull else None) none).1
  where
    go : (b : Bool) → does_not_fit past asked ≡ b → (if b then Some LogFull else None) ≡ None → length past.events + length (events_of past.pool past.events asked) ≤ limit past
    go true is none = absurd cc
    go false is none = omega (arith, ltb-false (limit past) (length past.events + length (events_of past.pool past.events asked)) is)

pub sound_follows : (past : Past) (asked : Step) → IsSound past.pool past.events → HooksApart past.events → AllFollow past (answer past asked).1
unfolding answer
sound_follows past asked sound apart = go (refusal_of past asked) refl
  where
    go : (r : Option Refusal) → refusal_of past asked ≡ r → AllFollow past (answer_of past asked r).1
    go None is =
        let st = stands past asked is in
        all_follow past (events_of past.pool past.events asked) (step_allowed past.pool past.events asked sound.allowed sound.climbs st)
        (step_climbs past.pool past.events asked sound.allowed st) (step_hands past.pool past.events asked apart st) (fits_of past asked is)
    go (Some refusal) is = tt

-- ---- hooks stay apart

-- no completer has more hooks in hands than were handed out
completers_gain : (s : Hooks) (e : Event) (c : ℕ) → times_in c (completers (hooks_after s e).in_hands) ≤ times_in c (completers s.in_hands) + times_in c (with [] (fired_by e))
completers_gain s (Fire d k) c = go (receiver d s.just_ended s.last_worker)
  where
    go : (to : Option ℕ) → times_in c (completers (with_hook d to s.in_hands)) ≤ times_in c (completers s.in_hands) + times_in c (d ∷ [])
    go None = omega arith
    go (Some w) =
        omega (arith, ap (times_in c) (map-append (λ (hook : Hook). hook.completer) s.in_hands (record { completer = d; worker = w } ∷ [])), times_in_append c (completers s.in_hands) (d ∷ []))
completers_gain s (Hooked d) c = omega (arith, fewer_times (λ (hook : Hook). hook.completer) (λ hook. not (hook.completer == d)) c s.in_hands)
completers_gain s _ c = omega arith

with_times : (c : ℕ) (ts : List ℕ) (said : Option ℕ) → times_in c (with ts said) ≡ times_in c ts + times_in c (with [] said)
with_times c ts None = omega (arith, ap (times_in c) (append-nil ts))
with_times c ts (Some d) = times_in_append c ts (d ∷ [])

hooks_fired : (pool : Pool) (h : List Event) → AllowedFrom pool [] h → (c : ℕ) → times_in c (completers (hooks h).in_hands) ≤ times_in c (fired h)
unfolding fired hooks
hooks_fired pool = by_events pool (λ h. (c : ℕ) → times_in c (completers (hooks h).in_hands) ≤ times_in c (fired h)) (λ c. omega arith) more
  where
    more : (h : List Event) (e : Event) → AllowedFrom pool [] h → ((c : ℕ) → times_in c (completers (hooks h).in_hands) ≤ times_in c (fired h)) → Allowed pool h e
        → (c : ℕ) → times_in c (completers (hooks (h ++ e ∷ [])).in_hands) ≤ times_in c (fired (h ++ e ∷ []))
    more h e so before may c = omega (
      arith,
      ap (λ s. times_in c (completers s.in_hands)) (hooks_more h e),
      completers_gain (hooks h) e c,
      before c,
      ap (times_in c) (filter_map_more fired_by h e),
      with_times c (fired h) (fired_by e),
    )

-- a worker whose hand is empty gets one more
workers_more : (pool : Pool) (h : List Event) (e : Event) → HasHand pool h e → Once (workers_of (hooks h).in_hands) → Once (workers_of (hooks (h ++ e ∷ [])).in_hands)
unfolding hand
workers_more pool h (Fire c k) has once =
    let old = (hooks h).in_hands in
    let added : (hooks (h ++ Fire c k ∷ [])).in_hands ≡ old ++ record { completer = c; worker = has.0 } ∷ [] = ap (λ s. s.in_hands) (hooks_more h (Fire c k)) ∙ ap (λ to. with_hook c to old) has.2 in
    subst Once (sym (ap workers_of added ∙ map-append (λ (hook : Hook). hook.worker) old (record { completer = c; worker = has.0 } ∷ []))) (once_more (workers_of old) has.0 (no_worker has.0 old has.3) once)
workers_more pool h (Hooked c) has once = λ w.
    omega (
      arith,
      ap (λ s. times_in w (workers_of s.in_hands)) (hooks_more h (Hooked c)),
      fewer_times (λ (hook : Hook). hook.worker) (λ hook. not (hook.completer == c)) w (hooks h).in_hands,
      once w,
    )
workers_more pool h e has once = subst (λ (hs : List Hook). Once (workers_of hs)) (sym (in_hands_same h e refl)) once

events_apart : (past : Past) (es : List Event) → AllowedFrom past.pool [] past.events → HooksApart past.events → AllFollow past es → HooksApart (past.events ++ es)
events_apart past [] so apart follow = rw append-nil apart
events_apart past (e ∷ es) so apart follow =
    let h = past.events ++ e ∷ [] in
    let more : AllowedFrom past.pool [] h = allowed_more past.pool [] past.events e so follow.0.allowed in
    let next : HooksApart h =
    record {
      workers = workers_more past.pool past.events e follow.0.free apart.workers;
      completers = λ c. omega (arith, hooks_fired past.pool h more c, fired_once past.pool h more c);
    } in rw append_assoc at (events_apart (grown past (e ∷ [])) es more next follow.1)

-- ---- whole runs

-- what holds of the history of every run
record IsSoundAndApart (past : Past) : Type 0 where
  sound : IsSound past.pool past.events
  apart : HooksApart past.events

move_apart : (old : Past) (asked : Move) (told : Answer) (new : Past) → IsSoundAndApart old → Moves old asked told new → HooksApart new.events
move_apart old (move.Step asked) (gives.Said reply) new before made =
    subst (λ (p : Past). HooksApart p.events) (sym made.1) (events_apart old (answer old asked).1 before.sound.allowed before.apart (sound_follows old asked before.sound before.apart))
move_apart old (move.Step asked) gives.Sealed new before made = absurd made
move_apart old (move.Step asked) (gives.Refused refusal) new before made = absurd made
move_apart old move.Seal (gives.Said reply) new before made = absurd made
move_apart old move.Seal gives.Sealed new before made = subst (λ (p : Past). HooksApart p.events) (sym made.1) before.apart
move_apart old move.Seal (gives.Refused refusal) new before made = subst (λ (p : Past). HooksApart p.events) (sym made.1) before.apart

moves_apart : (old : Past) (moves : List Move) (answers : List Answer) (new : Past) → IsSoundAndApart old → MovesFrom old moves answers new → IsSoundAndApart new
moves_apart old [] [] new before run = subst IsSoundAndApart (sym run) before
moves_apart old (asked ∷ moves) (told ∷ answers) new before run =
    moves_apart run.0 moves answers new (record { sound = move_sound old asked told run.0 before.sound run.1; apart = move_apart old asked told run.0 before run.1 }) run.2
moves_apart old [] (told ∷ answers) new before run = absurd run
moves_apart old (asked ∷ moves) [] new before run = absurd run

start_apart : (past : Past) → IsSoundAndApart (fresh past.pool.mode past.pool.limits)
unfolding hooks
start_apart past = record { sound = record { allowed = tt; climbs = climbs_none }; apart = record { workers = λ w. omega arith; completers = λ c. omega arith } }

past_both : (past : Past) → IsPast past → IsSoundAndApart past
past_both past run = moves_apart (fresh past.pool.mode past.pool.limits) run.0 run.1 past (start_apart past) run.2

-- no hand has two hooks in a run, and no hook is in two hands
pub hooks_apart : (past : Past) → IsPast past → HooksApart past.events
hooks_apart past run = (past_both past run).apart

-- the events of each answer follow the history of a run, each after those before it
pub answer_follows : (past : Past) (asked : Step) → IsPast past → AllFollow past (answer past asked).1
answer_follows past asked run = let both = past_both past run in sound_follows past asked both.sound both.apart
