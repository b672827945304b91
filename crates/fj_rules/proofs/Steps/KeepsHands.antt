-- What steps that hand nothing out and end nothing leave of each hand.
use Rattle.std.proofs.Common.{ℕ, ◌≡◌, Bool, true, false, List, [], ◌∷◌, ◌++◌, map, Option, Some, None, refl, ap, sym, ◌∙◌, subst, append_assoc}
use Rattle.std.specs.Prelude.{if◌then◌else◌}
use Rattle.std.specs.List.{list_all}
use Rattle.std.proofs.lemmas.Bool.{and_parts}
use Rattle.std.proofs.lemmas.List.{append-nil}
use Rattle.fj_rules.specs.declared.event.Event.{Event}
use Rattle.fj_rules.specs.declared.event.Event.TheVariants as event
use Rattle.fj_rules.specs.declared.refusal.Refusal.{Refusal}
use Rattle.fj_rules.specs.declared.status.Status.{Status}
use Rattle.fj_rules.specs.declared.status.Status.TheVariants as status_is
use Rattle.fj_rules.specs.declared.step.Step.{Step}
use Rattle.fj_rules.specs.declared.step.Step.TheVariants as ask
use Rattle.fj_rules.specs.declared.said.Said.{Said}
use Rattle.fj_rules.specs.Bounds.{Pool}
use Rattle.fj_rules.specs.Stacks.{stack, out_by, ended_by}
use Rattle.fj_rules.specs.Hooks.{hand as hook_of}
use Rattle.fj_rules.specs.Statuses.{status, is_undone}
use Rattle.fj_rules.specs.Climbs.{path, relayed}
use Rattle.fj_rules.specs.Answers.{answer, answer_of, events_of, refusal_of, settling, failing, root_events, root_of}
use Rattle.fj_rules.specs.Pasts.{Past, grown}
use Rattle.fj_rules.specs.Runs.{Steps}
use Rattle.fj_rules.proofs.Events.Growth.{stack_same}
use Rattle.fj_rules.proofs.Events.Hands.{is_of_hook, hand_same}

-- whether the step hands nothing out and ends nothing
abbrev pub is_bare : Step → Bool
is_bare (ask.Fork w k) = true
is_bare (ask.Trigger w count) = true
is_bare (ask.Add w c n) = true
is_bare (ask.QuietRoot w t) = true
is_bare (ask.Fault t code) = true
is_bare (ask.Cancel t) = true
is_bare (ask.State t) = true
is_bare _ = false

-- whether the event is in no hand
abbrev is_aside : Event → Bool
is_aside (event.Out t w) = false
is_aside (event.End t w) = false
is_aside (event.Fire c how) = false
is_aside (event.Hooked c) = false
is_aside _ = true

-- each worker holds the same bodies, and the same hook
pub record KeepsHands (old new : Past) : Type 0 where
  pub pool : new.pool ≡ old.pool
  pub stacks : (w : ℕ) → stack new.events w ≡ stack old.events w
  pub hooks : (w : ℕ) → hook_of new.events w ≡ hook_of old.events w

-- ---- events

abbrev AreAside : List Event → Type 0
AreAside es = list_all is_aside es ≡ true

aside_hook : (h : List Event) (e : Event) (w : ℕ) → is_aside e ≡ true → hook_of (h ++ e ∷ []) w ≡ hook_of h w
aside_hook h e w is = hand_same h e w (of_no_hook e is)
  where
    of_no_hook : (e : Event) → is_aside e ≡ true → is_of_hook e ≡ false
    of_no_hook (event.Fire c how) is = absurd cc
    of_no_hook (event.Hooked c) is = absurd cc
    of_no_hook _ is = refl

aside_ended : (e : Event) (w : ℕ) → is_aside e ≡ true → ended_by w e ≡ None
aside_ended (event.End t v) w is = absurd cc
aside_ended _ w is = refl

aside_out : (e : Event) (w : ℕ) → is_aside e ≡ true → out_by w e ≡ None
aside_out (event.Out t v) w is = absurd cc
aside_out _ w is = refl

aside_stack : (h es : List Event) (w : ℕ) → AreAside es → stack (h ++ es) w ≡ stack h w
aside_stack h [] w all = ap (λ (h : List Event). stack h w) (append-nil h)
aside_stack h (e ∷ es) w all =
    let parts = and_parts (is_aside e) (list_all is_aside es) all in
    ap (λ (h : List Event). stack h w) (sym (append_assoc h (e ∷ []) es)) ∙ aside_stack (h ++ e ∷ []) es w parts.1 ∙ stack_same h w e (aside_ended e w parts.0) (aside_out e w parts.0)

aside_hand : (h es : List Event) (w : ℕ) → AreAside es → hook_of (h ++ es) w ≡ hook_of h w
aside_hand h [] w all = ap (λ (h : List Event). hook_of h w) (append-nil h)
aside_hand h (e ∷ es) w all =
    let parts = and_parts (is_aside e) (list_all is_aside es) all in
    ap (λ (h : List Event). hook_of h w) (sym (append_assoc h (e ∷ []) es)) ∙ aside_hand (h ++ e ∷ []) es w parts.1 ∙ aside_hook h e w parts.0

events_keep : (past : Past) (es : List Event) → AreAside es → KeepsHands past (grown past es)
events_keep past es all = record { pool = refl; stacks = λ w. aside_stack past.events es w all; hooks = λ w. aside_hand past.events es w all }

-- ---- steps

settling_aside : (h : List Event) (t : ℕ) (s : Status) → AreAside (settling h t s)
settling_aside h t s = go (is_undone (status h t))
  where
    go : (b : Bool) → AreAside (if b then event.Settle t s ∷ [] else [])
    go true = refl
    go false = refl

settles_aside : (code : ℕ) (us : List ℕ) → AreAside (map (λ u. event.Settle u (status_is.Exceptional code)) us)
settles_aside code [] = refl
settles_aside code (u ∷ us) = settles_aside code us

failing_aside : (h : List Event) (t code : ℕ) → AreAside (failing h t code)
failing_aside h t code = go (is_undone (status h t))
  where
    go : (b : Bool) → AreAside (if b then map (λ u. event.Settle u (status_is.Exceptional code)) (relayed h t) else [])
    go true = settles_aside code (relayed h t)
    go false = refl

root_aside : (h : List Event) (root : Option ℕ) → AreAside (root_events h root)
root_aside h None = refl
root_aside h (Some root) = settling_aside h root status_is.Normal

events_aside : (pool : Pool) (h : List Event) (asked : Step) → is_bare asked ≡ true → AreAside (events_of pool h asked)
unfolding events_of
events_aside pool h (ask.Fork w k) bare = refl
events_aside pool h (ask.Trigger w count) bare = refl
events_aside pool h (ask.Add w c n) bare = refl
events_aside pool h (ask.QuietRoot w t) bare = root_aside h (root_of (path h t))
events_aside pool h (ask.Fault t code) bare = failing_aside h t code
events_aside pool h (ask.Cancel t) bare = settling_aside h t status_is.Cancelled
events_aside pool h (ask.State t) bare = refl
events_aside pool h _ bare = absurd cc

answer_aside : (past : Past) (asked : Step) → is_bare asked ≡ true → AreAside (answer past asked).1
unfolding answer
answer_aside past asked bare = go (refusal_of past asked)
  where
    go : (r : Option Refusal) → AreAside (answer_of past asked r).1
    go None = events_aside past.pool past.events asked bare
    go (Some r) = refl

pub step_keeps : (past new : Past) (asked : Step) (reply : Said) → is_bare asked ≡ true → Steps past asked reply new → KeepsHands past new
step_keeps past new asked reply bare step = subst (KeepsHands past) (sym step.1) (events_keep past (answer past asked).1 (answer_aside past asked bare))

released_aside : (ts : List ℕ) → AreAside (map event.Rel ts)
released_aside [] = refl
released_aside (t ∷ ts) = released_aside ts

pub releases_keep : (past : Past) (ts : List ℕ) → KeepsHands past (grown past (map event.Rel ts))
releases_keep past ts = events_keep past (map event.Rel ts) (released_aside ts)

pub same_keeps : (past : Past) → KeepsHands past past
same_keeps past = record { pool = refl; stacks = λ w. refl; hooks = λ w. refl }

pub then_keeps : (a b c : Past) → KeepsHands a b → KeepsHands b c → KeepsHands a c
then_keeps a b c ab bc = record { pool = bc.pool ∙ ab.pool; stacks = λ w. bc.stacks w ∙ ab.stacks w; hooks = λ w. bc.hooks w ∙ ab.hooks w }
