-- The numbers of events, and what was said last, after one more event.
use Rattle.std.proofs.Common.{ℕ, ◌≡◌, ◌+◌, Bool, true, false, ◌||◌, List, [], ◌∷◌, ◌++◌, length, Option, Some, None, refl, ap, sym, ◌∙◌, arith}
use Rattle.std.specs.Prelude.{◌==◌, is_some}
use Rattle.std.specs.List.{list_any}
use Rattle.std.proofs.lemmas.Bool.{eqb-true}
use Rattle.fj_rules.specs.declared.event.Event.{Event}
use Rattle.fj_rules.specs.declared.event.Event.TheVariants.{Acc, Make, Out, Skip, End, Add, Dec, Fire, Pass, Hooked, Settle, Close, Stop, Rel}
use Rattle.fj_rules.specs.Lists.{or_else, number_if}
use Rattle.fj_rules.specs.Tasks.{accepted_by, released_by}
use Rattle.fj_rules.specs.Queues.{taken_by}
use Rattle.fj_rules.specs.Completers.{fires_or_passes}
use Rattle.fj_rules.specs.Places.{owner_by}
use Rattle.fj_rules.proofs.Events.Growth.{first_more}
use Rattle.fj_rules.proofs.Places.OnePlace.{never}
use Rattle.fj_story.specs.declared.row.TaskMoments.{TaskMoments}
use Rattle.fj_story.specs.Rows.{is_number, moment_from, moment, moments, body_ended_by, fired_by, passed_by, hooked_by, home, taker, taker_by, last_said}
use Rattle.fj_story.specs.Changes.{told_by}

-- ---- the first and the last

pub or_none : {A : Type 0} (a : Option A) → or_else a None ≡ a
or_none (Some x) = refl
or_none None = refl

or_assoc : {A : Type 0} (a b c : Option A) → or_else (or_else a b) c ≡ or_else a (or_else b c)
or_assoc (Some x) b c = refl
or_assoc None b c = refl

pub last_more : {A : Type 0} (says : Event → Option A) (h : List Event) (e : Event) → last_said says (h ++ e ∷ []) ≡ or_else (says e) (last_said says h)
last_more says [] e = sym (or_none (says e))
last_more says (f ∷ h) e = ap (λ o. or_else o (says f)) (last_more says h e) ∙ or_assoc (says e) (last_said says h) (says f)

pub home_more : (h : List Event) (e : Event) (t : ℕ) → home (h ++ e ∷ []) t ≡ or_else (home h t) (owner_by t e)
unfolding home
home_more h e t = first_more (owner_by t) h e

pub taker_more : (h : List Event) (e : Event) (t : ℕ) → taker (h ++ e ∷ []) t ≡ or_else (taker_by t e) (taker h t)
unfolding taker
taker_more h e t = last_more (taker_by t) h e

pub home_same : (h : List Event) (e : Event) (t : ℕ) → owner_by t e ≡ None → home (h ++ e ∷ []) t ≡ home h t
home_same h e t none = home_more h e t ∙ rw none (or_none (home h t))

pub taker_same : (h : List Event) (e : Event) (t : ℕ) → taker_by t e ≡ None → taker (h ++ e ∷ []) t ≡ taker h t
taker_same h e t none = taker_more h e t ∙ rw none refl

-- ---- numbers

from_more : (says : Event → Option ℕ) (before : ℕ) (h : List Event) (e : Event) (t : ℕ)
    → moment_from says before (h ++ e ∷ []) t ≡ or_else (number_if (is_number (says e) t) (before + length h + 1)) (moment_from says before h t)
unfolding moment_from
from_more says before [] e t =
    let same : before + 1 ≡ before + 0 + 1 = omega arith in
    ap (number_if (is_number (says e) t)) same ∙ sym (or_none (number_if (is_number (says e) t) (before + 0 + 1)))
from_more says before (f ∷ h) e t =
    let b = is_number (says e) t in
    let here = number_if (is_number (says f) t) (before + 1) in
    let same : before + 1 + length h + 1 ≡ before + length (f ∷ h) + 1 = omega arith in
    ap (λ o. or_else o here) (from_more says (before + 1) h e t)
    ∙ or_assoc (number_if b (before + 1 + length h + 1)) (moment_from says (before + 1) h t) here
    ∙ ap (λ n. or_else (number_if b n) (or_else (moment_from says (before + 1) h t) here)) same

pub moment_more : (says : Event → Option ℕ) (h : List Event) (e : Event) (t : ℕ) → moment says (h ++ e ∷ []) t ≡ or_else (number_if (is_number (says e) t) (length h + 1)) (moment says h t)
unfolding moment
moment_more says h e t =
    let same : 0 + length h + 1 ≡ length h + 1 = omega arith in
    from_more says 0 h e t ∙ ap (λ n. or_else (number_if (is_number (says e) t) n) (moment_from says 0 h t)) same

-- the moments after the event with this number
abbrev pub moments_after : TaskMoments → Event → ℕ → ℕ → TaskMoments
moments_after m e t n = record {
  accepted = or_else (number_if (is_number (accepted_by e) t) n) m.accepted;
  taken = or_else (number_if (is_number (taken_by e) t) n) m.taken;
  ended = or_else (number_if (is_number (body_ended_by e) t) n) m.ended;
  fired = or_else (number_if (is_number (fired_by e) t) n) m.fired;
  passed = or_else (number_if (is_number (passed_by e) t) n) m.passed;
  hooked = or_else (number_if (is_number (hooked_by e) t) n) m.hooked;
  released = or_else (number_if (is_number (released_by e) t) n) m.released;
}

pub moments_more : (h : List Event) (e : Event) (t : ℕ) → moments (h ++ e ∷ []) t ≡ moments_after (moments h t) e t (length h + 1)
unfolding moments
moments_more h e t =
    rw (moment_more accepted_by h e t, moment_more taken_by h e t, moment_more body_ended_by h e t, moment_more fired_by h e t, moment_more passed_by h e t, moment_more hooked_by h e t, moment_more released_by h e t) refl

pub other_number : (said : Option ℕ) (t : ℕ) → (said ≡ Some t → ⊥) → is_number said t ≡ false
other_number None t other = refl
other_number (Some u) t other = never (u == t) (λ is. other (ap Some (eqb-true u t is)))

-- an event that says nothing of the task leaves its moments
pub moments_other : (m : TaskMoments) (e : Event) (u n : ℕ) → (accepted_by e ≡ Some u → ⊥) → (told_by e ≡ Some u → ⊥) → moments_after m e u n ≡ m
moments_other m (Acc t o k) u n new other = rw (other_number (Some t) u new) refl
moments_other m (Make t k) u n new other = rw (other_number (Some t) u new) refl
moments_other m (Out t w) u n new other = rw (other_number (Some t) u other) refl
moments_other m (Skip t w) u n new other = rw (other_number (Some t) u other) refl
moments_other m (End t w) u n new other = rw (other_number (Some t) u other) refl
moments_other m (Add c k) u n new other = refl
moments_other m (Dec c) u n new other = refl
moments_other m (Fire c how) u n new other = rw (other_number (Some c) u other) refl
moments_other m (Pass c) u n new other = rw (other_number (Some c) u other) refl
moments_other m (Hooked c) u n new other = rw (other_number (Some c) u other) refl
moments_other m (Settle t s) u n new other = refl
moments_other m Close u n new other = refl
moments_other m Stop u n new other = refl
moments_other m (Rel t) u n new other = rw (other_number (Some t) u other) refl

-- ---- whether there is a number

some_or : (x : Option ℕ) (b : Bool) (n : ℕ) (rest : Bool) → is_some x ≡ rest → is_some (or_else x (number_if b n)) ≡ (b || rest)
some_or None true n rest same = refl
some_or None false n rest same = same
some_or (Some y) true n rest same = refl
some_or (Some y) false n rest same = same

some_from : (says : Event → Option ℕ) (before : ℕ) (h : List Event) (t : ℕ) → is_some (moment_from says before h t) ≡ list_any (λ e. is_number (says e) t) h
unfolding moment_from
some_from says before [] t = refl
some_from says before (e ∷ later) t = some_or (moment_from says (before + 1) later t) (is_number (says e) t) (before + 1) (list_any (λ e. is_number (says e) t) later) (some_from says (before + 1) later t)

some_moment : (says : Event → Option ℕ) (h : List Event) (t : ℕ) → is_some (moment says h t) ≡ list_any (λ e. is_number (says e) t) h
unfolding moment
some_moment says h t = some_from says 0 h t

or_true : (a : Bool) → (a || true) ≡ true
or_true true = refl
or_true false = refl

either : (t : ℕ) (h : List Event) → list_any (fires_or_passes t) h ≡ (list_any (λ e. is_number (fired_by e) t) h || list_any (λ e. is_number (passed_by e) t) h)
either t [] = refl
either t (e ∷ h) = go e (list_any (fires_or_passes t) h) (list_any (λ e. is_number (fired_by e) t) h) (list_any (λ e. is_number (passed_by e) t) h) (either t h)
  where
    go : (e : Event) (x a b : Bool) → x ≡ (a || b) → (fires_or_passes t e || x) ≡ ((is_number (fired_by e) t || a) || (is_number (passed_by e) t || b))
    go (Fire c how) x a b same = fires (c == t) x a b same
      where
        fires : (d x a b : Bool) → x ≡ (a || b) → (d || x) ≡ ((d || a) || b)
        fires true x a b same = refl
        fires false x a b same = same
    go (Pass c) x a b same = passes (c == t) x a b same
      where
        passes : (d x a b : Bool) → x ≡ (a || b) → (d || x) ≡ (a || (d || b))
        passes true x a b same = sym (or_true a)
        passes false x a b same = same
    go _ x a b same = same

-- it was fired or passed where one of these has a number
pub fires_told : (h : List Event) (t : ℕ) → list_any (fires_or_passes t) h ≡ (is_some (moment fired_by h t) || is_some (moment passed_by h t))
fires_told h t = either t h ∙ sym (rw (some_moment fired_by h t, some_moment passed_by h t) refl)
