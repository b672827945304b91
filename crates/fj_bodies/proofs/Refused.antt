-- Why an ending is refused, but for want of room.
use Rattle.std.proofs.Common.{ℕ, ◌≡◌, ◌<◌, Bool, true, false, List, [], ◌∷◌, ◌++◌, Option, Some, None, refl, ap, sym, ◌∙◌}
use Rattle.std.specs.Prelude.{if◌then◌else◌, is_some, is_none, nat_le}
use Rattle.std.proofs.lemmas.Bool.{true≢false, lt-leb}
use Rattle.fj_rules.specs.declared.event.Event.{Event}
use Rattle.fj_rules.specs.declared.event.Event.TheVariants as event
use Rattle.fj_rules.specs.declared.refusal.Refusal.{Refusal}
use Rattle.fj_rules.specs.declared.refusal.Refusal.TheVariants.{LogFull, NoSuch, NotIdle, NotRunning, NotCompleter}
use Rattle.fj_rules.specs.declared.said.Said.{Said}
use Rattle.fj_rules.specs.declared.said.Said.TheVariants as says
use Rattle.fj_rules.specs.declared.step.Ending.{Ending}
use Rattle.fj_rules.specs.declared.step.Step.TheVariants.{End, HookDone}
use Rattle.fj_rules.specs.Lists.{or_else, is_empty}
use Rattle.fj_rules.specs.Tasks.{parent}
use Rattle.fj_rules.specs.Stacks.{stack}
use Rattle.fj_rules.specs.Statuses.{status, is_undone}
use Rattle.fj_rules.specs.Hooks.{hand as hook_of}
use Rattle.fj_rules.specs.Climbs.{Arrival, arrival}
use Rattle.fj_rules.specs.Climbs as climb
use Rattle.fj_rules.specs.Answers.{answer, answer_of, refusal_of, reply_of, first_that_stands, does_not_fit, running, is_misfit, end_says, after_end, ending_says, arriving_says, hook_says, hook_done_says, settling_own}
use Rattle.fj_rules.specs.Pasts.{Past}
use Rattle.fj_slots.specs.Aside.{numbers}
use Rattle.fj_slots.specs.Hands.{HandState, hook_number}
use Rattle.fj_body.specs.Fitting.{Fits}
use Rattle.fj_body.specs.Endings.{is_over, end_refusal}
use Rattle.fj_body.proofs.Following.{AfterEnd, Fired, Unfired, after_ended}

-- ---- what is made is not refused

end_goes : (h : List Event) (w : ℕ) (how : Ending) (t : Option ℕ) (r : Refusal) → ending_says h w how t ≡ says.Refused r → ⊥
end_goes h w how None r is = cc
end_goes h w how (Some t) r is = pick (after_ended (h ++ event.End t w ∷ []) t how)
  where
    differs : says.Hook t ≡ says.Refused r → ⊥
    differs same = cc

    pick : AfterEnd t (end_says (h ++ event.End t w ∷ []) t how) (after_end (h ++ event.End t w ∷ []) t how) → ⊥
    pick (Fired by fires made) = differs (sym fires ∙ is)
    pick (Unfired over rest) = true≢false (sym over ∙ ap is_over is)

arrival_goes : (c : ℕ) (a : Arrival) (r : Refusal) → arriving_says c a ≡ says.Refused r → ⊥
arrival_goes c climb.Spent r is = cc
arrival_goes c climb.Counted r is = cc
arrival_goes c climb.Early r is = cc
arrival_goes c climb.Fires r is = cc

hook_goes : (h : List Event) (c : Option ℕ) (r : Refusal) → hook_done_says h c ≡ says.Refused r → ⊥
hook_goes h None r is = cc
hook_goes h (Some c) r is = go (parent h c) is
  where
    ended : List Event
    ended = h ++ event.Hooked c ∷ []

    pick : (b : Bool) → (if b then says.Root c else says.Spent c) ≡ says.Refused r → ⊥
    pick true same = cc
    pick false same = cc

    go : (p : Option ℕ) → hook_says h (ended ++ settling_own ended c) c p ≡ says.Refused r → ⊥
    go (Some p) same = arrival_goes p (arrival (ended ++ settling_own ended c) p) r same
    go None same = pick (is_undone (status h c)) same

-- ---- by what the machine has for the worker

refused_by : (past : Past) (w : ℕ) (how : Ending) (r : Refusal) → w < past.pool.limits.workers → (answer past (End w how)).0 ≡ says.Refused r → (r ≡ LogFull → ⊥)
    → r ≡ end_refusal (hook_of past.events w) (stack past.events w)
unfolding answer refusal_of reply_of
refused_by past w how r there said roomy =
    go (nat_le past.pool.limits.workers w) (hook_of past.events w) (stack past.events w) (is_misfit past.events how (running past.events w)) (does_not_fit past (End w how)) (lt-leb past.pool.limits.workers w there) said
  where
    go : (b : Bool) (hook : Option ℕ) (held : List ℕ) (m f : Bool) → b ≡ false
        → (answer_of past (End w how) (or_else (first_that_stands ((b, NoSuch) ∷ (is_some hook, NotIdle) ∷ (is_empty held, NotRunning) ∷ (m, NotCompleter) ∷ [])) (if f then Some LogFull else None))).0 ≡ says.Refused r
        → r ≡ end_refusal hook held
    go true hook held m f is same = absurd cc
    go false (Some c) held m f is same = cc
    go false None [] m f is same = cc
    go false None (t ∷ ts) true f is same = cc
    go false None (t ∷ ts) false true is same = absurd (roomy cc)
    go false None (t ∷ ts) false false is same = absurd (end_goes past.events w how (running past.events w) r same)

hook_refused_by : (past : Past) (w : ℕ) (r : Refusal) → w < past.pool.limits.workers → (answer past (HookDone w)).0 ≡ says.Refused r → (r ≡ LogFull → ⊥) → r ≡ NotRunning
unfolding answer refusal_of reply_of
hook_refused_by past w r there said roomy = go (nat_le past.pool.limits.workers w) (is_none (hook_of past.events w)) (does_not_fit past (HookDone w)) (lt-leb past.pool.limits.workers w there) said
  where
    go : (b n f : Bool) → b ≡ false → (answer_of past (HookDone w) (or_else (first_that_stands ((b, NoSuch) ∷ (n, NotRunning) ∷ [])) (if f then Some LogFull else None))).0 ≡ says.Refused r → r ≡ NotRunning
    go true n f is same = absurd cc
    go false true f is same = cc
    go false false true is same = absurd (roomy cc)
    go false false false is same = absurd (hook_goes past.events (hook_of past.events w) r same)

-- ---- by what the hand has

same_refusal : {B : Type 0} (hook : Option (ℕ × B)) (bodies : List (ℕ × B)) → end_refusal (hook_number hook) (numbers bodies) ≡ end_refusal hook bodies
same_refusal (Some hook) bodies = refl
same_refusal None [] = refl
same_refusal None (body ∷ bodies) = refl

pub end_refused : {B : Type 0} (past : Past) (hand : HandState B) (w : ℕ) (how : Ending) (reply : Said) (r : Refusal) → Fits past hand → w ≡ hand.worker
    → reply ≡ (answer past (End w how)).0 → reply ≡ says.Refused r → (r ≡ LogFull → ⊥) → r ≡ end_refusal hand.hook hand.stack
end_refused past hand w how reply r fits same is said roomy =
    refused_by past w how r (rw same fits.there) (sym is ∙ said) roomy ∙ rw (same, ← fits.hook, ← fits.bodies) (same_refusal hand.hook hand.stack)

pub hook_refused : {B : Type 0} (past : Past) (hand : HandState B) (w : ℕ) (reply : Said) (r : Refusal) → Fits past hand → w ≡ hand.worker
    → reply ≡ (answer past (HookDone w)).0 → reply ≡ says.Refused r → (r ≡ LogFull → ⊥) → r ≡ NotRunning
hook_refused past hand w reply r fits same is said roomy = hook_refused_by past w r (rw same fits.there) (sym is ∙ said) roomy
