-- What a quiescent machine leaves for later, and what a seal hands out.
use Rattle.std.proofs.Common.{zero, suc, ℕ, ◌≡◌, ◌+◌, ◌≤◌, ◌<◌, Bool, true, false, ◌&&◌, ◌||◌, List, [], ◌∷◌, ◌++◌, length, refl, ap, sym, ◌∙◌, arith, subst, length-append}
use Rattle.std.specs.Prelude.{◌==◌, not, nat_lt, is_none, if◌then◌else◌, Some, None, Result, Ok, Err, OnOk, OnErr}
use Rattle.std.specs.List.{list_all, flat_map}
use Rattle.std.proofs.lemmas.Bool.{lt-ltb, ltb-false, ne_eqb, not-false, and_parts}
use Rattle.std.proofs.lemmas.List.{append_assoc, append-nil}
use Rattle.std.proofs.lemmas.List.Concat.{flat_map-cons}
use Rattle.fj_rules.specs.declared.event.Event.{Event}
use Rattle.fj_rules.specs.Bounds.{Pool, owners, workers}
use Rattle.fj_rules.specs.Lists.{is_in, is_empty, without, times_in}
use Rattle.fj_rules.specs.Tasks.{accepted}
use Rattle.fj_rules.specs.Queues.{queue}
use Rattle.fj_rules.specs.Stacks.{stack}
use Rattle.fj_rules.specs.Hooks.{hand}
use Rattle.fj_rules.specs.Places.{open_tasks, gone, newly_gone}
use Rattle.fj_rules.specs.Allowed.{AllowedFrom, is_closed, is_stopped}
use Rattle.fj_rules.specs.declared.refusal.Refusal.{Refusal}
use Rattle.fj_rules.specs.declared.refusal.Refusal.TheVariants.{NotIdle, Closed, LogFull}
use Rattle.fj_rules.specs.declared.epoch.Move.TheVariants as move
use Rattle.fj_rules.specs.declared.epoch.Answer.TheVariants as gives
use Rattle.fj_rules.specs.Pasts.{Past, sealed_now}
use Rattle.fj_rules.specs.declared.epoch.TheConstants.{MAX_EVENTS_AND_SEALS}
use Rattle.fj_rules.specs.Epochs.{IsPast, seal_refusals, seal_refusal}
use Rattle.fj_rules.proofs.Steps.AnswersAllowed.{past_more}
use Rattle.fj_rules.proofs.Steps.Standing.{all_fail}
use Rattle.fj_rules.specs.Answers.{is_quiet}
use Rattle.fj_rules.specs.Headline.{all_places}
use Rattle.fj_rules.proofs.Places.FewLive.{few_live}
use Rattle.fj_rules.proofs.Events.Growth.{gone_more}
use Rattle.fj_rules.proofs.Places.KeptPlaces.{few_in_all}
use Rattle.fj_rules.proofs.Lists.Members.{is_in_filter, length_without, times_in_some, times_in_none}
use Rattle.fj_rules.proofs.Places.OnePlace.{one_place}

-- ---- each accepted task is somewhere

-- a list that has each number below n has at least n members
all_below : (n : ℕ) (ts : List ℕ) → ((t : ℕ) → t < n → is_in t ts ≡ true) → n ≤ length ts
all_below zero ts each = omega arith
all_below (suc n) ts each =
    omega (arith, length_without n ts, times_in_some n ts (each n (omega arith)), all_below n (without ts (n ∷ [])) rest)
  where
    rest : (t : ℕ) → t < n → is_in t (without ts (n ∷ [])) ≡ true
    rest t below =
        let apart : (n == t) ≡ false = ne_eqb n t (λ same. absurd (omega (arith, same, below))) in
        rw (is_in_filter (λ u. not (is_in u (n ∷ []))) t ts, each t (omega (arith, below)), apart) refl

placed : (pool : Pool) (h : List Event) → AllowedFrom pool [] h → accepted h ≤ length (all_places pool.limits h)
placed pool h so = all_below (accepted h) (all_places pool.limits h) each
  where
    each : (t : ℕ) → t < accepted h → is_in t (all_places pool.limits h) ≡ true
    each t below = go (is_in t (all_places pool.limits h)) refl
      where
        one : times_in t (all_places pool.limits h) ≡ 1
        one = one_place pool h so t ∙ rw (lt-ltb t (accepted h) below) refl

        go : (b : Bool) → is_in t (all_places pool.limits h) ≡ b → is_in t (all_places pool.limits h) ≡ true
        go true is = is
        go false is = absurd (omega (arith, one, times_in_none t (all_places pool.limits h) is))

-- ---- a quiescent machine

none_in : {A : Type 0} (f : A → List ℕ) (xs : List A) → list_all (λ x. is_empty (f x)) xs ≡ true → length (flat_map f xs) ≡ 0
none_in f [] all = refl
none_in f (x ∷ xs) all =
    let parts = and_parts (is_empty (f x)) (list_all (λ y. is_empty (f y)) xs) all in
    ap (λ (ts : List ℕ). length ts) (flat_map-cons f x xs) ∙ length-append (f x) (flat_map f xs) ∙ omega (arith, none (f x) parts.0, none_in f xs parts.1)
  where
    none : (ts : List ℕ) → is_empty ts ≡ true → length ts ≡ 0
    none [] is = refl
    none (t ∷ ts) is = absurd cc

both_all : (p q : ℕ → Bool) (xs : List ℕ) → list_all (λ x. p x && q x) xs ≡ true → list_all p xs ≡ true
both_all p q [] all = refl
both_all p q (x ∷ xs) all =
    let parts = and_parts (p x && q x) (list_all (λ y. p y && q y) xs) all in
    rw ((and_parts (p x) (q x) parts.0).0, both_all p q xs parts.1) refl

-- each task of a quiescent machine is open or gone, and no more are open than may be kept
pub quiet_left : (pool : Pool) (h : List Event) → AllowedFrom pool [] h → is_quiet pool.limits h ≡ true → accepted h ≤ length (gone h) + pool.limits.tasks
unfolding is_quiet all_places
quiet_left pool h so quiet =
    let l = pool.limits in
    let parts = and_parts (list_all (λ o. is_empty (queue h o)) (owners l)) (list_all (λ w. is_empty (stack h w) && is_none (hand h w)) (workers l)) quiet in
    let qs = flat_map (queue h) (owners l) in
    let ss = flat_map (stack h) (workers l) in
    omega (
      arith,
      placed pool h so,
      few_in_all pool h so,
      few_live pool h so,
      none_in (queue h) (owners l) parts.0,
      none_in (stack h) (workers l) (both_all (λ w. is_empty (stack h w)) (λ w. is_none (hand h w)) (workers l) parts.1),
      length-append (qs ++ ss ++ open_tasks h) (gone h),
      length-append (qs ++ ss) (open_tasks h),
      length-append qs ss,
    )

-- ---- the gone tasks

-- the gone tasks stay, in their order, and new ones come behind them
pub gone_grows : (h more : List Event) → (since : List ℕ) × (gone (h ++ more) ≡ gone h ++ since)
gone_grows h [] = ([], ap gone (append-nil h) ∙ sym (append-nil (gone h)))
gone_grows h (e ∷ more) =
    let rest = gone_grows (h ++ e ∷ []) more in
    let one = gone_more h e in (
      newly_gone (h ++ e ∷ []) (gone h) ++ rest.0,
      ap gone (sym (append_assoc h (e ∷ []) more)) ∙ rest.1 ∙ ap (λ (ts : List ℕ). ts ++ rest.0) one ∙ append_assoc (gone h) (newly_gone (h ++ e ∷ []) (gone h)) rest.0,
    )

-- ---- when a seal may be made

-- what holds where no refusal of a seal stands
pub record MaySeal (past : Past) : Type 0 where
  pub quiet : is_quiet past.pool.limits past.events ≡ true
  pub unshut : (is_closed past.events || is_stopped past.events) ≡ false
  pub few : length past.events + past.seals ≤ MAX_EVENTS_AND_SEALS

pub may_seal : (past : Past) → seal_refusal past ≡ None → MaySeal past
unfolding seal_refusal
may_seal past none =
    let tests = all_fail (seal_refusals past) none in
    record {
      quiet = not-false (is_quiet past.pool.limits past.events) tests.0;
      unshut = tests.1.0;
      few = ltb-false MAX_EVENTS_AND_SEALS (length past.events + past.seals) tests.1.1.0;
    }

-- what is known before each test
pub refused_busy : (past : Past) (b : Bool) → b ≡ is_quiet past.pool.limits past.events → b ≡ false → Some NotIdle ≡ seal_refusal past
unfolding seal_refusal
refused_busy past b is busy = rw (sym is ∙ busy) refl

pub refused_shut : (past : Past) (quiet shut : Bool) → quiet ≡ is_quiet past.pool.limits past.events → quiet ≡ true → shut ≡ (is_closed past.events || is_stopped past.events) → shut ≡ true
    → Some Closed ≡ seal_refusal past
unfolding seal_refusal
refused_shut past quiet shut is calm also closed = rw (sym is ∙ calm, sym also ∙ closed) refl

pub tested_worn : (past : Past) (quiet shut worn full : Bool) → quiet ≡ is_quiet past.pool.limits past.events → quiet ≡ true → shut ≡ (is_closed past.events || is_stopped past.events) → shut ≡ false
    → worn ≡ nat_lt MAX_EVENTS_AND_SEALS (length past.events + past.seals) → worn ≡ full → (if full then Some LogFull else None) ≡ seal_refusal past
unfolding seal_refusal
tested_worn past quiet shut worn full is calm also opened tested worn_is = rw (sym is ∙ calm, sym also ∙ opened, sym tested ∙ worn_is) refl

-- ---- runs with seals

-- a seal that was made, or refused, leads to a past of a run
pub seal_past : {T : Type 0} (r : Result T Refusal) (old new : Past) → IsPast old → OnOk r (seal_refusal old ≡ None) → OnOk r (new ≡ sealed_now old) → OnErr r (new ≡ old) → IsPast new
seal_past (Ok part) old new run may is same = past_more old move.Seal gives.Sealed new run (may, is)
seal_past (Err refusal) old new run may is same = subst IsPast (sym same) run
