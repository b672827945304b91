-- The end of a completion action that is in a worker's hand.
use Rattle.std.proofs.Common.{ℕ, ◌≡◌, ◌≢◌, ◌+◌, ◌≤◌, ◌<◌, Bool, true, false, ◌&&◌, List, [], ◌∷◌, ◌++◌, length, Some, None, refl, ap, sym, ◌∙◌, subst, arith}
use Rattle.std.specs.Prelude.{if◌then◌else◌}
use Rattle.std.specs.List.{list_any}
use Rattle.std.proofs.lemmas.Bool.{lt-leb, ne_eqb}
use Rattle.std.proofs.lemmas.List.{append-nil, length-append}
use Rattle.std.proofs.lemmas.List.Folds.{list_any-append}
use Rattle.fj_rules.specs.Pasts.{limit}
use Rattle.fj_rules.specs.declared.event.Event.{Event}
use Rattle.fj_rules.specs.declared.event.Event.TheVariants.{Hooked, Settle}
use Rattle.fj_rules.specs.declared.status.Status.TheVariants.{Normal}
use Rattle.fj_rules.specs.declared.refusal.Refusal.TheVariants.{LogFull}
use Rattle.fj_rules.specs.declared.said.Said.{Said}
use Rattle.fj_rules.specs.declared.said.Said.TheVariants as says
use Rattle.fj_rules.specs.declared.step.Step.TheVariants.{HookDone}
use Rattle.fj_rules.specs.Bounds.{Pool}
use Rattle.fj_rules.specs.Tasks.{is_completer, parent}
use Rattle.fj_rules.specs.Hooks.{hooks, hand, receiver, completer_in}
use Rattle.fj_rules.specs.Statuses.{status, is_undone}
use Rattle.fj_rules.specs.Climbs.{Arrival, Spent, Counted, Early, Fires, arrival}
use Rattle.fj_rules.specs.Allowed.{AllowedFrom, is_fired_by_complete, fires_by_complete}
use Rattle.fj_rules.specs.Answers.{first_that_stands, refusals_of, events_of, reply_of, hook_events, hook_done_says, settling, settling_own, arriving, arriving_says}
use Rattle.fj_rules.specs.Runs.{Past, Steps, grown}
use Rattle.fj_rules.proofs.Events.Growth.{hooks_more, or_false}
use Rattle.fj_rules.proofs.Events.Lawful.{allowed_more}
use Rattle.fj_rules.proofs.Events.Ends.{status_settle}
use Rattle.fj_rules.proofs.Events.Statuses.{status_same}
use Rattle.fj_rules.proofs.Events.KindsKept.{completer_same}
use Rattle.fj_rules.proofs.Completers.Parents.{parent_smaller, parent_completer}
use Rattle.fj_rules.proofs.Completers.Arrivals.{arrival_untouched}
use Rattle.fj_ledger.specs.Holds.{IsLawful}
use Rattle.fj_rules.proofs.Events.Hands.{hand_same}
use Rattle.fj_rules.proofs.Completers.HookLists.{hand_emptied, worker_found}
use Rattle.fj_machine.proofs.Outcomes.RoomTests.{grown_twice}
use Rattle.fj_machine.proofs.Outcomes.Stepping.{steps_full, steps_made, may_step}

-- ---- the step

-- nothing stands against it
hook_stands : (pool : Pool) (h : List Event) (w c : ℕ) → w < pool.limits.workers → hand h w ≡ Some c → first_that_stands (refusals_of pool h (HookDone w)) ≡ None
hook_stands pool h w c within is = rw (lt-leb pool.limits.workers w within, is) refl

hook_done_events : (pool : Pool) (h : List Event) (w c : ℕ) (events : List Event) → hand h w ≡ Some c → hook_events h (Some c) ≡ Hooked c ∷ events → events_of pool h (HookDone w) ≡ Hooked c ∷ events
unfolding events_of
hook_done_events pool h w c events is after = ap (hook_events h) is ∙ after

hook_done_reply : (pool : Pool) (h : List Event) (w c : ℕ) → hand h w ≡ Some c → reply_of pool h (HookDone w) ≡ hook_done_says h (Some c)
unfolding reply_of
hook_done_reply pool h w c is = ap (hook_done_says h) is

-- the events do not fit
pub hook_full : (now : Past) (w c : ℕ) (events : List Event) (n : ℕ) → w < now.pool.limits.workers → hand now.events w ≡ Some c → hook_events now.events (Some c) ≡ Hooked c ∷ events
    → 1 + length events ≡ n → limit now < length now.events + n → Steps now (HookDone w) (says.Refused LogFull) now
hook_full now w c events n within is after count over =
    steps_full now (HookDone w) (hook_stands now.pool now.events w c within is) (rw (hook_done_events now.pool now.events w c events is after) (omega (arith, count, over)))

-- the completion action ends, and then comes what follows
pub hook_made : (old new : Past) (w c : ℕ) (events : List Event) (reply : Said) (n : ℕ) → w < old.pool.limits.workers → hand old.events w ≡ Some c → hook_events old.events (Some c) ≡ Hooked c ∷ events
    → reply ≡ hook_done_says old.events (Some c) → 1 + length events ≡ n → length old.events + n ≤ limit old
    → new ≡ grown (grown old (Hooked c ∷ [])) events → Steps old (HookDone w) reply new
hook_made old new w c events reply n within is after said count fits are =
    steps_made old new (HookDone w) reply (hook_stands old.pool old.events w c within is)
    (rw (hook_done_events old.pool old.events w c events is after) (omega (arith, count, fits)))
    (said ∙ sym (hook_done_reply old.pool old.events w c is))
    (are ∙ grown_twice old (Hooked c ∷ []) events ∙ ap (grown old) (sym (hook_done_events old.pool old.events w c events is after)))

-- each of the events is allowed
pub may_hook : {most : ℕ} (pool : Pool) (h : List Event) (w c : ℕ) (events : List Event) → IsLawful pool most h → w < pool.limits.workers → hand h w ≡ Some c → hook_events h (Some c) ≡ Hooked c ∷ events
    → AllowedFrom pool (h ++ Hooked c ∷ []) events
may_hook pool h w c events law within is after =
    (subst (AllowedFrom pool h) (hook_done_events pool h w c events is after)
    (may_step pool h (HookDone w) law (hook_stands pool h w c within is))).1

-- ---- its completer

hooked_undone : (h : List Event) (c : ℕ) → is_undone (status (h ++ Hooked c ∷ []) c) ≡ is_undone (status h c)
hooked_undone h c = ap is_undone (status_same h (Hooked c) c (λ before. refl))

hooked_fired : (h : List Event) (c : ℕ) → is_fired_by_complete (h ++ Hooked c ∷ []) c ≡ is_fired_by_complete h c
unfolding is_fired_by_complete
hooked_fired h c = list_any-append (fires_by_complete c) h (Hooked c ∷ []) ∙ or_false (list_any (fires_by_complete c) h)

-- its own completion
abbrev pub own : ℕ → Bool → List Event
own c settles = if settles then Settle c Normal ∷ [] else []

own_is : (h : List Event) (c : ℕ) (settles : Bool) → (is_fired_by_complete h c && is_undone (status h c)) ≡ settles → settling_own (h ++ Hooked c ∷ []) c ≡ own c settles
own_is h c settles is = rw (hooked_fired h c, hooked_undone h c) (go (is_fired_by_complete h c) (is_undone (status h c)) is)
  where
    go : (f u : Bool) → (f && u) ≡ settles → (if f then (if u then Settle c Normal ∷ [] else []) else []) ≡ own c settles
    go true true same = rw (← same) refl
    go true false same = rw (← same) refl
    go false u same = rw (← same) refl

-- ---- without a parent

-- it becomes normal if it is undone, by which of the two rules ever
root_rest : (pool : Pool) (h : List Event) (c : ℕ) (fired undone : Bool) → AllowedFrom pool [] h → is_undone (status h c) ≡ undone
    → own c (fired && undone) ++ settling (h ++ own c (fired && undone)) c Normal ≡ own c undone
root_rest pool h c true true so is = let done = status_settle pool h c Normal so is in rw done refl
root_rest pool h c false true so is = rw (append-nil, is) refl
root_rest pool h c true false so is = rw (append-nil, is) refl
root_rest pool h c false false so is = rw (append-nil, is) refl

pub root_events : {most : ℕ} (pool : Pool) (h : List Event) (w c : ℕ) (undone : Bool) → IsLawful pool most h → hand h w ≡ Some c → parent h c ≡ None → is_undone (status h c) ≡ undone
    → hook_events h (Some c) ≡ Hooked c ∷ own c undone
root_events pool h w c undone law is root so =
    let ended = h ++ Hooked c ∷ [] in
    let owned : settling_own ended c ≡ own c (is_fired_by_complete h c && undone) = own_is h c _ (rw so refl) in
    rw (root, owned) (ap (λ (es : List Event). Hooked c ∷ es) (root_rest pool ended c (is_fired_by_complete h c) undone (allowed_more pool [] h (Hooked c) law.allowed (w, is)) (hooked_undone h c ∙ so)))

pub root_says : (h : List Event) (c : ℕ) (undone : Bool) → parent h c ≡ None → is_undone (status h c) ≡ undone → (if undone then says.Root c else says.Spent c) ≡ hook_done_says h (Some c)
root_says h c undone root so = rw (root, so) refl

pub own_count : (c n : ℕ) (settles : Bool) → n ≡ (if settles then 2 else 1) → 1 + length (own c settles) ≡ n
own_count c n true count = sym count
own_count c n false count = sym count

-- ---- with a parent

-- the parent is another task
parent_other : {most : ℕ} (pool : Pool) (h : List Event) (c p : ℕ) → IsLawful pool most h → parent h c ≡ Some p → c ≢ p
parent_other pool h c p law is same = omega (arith, parent_smaller pool h c p law.allowed is, same)

pub parent_is_completer : {most : ℕ} (pool : Pool) (h : List Event) (c p : ℕ) → IsLawful pool most h → parent h c ≡ Some p → is_completer h p ≡ true
parent_is_completer pool h c p law is = parent_completer pool h c p law.allowed is

-- the history after the end of the action, and after the completion of its own completer
abbrev pub past_own : List Event → ℕ → Bool → List Event
past_own h c settles = (h ++ Hooked c ∷ []) ++ own c settles

-- what holds with and without that completion
either_own : (P : List Event → Type 0) (h : List Event) (c : ℕ) (settles : Bool) → P (h ++ Hooked c ∷ []) → P ((h ++ Hooked c ∷ []) ++ Settle c Normal ∷ []) → P (past_own h c settles)
either_own P h c true ended settled = settled
either_own P h c false ended settled = subst P (sym (append-nil (h ++ Hooked c ∷ []))) ended

pub parent_still_completer : {most : ℕ} (pool : Pool) (h : List Event) (c p : ℕ) (settles : Bool) → IsLawful pool most h → parent h c ≡ Some p → is_completer (past_own h c settles) p ≡ true
parent_still_completer pool h c p settles law is =
    let ended = completer_same h (Hooked c) p refl ∙ parent_completer pool h c p law.allowed is in
    either_own (λ (g : List Event). is_completer g p ≡ true) h c settles ended (completer_same (h ++ Hooked c ∷ []) (Settle c Normal) p refl ∙ ended)

-- the worker's hand is empty, and the next hook goes to it
hooked_free : {most : ℕ} (pool : Pool) (h : List Event) (w c : ℕ) → IsLawful pool most h → hand h w ≡ Some c → hand (h ++ Hooked c ∷ []) w ≡ None
unfolding hand
hooked_free pool h w c law is = ap (λ s. completer_in w s.in_hands) (hooks_more h (Hooked c)) ∙ hand_emptied w c (hooks h).in_hands is (law.one_each w)

pub past_free : {most : ℕ} (pool : Pool) (h : List Event) (w c : ℕ) (settles : Bool) → IsLawful pool most h → hand h w ≡ Some c → hand (past_own h c settles) w ≡ None
past_free pool h w c settles law is =
    let ended = hooked_free pool h w c law is in
    either_own (λ (g : List Event). hand g w ≡ None) h c settles ended (hand_same (h ++ Hooked c ∷ []) (Settle c Normal) w refl ∙ ended)

hooked_given : {most : ℕ} (pool : Pool) (h : List Event) (w c : ℕ) → IsLawful pool most h → hand h w ≡ Some c → (hooks (h ++ Hooked c ∷ [])).last_worker ≡ Some w
unfolding hand
hooked_given pool h w c law is = ap (λ s. s.last_worker) (hooks_more h (Hooked c)) ∙ worker_found w c (hooks h).in_hands is (law.once c)

pub past_given : {most : ℕ} (pool : Pool) (h : List Event) (w c p : ℕ) (settles : Bool) → IsLawful pool most h → hand h w ≡ Some c
    → receiver p (hooks (past_own h c settles)).just_ended (hooks (past_own h c settles)).last_worker ≡ Some w
past_given pool h w c p settles law is =
    let ended = hooked_given pool h w c law is in
    either_own (λ (g : List Event). receiver p (hooks g).just_ended (hooks g).last_worker ≡ Some w) h c settles
    (ap (λ s. receiver p s.just_ended (hooks (h ++ Hooked c ∷ [])).last_worker) (hooks_more h (Hooked c)) ∙ ended)
    (ap (λ s. receiver p s.just_ended s.last_worker) (hooks_more (h ++ Hooked c ∷ []) (Settle c Normal)) ∙ ended)

-- the arrival at the parent is what it was before
pub parent_arrival : {most : ℕ} (pool : Pool) (h : List Event) (c p : ℕ) (settles : Bool) → IsLawful pool most h → parent h c ≡ Some p → arrival (past_own h c settles) p ≡ arrival h p
parent_arrival pool h c p settles law is =
    let ended = arrival_untouched h (Hooked c) p refl refl in
    either_own (λ (g : List Event). arrival g p ≡ arrival h p) h c settles ended (arrival_untouched (h ++ Hooked c ∷ []) (Settle c Normal) p refl (ne_eqb c p (parent_other pool h c p law is)) ∙ ended)

pub inner_events : {most : ℕ} (pool : Pool) (h : List Event) (c p : ℕ) (settles : Bool) → IsLawful pool most h → parent h c ≡ Some p → (is_fired_by_complete h c && is_undone (status h c)) ≡ settles
    → hook_events h (Some c) ≡ Hooked c ∷ (own c settles ++ arriving p (arrival h p))
inner_events pool h c p settles law is so = rw (is, own_is h c settles so, parent_arrival pool h c p settles law is) refl

pub inner_says : {most : ℕ} (pool : Pool) (h : List Event) (c p : ℕ) (settles : Bool) → IsLawful pool most h → parent h c ≡ Some p → (is_fired_by_complete h c && is_undone (status h c)) ≡ settles
    → arriving_says p (arrival h p) ≡ hook_done_says h (Some c)
inner_says pool h c p settles law is so = rw (is, own_is h c settles so, parent_arrival pool h c p settles law is) refl

pub arriving_count : (c d : ℕ) (a : Arrival) → length (arriving c a) ≡ length (arriving d a)
arriving_count c d Spent = refl
arriving_count c d Counted = refl
arriving_count c d Early = refl
arriving_count c d Fires = refl

pub inner_count : (c n m : ℕ) (settles : Bool) (events : List Event) → 1 + length (own c settles) ≡ n → length events ≡ m → 1 + length (own c settles ++ events) ≡ n + m
inner_count c n m settles events count more = omega (arith, length-append (own c settles) events, count, more)

pub past_fits : {most : ℕ} (pool : Pool) (h : List Event) (c p n m : ℕ) (settles : Bool) → IsLawful pool most h → parent h c ≡ Some p → 1 + length (own c settles) ≡ n → length (arriving p (arrival h p)) ≡ m
    → length h + (n + m) ≤ most → length (past_own h c settles) + length (arriving p (arrival (past_own h c settles) p)) ≤ most
past_fits pool h c p n m settles law is count more fits =
    rw (parent_arrival pool h c p settles law is)
    (omega (arith, length-append (h ++ Hooked c ∷ []) (own c settles), length-append h (Hooked c ∷ []), count, more, fits))
