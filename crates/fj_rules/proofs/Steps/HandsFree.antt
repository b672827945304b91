-- A hook that a step hands out goes to its worker, whose hand is empty.
use Rattle.std.proofs.Common.{ℕ, ◌≡◌, ◌<◌, Bool, true, false, ◌||◌, List, [], ◌∷◌, ◌++◌, length, drop, map, Option, Some, None, refl, ap, sym, ◌∙◌, arith, append_assoc}
use Rattle.std.specs.Prelude.{if◌then◌else◌, nat_le}
use Rattle.std.specs.List.{take_while}
use Rattle.std.proofs.lemmas.Bool.{eq-eqb, leb-false}
use Rattle.std.proofs.lemmas.List.{append-nil}
use Rattle.std.proofs.lemmas.List.Sums.{take_while-cons}
use Rattle.fj_rules.specs.declared.event.Event.{Event}
use Rattle.fj_rules.specs.declared.event.Event.TheVariants as event
use Rattle.fj_rules.specs.declared.event.How.{How}
use Rattle.fj_rules.specs.declared.event.How.TheVariants as how
use Rattle.fj_rules.specs.declared.status.Status.TheVariants as status_is
use Rattle.fj_rules.specs.declared.step.Ending.{Ending}
use Rattle.fj_rules.specs.declared.step.Ending.TheVariants.{Ok, Quiet, Try, Pass, Complete, Fail}
use Rattle.fj_rules.specs.declared.step.Step.{Step}
use Rattle.fj_rules.specs.declared.step.Step.TheVariants.{Submit, Fork, Trigger, Poll, Help, Join, End, HookDone, Add, QuietRoot, Fault, Cancel, Shutdown, Stop, IsQuiescent, State, Release}
use Rattle.fj_rules.specs.Bounds.{Pool}
use Rattle.fj_rules.specs.Tasks.{parent}
use Rattle.fj_rules.specs.Statuses.{status, is_undone}
use Rattle.fj_rules.specs.Hooks.{hooks, hand, receiver, completer_in, goes_to, HooksApart}
use Rattle.fj_rules.specs.Completers.{is_spent}
use Rattle.fj_rules.specs.Choices.{choice}
use Rattle.fj_rules.specs.Climbs.{Arrival, Spent, Counted, Early, Fires, arrival, does_fire, path, passed}
use Rattle.fj_rules.specs.Allowed.{is_closed, is_stopped, is_fired_by_complete}
use Rattle.fj_rules.specs.Follows.{HasHand}
use Rattle.fj_rules.specs.Headline.{fired}
use Rattle.fj_rules.specs.Answers.{events_of, taking, running, ending_events, after_end, arriving, settling, failing, pass_end, root_of, root_events, above_hook, hook_events}
use Rattle.fj_rules.proofs.Completers.HookLists.{hand_emptied, worker_found}
use Rattle.fj_rules.proofs.Events.Growth.{hooks_more}
use Rattle.fj_rules.proofs.Events.Hands.{hand_same}
use Rattle.fj_rules.proofs.Steps.Standing.{Stands, some_or_none}
use Rattle.fj_rules.proofs.Steps.StepsTell.{settled_silent, failing_silent, passes_silent}

-- each hook that these events hand out goes to a worker whose hand is empty
abbrev pub AllHaveHands : Pool → List Event → List Event → Type 0
AllHaveHands pool h [] = Unit {0}
AllHaveHands pool h (e ∷ later) = HasHand pool h e × AllHaveHands pool (h ++ e ∷ []) later

hands_append : (pool : Pool) (h xs ys : List Event) → AllHaveHands pool h xs → AllHaveHands pool (h ++ xs) ys → AllHaveHands pool h (xs ++ ys)
hands_append pool h [] ys low high = rw append-nil at high
hands_append pool h (x ∷ xs) ys low high = (low.0, hands_append pool (h ++ x ∷ []) xs ys low.1 (rw append_assoc high))

-- events that hand no hook out
hands_none : (pool : Pool) (h events : List Event) → fired events ≡ [] → AllHaveHands pool h events
unfolding fired
hands_none pool h [] none = tt
hands_none pool h (e ∷ events) none = front e none (λ rest. hands_none pool (h ++ e ∷ []) events rest)
  where
    front : (e : Event) → fired (e ∷ events) ≡ [] → (fired events ≡ [] → AllHaveHands pool (h ++ e ∷ []) events) → HasHand pool h e × AllHaveHands pool (h ++ e ∷ []) events
    front (event.Fire c how) none rest = absurd cc
    front _ none rest = (tt, rest none)

-- where the next hook of c goes: to this worker, whose hand is empty
record Goes (pool : Pool) (h : List Event) (c w : ℕ) : Type 0 where
  worker : w < pool.limits.workers
  to : goes_to h c ≡ Some w
  free : hand h w ≡ None

fire_hand : (pool : Pool) (h : List Event) (c w : ℕ) (k : How) → Goes pool h c w → AllHaveHands pool h (event.Fire c k ∷ [])
fire_hand pool h c w k goes = ((w, goes.worker, goes.to, goes.free), tt)

arriving_hand : (pool : Pool) (h : List Event) (c w : ℕ) (a : Arrival) → Goes pool h c w → AllHaveHands pool h (arriving c a)
arriving_hand pool h c w Spent goes = tt
arriving_hand pool h c w Counted goes = (tt, tt)
arriving_hand pool h c w Early goes = tt
arriving_hand pool h c w Fires goes = fire_hand pool h c w how.Zero goes

-- ---- the end of a body

-- the first member of a list that does not pass
while_stops : (p : ℕ → Bool) (xs : List ℕ) (c : ℕ) (above : List ℕ) → drop (length (take_while p xs)) xs ≡ c ∷ above → p c ≡ false
while_stops p [] c above is = absurd cc
while_stops p (x ∷ xs) c above is = go (p x) refl (rw take_while-cons at is) (while_stops p xs c above)
  where
    go : (b : Bool) → p x ≡ b → drop (length (if b then x ∷ take_while p xs else [])) (x ∷ xs) ≡ c ∷ above → (drop (length (take_while p xs)) xs ≡ c ∷ above → p c ≡ false) → p c ≡ false
    go true passes is rest = rest is
    go false stops is rest = let same : x ≡ c = cc in ap p (sym same) ∙ stops

-- an arrival that ends a climb hands no hook out
stopped_hand : (pool : Pool) (h after : List Event) (c : ℕ) (a : Arrival) → does_fire a ≡ false → AllHaveHands pool after (arriving c a)
stopped_hand pool h after c Spent stops = tt
stopped_hand pool h after c Counted stops = (tt, tt)
stopped_hand pool h after c Early stops = tt
stopped_hand pool h after c Fires stops = absurd cc

pass_hand : (pool : Pool) (h after : List Event) (t : ℕ) (rest : List ℕ) (root : Option ℕ) → drop (length (passed h t)) (path h t) ≡ rest → AllHaveHands pool after (pass_end h rest root)
unfolding passed
pass_hand pool h after t (c ∷ above) root is = stopped_hand pool h after c (arrival h c) (while_stops (λ d. does_fire (arrival h d)) (path h t) c above is)
pass_hand pool h after t [] None is = tt
pass_hand pool h after t [] (Some r) is = (tt, tt)

complete_hand : (pool : Pool) (h : List Event) (t w : ℕ) (b : Bool) → Goes pool h t w → AllHaveHands pool h (if b then [] else event.Fire t how.Complete ∷ [])
complete_hand pool h t w true goes = tt
complete_hand pool h t w false goes = fire_hand pool h t w how.Complete goes

after_hand : (pool : Pool) (h : List Event) (t w : ℕ) (ending : Ending) → Goes pool h t w → AllHaveHands pool h (after_end h t ending)
after_hand pool h t w Ok goes = hands_none pool h (settling h t status_is.Normal) (settled_silent (is_undone (status h t)) t status_is.Normal).fires
after_hand pool h t w Quiet goes = tt
after_hand pool h t w Try goes = arriving_hand pool h t w (arrival h t) goes
after_hand pool h t w Pass goes =
    let way = map event.Pass (passed h t) in
    hands_append pool h way (pass_end h (drop (length (passed h t)) (path h t)) (root_of (path h t))) (hands_none pool h way (passes_silent (passed h t)).fires)
    (pass_hand pool h (h ++ way) t (drop (length (passed h t)) (path h t)) (root_of (path h t)) refl)
after_hand pool h t w Complete goes = complete_hand pool h t w (is_spent h t) goes
after_hand pool h t w (Fail code) goes = hands_none pool h (failing h t code) (failing_silent h t code).fires

-- the body of t has just ended there
ended_goes : (pool : Pool) (h : List Event) (t w : ℕ) → w < pool.limits.workers → hand h w ≡ None → Goes pool (h ++ event.End t w ∷ []) t w
ended_goes pool h t w below free = record {
  worker = below;
  to = ap (λ s. receiver t s.just_ended s.last_worker) (hooks_more h (event.End t w)) ∙ rw (eq-eqb t t refl) refl;
  free = hand_same h (event.End t w) w refl ∙ free;
}

end_hand : (pool : Pool) (h : List Event) (w : ℕ) (ending : Ending) (t : Option ℕ) → w < pool.limits.workers → hand h w ≡ None → AllHaveHands pool h (ending_events h w ending t)
end_hand pool h w ending None below free = tt
end_hand pool h w ending (Some t) below free = (tt, after_hand pool (h ++ event.End t w ∷ []) t w ending (ended_goes pool h t w below free))

-- ---- the end of a hook

-- the hook of c has just ended there, and c may have become normal by it
hooked_goes : (pool : Pool) (h : List Event) (c p w : ℕ) → w < pool.limits.workers → hand h w ≡ Some c → HooksApart h → Goes pool (h ++ event.Hooked c ∷ []) p w
unfolding hand
hooked_goes pool h c p w below is apart = record {
  worker = below;
  to = ap (λ s. receiver p s.just_ended s.last_worker) (hooks_more h (event.Hooked c)) ∙ worker_found w c (hooks h).in_hands is (apart.completers c);
  free = ap (λ s. completer_in w s.in_hands) (hooks_more h (event.Hooked c)) ∙ hand_emptied w c (hooks h).in_hands is (apart.workers w);
}

settled_goes : (pool : Pool) (h : List Event) (c p w : ℕ) → (hooks h).just_ended ≡ None → Goes pool h p w → Goes pool (h ++ event.Settle c status_is.Normal ∷ []) p w
settled_goes pool h c p w none goes = record {
  worker = goes.worker;
  to = ap (λ s. receiver p s.just_ended s.last_worker) (hooks_more h (event.Settle c status_is.Normal)) ∙ sym (ap (λ ended. receiver p ended (hooks h).last_worker) none) ∙ goes.to;
  free = hand_same h (event.Settle c status_is.Normal) w refl ∙ goes.free;
}

above_hand : (pool : Pool) (h : List Event) (c w : ℕ) (p : Option ℕ) → ((q : ℕ) → Goes pool h q w) → AllHaveHands pool h (above_hook h c p)
above_hand pool h c w (Some p) goes = arriving_hand pool h p w (arrival h p) (goes p)
above_hand pool h c w None goes = hands_none pool h (settling h c status_is.Normal) (settled_silent (is_undone (status h c)) c status_is.Normal).fires

-- its own completion, and then what is above it
own_hand : (pool : Pool) (h : List Event) (c w : ℕ) (p : Option ℕ) (b : Bool) → (hooks h).just_ended ≡ None → ((q : ℕ) → Goes pool h q w)
    → AllHaveHands pool h ((if b then event.Settle c status_is.Normal ∷ [] else []) ++ above_hook (h ++ (if b then event.Settle c status_is.Normal ∷ [] else [])) c p)
own_hand pool h c w p true none goes = (tt, above_hand pool (h ++ event.Settle c status_is.Normal ∷ []) c w p (λ q. settled_goes pool h c q w none (goes q)))
own_hand pool h c w p false none goes = rw append-nil (above_hand pool h c w p goes)

own_settles : (f u : Bool) (c : ℕ) → (b : Bool) × ((if f then (if u then event.Settle c status_is.Normal ∷ [] else []) else []) ≡ (if b then event.Settle c status_is.Normal ∷ [] else []))
own_settles true u c = (u, refl)
own_settles false u c = (false, refl)

hook_hand : (pool : Pool) (h : List Event) (w : ℕ) (c : Option ℕ) → hand h w ≡ c → w < pool.limits.workers → HooksApart h → AllHaveHands pool h (hook_events h c)
hook_hand pool h w None is below apart = tt
hook_hand pool h w (Some c) is below apart =
    let ended = h ++ event.Hooked c ∷ [] in
    let own = own_settles (is_fired_by_complete ended c) (is_undone (status ended c)) c in (
      tt,
      rw own.1 (own_hand pool ended c w (parent h c) own.0 (ap (λ s. s.just_ended) (hooks_more h (event.Hooked c))) (λ q. hooked_goes pool h c q w below is apart)),
    )

-- ---- every step

taking_hand : (pool : Pool) (h : List Event) (w : ℕ) (t : Option ℕ) → AllHaveHands pool h (taking h w t)
taking_hand pool h w None = tt
taking_hand pool h w (Some t) = go (is_undone (status h t))
  where
    go : (b : Bool) → AllHaveHands pool h ((if b then event.Out t w else event.Skip t w) ∷ [])
    go true = (tt, tt)
    go false = (tt, tt)

join_hand : (pool : Pool) (h : List Event) (w : ℕ) (t : Option ℕ) (b : Bool) → AllHaveHands pool h (if b then taking h w t else [])
join_hand pool h w t true = taking_hand pool h w t
join_hand pool h w t false = tt

root_hand : (pool : Pool) (h : List Event) (r : Option ℕ) → AllHaveHands pool h (root_events h r)
root_hand pool h None = tt
root_hand pool h (Some r) = hands_none pool h (settling h r status_is.Normal) (settled_silent (is_undone (status h r)) r status_is.Normal).fires

shut_hand : (pool : Pool) (h : List Event) (b : Bool) (e : Event) → HasHand pool h e → AllHaveHands pool h (if b then [] else e ∷ [])
shut_hand pool h true e has = tt
shut_hand pool h false e has = (has, tt)

below_of : (n w : ℕ) → nat_le n w ≡ false → w < n
below_of n w is = omega (arith, leb-false n w is)

pub step_hands : (pool : Pool) (h : List Event) (asked : Step) → HooksApart h → Stands pool h asked → AllHaveHands pool h (events_of pool h asked)
unfolding events_of
step_hands pool h (Submit s k) apart st = (tt, tt)
step_hands pool h (Fork w k) apart st = (tt, tt)
step_hands pool h (Trigger w count) apart st = (tt, tt)
step_hands pool h (Poll w r) apart st = taking_hand pool h w (choice pool h w r)
step_hands pool h (Help w r) apart st = taking_hand pool h w (choice pool h w r)
step_hands pool h (Join w t r) apart st = join_hand pool h w (choice pool h w r) (is_undone (status h t))
step_hands pool h (End w ending) apart st = end_hand pool h w ending (running h w) (below_of pool.limits.workers w st.tests.0) (some_or_none (hand h w) st.tests.1.0)
step_hands pool h (HookDone w) apart st = hook_hand pool h w (hand h w) refl (below_of pool.limits.workers w st.tests.0) apart
step_hands pool h (Add w c n) apart st = (tt, tt)
step_hands pool h (QuietRoot w t) apart st = root_hand pool h (root_of (path h t))
step_hands pool h (Fault t code) apart st = hands_none pool h (failing h t code) (failing_silent h t code).fires
step_hands pool h (Cancel t) apart st = hands_none pool h (settling h t status_is.Cancelled) (settled_silent (is_undone (status h t)) t status_is.Cancelled).fires
step_hands pool h Shutdown apart st = shut_hand pool h (is_closed h || is_stopped h) event.Close tt
step_hands pool h Stop apart st = shut_hand pool h (is_stopped h) event.Stop tt
step_hands pool h IsQuiescent apart st = tt
step_hands pool h (State t) apart st = tt
step_hands pool h (Release t) apart st = (tt, tt)
