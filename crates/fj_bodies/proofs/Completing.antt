-- A body ends without a result.
use Rattle.std.proofs.Common.{ℕ, ◌≡◌, ◌≤◌, ◌<◌, not, Bool, true, false, List, [], ◌∷◌, ◌++◌, length, map, Option, Some, None, refl, ap, sym, ◌∙◌, subst, arith, append_assoc}
use Rattle.std.specs.List.{list_all}
use Rattle.std.specs.Prelude.{◌==◌, is_some}
use Rattle.std.proofs.lemmas.Bool.{eq-eqb, eqb-true, true≢false}
use Rattle.fj_rules.specs.declared.event.Event.{Event}
use Rattle.fj_rules.specs.declared.event.Event.TheVariants as event
use Rattle.fj_rules.specs.declared.event.How.{How}
use Rattle.fj_rules.specs.declared.step.Step.TheVariants.{End}
use Rattle.fj_rules.specs.declared.step.Ending.{Ending}
use Rattle.fj_rules.specs.declared.step.Ending.TheVariants.{Ok as EndOk}
use Rattle.fj_rules.specs.declared.status.Status.TheVariants.{Normal}
use Rattle.fj_rules.specs.declared.said.Said.{Said}
use Rattle.fj_rules.specs.declared.said.Said.TheVariants as says
use Rattle.fj_rules.specs.declared.refusal.Refusal.{Refusal}
use Rattle.fj_rules.specs.Bounds.{Pool}
use Rattle.fj_rules.specs.Lists.{is_empty, last_of}
use Rattle.fj_rules.specs.Tasks.{is_kept, released}
use Rattle.fj_rules.specs.Stacks.{stack}
use Rattle.fj_rules.specs.Hooks.{hooks, hooks_after, hand as hook_of, completer_in}
use Rattle.fj_rules.specs.Places.{place, is_gone}
use Rattle.fj_rules.specs.Allowed.{AllowedFrom}
use Rattle.fj_rules.specs.Answers.{answer, running, settling, after_end, end_says, ending_events, ending_says, reply_of, events_of}
use Rattle.fj_rules.specs.Epochs.{IsPast}
use Rattle.fj_rules.specs.Runs.{Past, Steps, grown}
use Rattle.fj_rules.proofs.Events.Growth.{hooks_more}
use Rattle.fj_rules.proofs.Events.Ends.{stack_end}
use Rattle.fj_rules.proofs.Events.Opening.{ended_held}
use Rattle.fj_rules.proofs.Places.PlaceLaws.{moves}
use Rattle.fj_rules.proofs.Places.KeptPlaces.{held_kept}
use Rattle.fj_rules.proofs.Steps.Standing.{stands, some_or_none}
use Rattle.fj_rules.proofs.Steps.AnswersAllowed.{history_allowed, answer_allowed}
use Rattle.fj_rules.proofs.Events.Hands.{hand_same}
use Rattle.fj_rules.proofs.Completers.HookLists.{hand_after}
use Rattle.fj_slots.specs.Aside.{numbers}
use Rattle.fj_slots.specs.Shelves.{Entries, is_there, with_entry, without_entries, entries, AreFewer}
use Rattle.fj_slots.specs.Hands.{HandState, HasOnTop, with_begun, with_hook}
use Rattle.fj_body.specs.Fitting.{Fits}
use Rattle.fj_body.specs.Stores.{StoreState, has_body, HoldsBodies, GivesNoMore, IsStored, still_held, went}
use Rattle.fj_body.specs.Releases.{Releases}
use Rattle.fj_body.specs.Endings.{is_over, EndsOver, EndsInHook}
use Rattle.fj_body.proofs.Bodies.{has_kept, fewer_kept}
use Rattle.fj_bodies.proofs.Ended.{IsEnd, own_free, others_wait, ended_out, ended_in, fired_gone}
use Rattle.fj_body.proofs.Given.{held_none, ok_given}
use Rattle.fj_body.proofs.Endings.{take_front, newest_is, last_filled}
use Rattle.fj_body.proofs.Following.{is_rest, rest_unmoved, rest_released, rest_hand, unmoved_stacks, AfterEnd, Fired, Unfired, after_ended}
use Rattle.fj_rules.proofs.Steps.RunsGrow.{history_more}
use Rattle.fj_rules.proofs.Steps.Answered.{Answered, Refuses, Makes, OkDone, answered, last_none}
use Rattle.fj_body.proofs.Stored.{stored_on, kept_on, numbers_more, numbers_long}
use Rattle.fj_body.proofs.Taking.{released_fits}

-- ---- the answer to an end

data EndGives (h : List Event) (w : ℕ) (reply : Said) (events : List Event) : Type 0 where
  EndFires : (t : ℕ) (how : How) → running h w ≡ Some t → hook_of h w ≡ None → reply ≡ says.Hook t → events ≡ event.End t w ∷ event.Fire t how ∷ [] → EndGives h w reply events
  EndIsOver : (t : ℕ) (rest : List Event) → running h w ≡ Some t → is_over reply ≡ true → list_all is_rest rest ≡ true → events ≡ event.End t w ∷ rest → EndGives h w reply events
  EndRefused : (r : Refusal) → reply ≡ says.Refused r → events ≡ [] → EndGives h w reply events

end_gives : (past : Past) (w : ℕ) (ending : Ending) → EndGives past.events w (answer past (End w ending)).0 (answer past (End w ending)).1
unfolding reply_of events_of
end_gives past w ending = go (answered past (End w ending))
  where
    h : List Event
    h = past.events

    go : Answered past (End w ending) (answer past (End w ending)).0 (answer past (End w ending)).1 → EndGives h w (answer past (End w ending)).0 (answer past (End w ending)).1
    go (Refuses r said none) = EndRefused r said none
    go (Makes none said made) = let st = (stands past (End w ending) none).tests in runs (running h w) refl said made (some_or_none (hook_of h w) st.1.0) st.1.1.0
      where
        runs : (t : Option ℕ) → running h w ≡ t → (answer past (End w ending)).0 ≡ ending_says h w ending (running h w) → (answer past (End w ending)).1 ≡ ending_events h w ending (running h w)
            → hook_of h w ≡ None → is_empty (stack h w) ≡ false → EndGives h w (answer past (End w ending)).0 (answer past (End w ending)).1
        runs None at said made free full = absurd (true≢false (sym (last_none (stack h w) at) ∙ full))
        runs (Some t) at said made free full = pick (after_ended (h ++ event.End t w ∷ []) t ending)
          where
            says_is : (answer past (End w ending)).0 ≡ end_says (h ++ event.End t w ∷ []) t ending
            says_is = said ∙ ap (ending_says h w ending) at

            made_is : (answer past (End w ending)).1 ≡ event.End t w ∷ after_end (h ++ event.End t w ∷ []) t ending
            made_is = made ∙ ap (ending_events h w ending) at

            pick : AfterEnd t (end_says (h ++ event.End t w ∷ []) t ending) (after_end (h ++ event.End t w ∷ []) t ending) → EndGives h w (answer past (End w ending)).0 (answer past (End w ending)).1
            pick (Fired how is gives) = EndFires t how at free (says_is ∙ is) (made_is ∙ ap (λ es. event.End t w ∷ es) gives)
            pick (Unfired over rest) = EndIsOver t (after_end (h ++ event.End t w ∷ []) t ending) at (ap is_over says_is ∙ over) rest made_is

-- the hook of the task that ended came
pub record EndsFired (h : List Event) (w c : ℕ) (events : List Event) : Type 0 where
  pub how : How
  pub runs : running h w ≡ Some c
  pub free : hook_of h w ≡ None
  pub made : events ≡ event.End c w ∷ event.Fire c how ∷ []

-- no hook came
pub record EndsUnfired (h : List Event) (w t : ℕ) (events : List Event) : Type 0 where
  pub rest : List Event
  pub runs : running h w ≡ Some t
  pub still : list_all is_rest rest ≡ true
  pub made : events ≡ event.End t w ∷ rest

pub end_fired : (past : Past) (w c : ℕ) (ending : Ending) (reply : Said) → reply ≡ (answer past (End w ending)).0 → reply ≡ says.Hook c → EndsFired past.events w c (answer past (End w ending)).1
end_fired past w c ending reply is said = go (end_gives past w ending)
  where
    hook_same : (a b : ℕ) → says.Hook a ≡ says.Hook b → a ≡ b
    hook_same a b same = cc

    differs : (a : ℕ) (r : Refusal) → says.Hook a ≡ says.Refused r → ⊥
    differs a r same = cc

    go : EndGives past.events w (answer past (End w ending)).0 (answer past (End w ending)).1 → EndsFired past.events w c (answer past (End w ending)).1
    go (EndFires t how runs free fires made) =
        let same : t ≡ c = hook_same t c (sym fires ∙ sym is ∙ said) in
        record { how = how; runs = runs ∙ ap Some same; free = free; made = made ∙ ap (λ u. event.End u w ∷ event.Fire u how ∷ []) same }
    go (EndIsOver t rest runs over still made) = absurd (true≢false (sym over ∙ ap is_over (sym is ∙ said)))
    go (EndRefused r refused none) = absurd (differs c r (sym said ∙ is ∙ refused))

pub not_over : (reply : Said) → ((c : ℕ) → reply ≡ says.Hook c → ⊥) → ((r : Refusal) → reply ≡ says.Refused r → ⊥) → is_over reply ≡ true
not_over (says.Hook c) no_hook no_refusal = absurd (no_hook c refl)
not_over (says.Refused r) no_hook no_refusal = absurd (no_refusal r refl)
not_over _ no_hook no_refusal = refl

pub end_unfired : (past : Past) (w : ℕ) (ending : Ending) (reply : Said) → reply ≡ (answer past (End w ending)).0 → ((c : ℕ) → reply ≡ says.Hook c → ⊥) → ((r : Refusal) → reply ≡ says.Refused r → ⊥)
    → (t : ℕ) × EndsUnfired past.events w t (answer past (End w ending)).1
end_unfired past w ending reply is no_hook no_refusal = go (end_gives past w ending)
  where
    go : EndGives past.events w (answer past (End w ending)).0 (answer past (End w ending)).1 → (t : ℕ) × EndsUnfired past.events w t (answer past (End w ending)).1
    go (EndFires t how runs free fires made) = absurd (no_hook t (is ∙ fires))
    go (EndIsOver t rest runs over still made) = (t, record { rest = rest; runs = runs; still = still; made = made })
    go (EndRefused r refused none) = absurd (no_refusal r (is ∙ refused))

-- it was not refused: a task ran
pub end_runs : (past : Past) (w : ℕ) (ending : Ending) (reply : Said) → reply ≡ (answer past (End w ending)).0 → ((r : Refusal) → reply ≡ says.Refused r → ⊥) → (t : ℕ) × (running past.events w ≡ Some t)
end_runs past w ending reply is no_refusal = go (end_gives past w ending)
  where
    go : EndGives past.events w (answer past (End w ending)).0 (answer past (End w ending)).1 → (t : ℕ) × (running past.events w ≡ Some t)
    go (EndFires t how runs free fires made) = (t, runs)
    go (EndIsOver t rest runs over still made) = (t, runs)
    go (EndRefused r refused none) = absurd (no_refusal r (is ∙ refused))

-- ---- the hand

-- the task that runs is on top of the hand
pub popped : {B : Type 0} (past : Past) (hand hand' : HandState B) (w t u : ℕ) (body : B) → Fits past hand → w ≡ hand.worker → HasOnTop hand hand' u body → running past.events w ≡ Some t → u ≡ t
popped past hand hand' w t u body fits same held runs =
    let stack_is : numbers hand'.stack ++ u ∷ [] ≡ stack past.events w = sym (numbers_more hand'.stack u body) ∙ ap (λ x. numbers x.stack) (sym held.1) ∙ fits.bodies ∙ ap (stack past.events) (sym same) in
    some_same (sym (newest_is (numbers hand'.stack) u) ∙ ap last_of stack_is ∙ runs)
  where
    some_same : {x y : ℕ} → ◌≡◌ {A = Option ℕ} (Some x) (Some y) → x ≡ y
    some_same is = cc

-- what is taken off the hand runs
pub popped_runs : {B : Type 0} (past : Past) (hand hand' : HandState B) (w u : ℕ) (body : B) → Fits past hand → w ≡ hand.worker → HasOnTop hand hand' u body → running past.events w ≡ Some u
popped_runs past hand hand' w u body fits same held =
    let stack_is : numbers hand'.stack ++ u ∷ [] ≡ stack past.events w = sym (numbers_more hand'.stack u body) ∙ ap (λ x. numbers x.stack) (sym held.1) ∙ fits.bodies ∙ ap (stack past.events) (sym same) in
    ap last_of (sym stack_is) ∙ newest_is (numbers hand'.stack) u

-- so it is the one that ended
pub popped_ends : {B : Type 0} (past : Past) (hand hand' : HandState B) (w u : ℕ) (body : B) (events : List Event) → Fits past hand → w ≡ hand.worker → HasOnTop hand hand' u body
    → (t : ℕ) × EndsUnfired past.events w t events → EndsUnfired past.events w u events
popped_ends past hand hand' w u body events fits same held (t, over) = subst (λ v. EndsUnfired past.events w v events) (sym (popped past hand hand' w t u body fits same held over.runs)) over

-- a plain task that ends with a result gave none before, and gives none after it
pub ok_first : {B R : Type 0} (past : Past) (hand hand' : HandState B) (w u : ℕ) (body : B) (bodies : Entries B) (results : Entries R) (ts : List ℕ) → IsStored past bodies results ts → Fits past hand → w ≡ hand.worker
    → HasOnTop hand hand' u body → OkDone past.events w (answer past (End w EndOk)).1 → results u ≡ None
ok_first past hand hand' w u body bodies results ts is fits same held done =
    let h = past.events in
    let at : u ≡ done.task = popped past hand hand' w done.task u body fits same held done.runs in
    let all : AllowedFrom past.pool h (event.End done.task w ∷ settling (h ++ event.End done.task w ∷ []) done.task Normal) = rw done.made at (answer_allowed past (End w EndOk) is.run) in
    ap results at ∙ held_none past w done.task bodies results ts is (ended_held past.pool h done.task w all.0) done.plain

pub ok_last : {B : Type 0} (past new : Past) (hand hand' : HandState B) (w u : ℕ) (body : B) → IsPast past → Fits past hand → w ≡ hand.worker
    → HasOnTop hand hand' u body → OkDone past.events w (answer past (End w EndOk)).1 → new ≡ grown past (answer past (End w EndOk)).1 → GivesNoMore new.events u
ok_last past new hand hand' w u body run fits same held done grew =
    let h = past.events in
    let at : u ≡ done.task = popped past hand hand' w done.task u body fits same held done.runs in
    let rest = settling (h ++ event.End done.task w ∷ []) done.task Normal in
    let all : AllowedFrom past.pool h (event.End done.task w ∷ rest) = rw done.made at (answer_allowed past (End w EndOk) run) in
    subst (λ (p : Past). GivesNoMore p.events u) (sym (grew ∙ ap (grown past) done.made))
    (subst (GivesNoMore (h ++ event.End done.task w ∷ rest)) (sym at) (ok_given past.pool h done.task w rest (history_allowed past run) all done.plain))

pub filled_hand : {B : Type 0} (past : Past) (hand : HandState B) (w t : ℕ) → Fits past hand → w ≡ hand.worker → running past.events w ≡ Some t → 0 < length hand.stack
filled_hand past hand w t fits same runs =
    let there : last_of (numbers hand.stack) ≡ Some t = rw fits.bodies (rw same at runs) in
    omega (arith, last_filled t (numbers hand.stack) there, numbers_long hand.stack)

ended_stack : (pool : Pool) (h : List Event) (t w u : ℕ) (rest : List Event) (xs : List ℕ) → AllowedFrom pool [] h → last_of (stack h w) ≡ Some t → stack h w ≡ xs ++ u ∷ [] → list_all (λ e. not (moves e)) rest ≡ true
    → stack (h ++ event.End t w ∷ rest) w ≡ xs
ended_stack pool h t w u rest xs so last parts unmoved =
    ap (λ (h : List Event). stack h w) (sym (append_assoc h (event.End t w ∷ []) rest))
    ∙ unmoved_stacks (h ++ event.End t w ∷ []) rest w unmoved ∙ stack_end pool h w t so last ∙ rw parts (take_front xs u)

-- no hook came
pub unfired_fits : {B : Type 0} (past past' past'' : Past) (hand hand' : HandState B) (w u : ℕ) (body : B) (events : List Event) (ts : List ℕ) → IsPast past → Fits past hand → w ≡ hand.worker
    → HasOnTop hand hand' u body → past' ≡ grown past events → EndsUnfired past.events w u events → past'' ≡ grown past' (map event.Rel ts) → Fits past'' hand'
unfired_fits past past' past'' hand hand' w u body events ts run fits same held grew over more =
    released_fits past' past'' hand' ts (rw (grew, over.made) (record {
      there = rw held.1 at fits.there;
      bodies = sym (rw (same, held.1) (ended_stack past.pool past.events u hand'.worker u over.rest (numbers hand'.stack) (history_allowed past run) (rw (same, held.1) at over.runs) stack_is (rest_unmoved over.rest over.still)));
      hook = (rw held.1 at fits.hook) ∙ sym (kept_hook hand'.worker);
    })) more
  where
    stack_is : stack past.events hand'.worker ≡ numbers hand'.stack ++ u ∷ []
    stack_is = sym (rw held.1 at fits.bodies) ∙ numbers_more hand'.stack u body

    kept_hook : (v : ℕ) → hook_of (past.events ++ event.End u w ∷ over.rest) v ≡ hook_of past.events v
    kept_hook v =
        ap (λ (h : List Event). hook_of h v) (sym (append_assoc past.events (event.End u w ∷ []) over.rest))
        ∙ rest_hand (past.events ++ event.End u w ∷ []) over.rest v over.still ∙ hand_same past.events (event.End u w) v refl

-- the hook that comes is in the hand
fired_hand : (h : List Event) (t w : ℕ) (how : How) → hook_of h w ≡ None → hook_of (h ++ event.End t w ∷ event.Fire t how ∷ []) w ≡ Some t
unfolding hook_of
fired_hand h t w how free = ap (completer_in w) more ∙ hand_after w (hooks h).in_hands (record { completer = t; worker = w }) free refl
  where
    h1 : List Event
    h1 = h ++ event.End t w ∷ []

    more : (hooks (h ++ event.End t w ∷ event.Fire t how ∷ [])).in_hands ≡ (hooks h).in_hands ++ record { completer = t; worker = w } ∷ []
    more =
        ap (λ (k : List Event). (hooks k).in_hands) (sym (append_assoc h (event.End t w ∷ []) (event.Fire t how ∷ [])))
        ∙ ap (λ s. s.in_hands) (hooks_more h1 (event.Fire t how) ∙ ap (λ s. hooks_after s (event.Fire t how)) (hooks_more h (event.End t w))) ∙ rw (eq-eqb t t refl) refl

pub fired_fits : {B : Type 0} (past past' past'' : Past) (hand rest hand' : HandState B) (w c u : ℕ) (body : B) (events : List Event) (ts : List ℕ) → IsPast past → Fits past hand → w ≡ hand.worker
    → HasOnTop hand rest u body → hand' ≡ with_hook rest u body → past' ≡ grown past events → EndsFired past.events w c events → past'' ≡ grown past' (map event.Rel ts) → Fits past'' hand'
fired_fits past past' past'' hand rest hand' w c u body events ts run fits same held hooked grew fired more =
    released_fits past' past'' hand' ts (rw (grew, fired.made, hooked) (record {
      there = rw held.1 at fits.there;
      bodies = sym (rw (same, held.1) (ended_stack past.pool past.events c rest.worker u (event.Fire c fired.how ∷ []) (numbers rest.stack) (history_allowed past run) (rw (same, held.1) at fired.runs) stack_is refl));
      hook = ap Some (popped past hand rest w c u body fits same held fired.runs) ∙ sym (rw (same, held.1) (fired_hand past.events c rest.worker fired.how (rw (same, held.1) at fired.free)));
    })) more
  where
    stack_is : stack past.events rest.worker ≡ numbers rest.stack ++ u ∷ []
    stack_is = sym (rw held.1 at fits.bodies) ∙ numbers_more rest.stack u body

-- ---- what holds of the store then

fired_end : (past : Past) (w c : ℕ) (ending : Ending) → IsPast past → (fired : EndsFired past.events w c (answer past (End w ending)).1) → IsEnd past.pool past.events c w (event.Fire c fired.how ∷ [])
fired_end past w c ending run fired = record { so = history_allowed past run; all = rw fired.made at (answer_allowed past (End w ending) run); unmoved = refl }

unfired_end : (past : Past) (w t : ℕ) (ending : Ending) → IsPast past → (over : EndsUnfired past.events w t (answer past (End w ending)).1) → IsEnd past.pool past.events t w over.rest
unfired_end past w t ending run over = record { so = history_allowed past run; all = rw over.made at (answer_allowed past (End w ending) run); unmoved = rest_unmoved over.rest over.still }

end_released : (t w : ℕ) (rest : List Event) → list_all is_rest rest ≡ true → released (event.End t w ∷ rest) ≡ []
unfolding released
end_released t w rest still = rest_released rest still

fire_released : (t w : ℕ) (how : How) → released (event.End t w ∷ event.Fire t how ∷ []) ≡ []
unfolding released
fire_released t w how = refl

went_since : {B : Type 0} (past new : Past) (es : List Event) (bodies bodies' : Entries B) → new ≡ grown past es → bodies' ≡ without_entries bodies (went past new) → without_entries bodies (went past (grown past es)) ≡ bodies'
went_since past new es bodies bodies' grew left = sym (left ∙ ap (λ (p : Past). without_entries bodies (went past p)) grew)

-- the hook came
pub fired_stored : {B R : Type 0} (past new : Past) (w c : ℕ) (ending : Ending) (bodies bodies' : Entries B) (results : Entries R) (ts : List ℕ) → IsStored past bodies results ts
    → EndsFired past.events w c (answer past (End w ending)).1 → new ≡ grown past (answer past (End w ending)).1 → bodies' ≡ without_entries bodies (went past new) → IsStored new bodies' results ts
fired_stored {B} {R} past new w c ending bodies bodies' results ts is fired grew left =
    let es = event.End c w ∷ event.Fire c fired.how ∷ [] in
    let end = fired_end past w c ending is.run fired in
    stored_on past new (End w ending) es bodies bodies' results ts is grew fired.made (fire_released c w fired.how)
    (subst (λ (all : Entries B). HoldsBodies (past.events ++ es) all) (went_since past new es bodies bodies' (grew ∙ ap (grown past) fired.made) left)
    (ended_out past.pool past.events c w (event.Fire c fired.how ∷ []) bodies end is.bodies_held (fired_gone past.pool past.events c w fired.how end)))

-- no hook came, and the task is gone
pub out_stored : {B R : Type 0} (past new : Past) (w t : ℕ) (ending : Ending) (bodies bodies' : Entries B) (results : Entries R) (ts : List ℕ) → IsStored past bodies results ts
    → EndsUnfired past.events w t (answer past (End w ending)).1 → new ≡ grown past (answer past (End w ending)).1 → bodies' ≡ without_entries bodies (went past new)
    → is_gone (place new.events t) ≡ true → IsStored new bodies' results ts
out_stored {B} {R} past new w t ending bodies bodies' results ts is over grew left gone =
    let es = event.End t w ∷ over.rest in
    let end = unfired_end past w t ending is.run over in
    let grew' : new ≡ grown past es = grew ∙ ap (grown past) over.made in
    stored_on past new (End w ending) es bodies bodies' results ts is grew over.made (end_released t w over.rest over.still)
    (subst (λ (all : Entries B). HoldsBodies (past.events ++ es) all) (went_since past new es bodies bodies' grew' left)
    (ended_out past.pool past.events t w over.rest bodies end is.bodies_held (ap (λ (p : Past). is_gone (place p.events t)) (sym grew') ∙ gone)))

-- no hook came, and the task is open: its body is put in
pub in_stored : {B R : Type 0} (past new : Past) (w t : ℕ) (ending : Ending) (bodies swept bodies' : Entries B) (body : B) (results : Entries R) (ts : List ℕ) → IsStored past bodies results ts
    → EndsUnfired past.events w t (answer past (End w ending)).1 → new ≡ grown past (answer past (End w ending)).1 → swept ≡ without_entries bodies (went past new)
    → is_gone (place new.events t) ≡ false → bodies' ≡ with_entry swept t body → IsStored new bodies' results ts
in_stored {B} {R} past new w t ending bodies swept bodies' body results ts is over grew left opened put =
    let es = event.End t w ∷ over.rest in
    let end = unfired_end past w t ending is.run over in
    let grew' : new ≡ grown past es = grew ∙ ap (grown past) over.made in
    stored_on past new (End w ending) es bodies bodies' results ts is grew over.made (end_released t w over.rest over.still)
    (subst (λ (all : Entries B). HoldsBodies (past.events ++ es) all)
    (ap (λ (all : Entries B). with_entry all t body) (went_since past new es bodies swept grew' left) ∙ sym put)
    (ended_in past.pool past.events t w over.rest bodies body end is.bodies_held (ap (λ (p : Past). is_gone (place p.events t)) (sym grew') ∙ opened)))

-- the task that ended is kept
pub end_kept : {B R : Type 0} (past new : Past) (w t : ℕ) (ending : Ending) (bodies : Entries B) (results : Entries R) (ts : List ℕ) → IsStored past bodies results ts
    → EndsUnfired past.events w t (answer past (End w ending)).1 → new ≡ grown past (answer past (End w ending)).1 → is_kept new.events t ≡ true
end_kept past new w t ending bodies results ts is over grew =
    let end = unfired_end past w t ending is.run over in
    let kept = held_kept past.pool past.events w t end.so (ended_held past.pool past.events t w end.all.0) in
    rw (grew ∙ ap (grown past) over.made) (kept_on past.events (event.End t w ∷ over.rest) t (end_released t w over.rest over.still) kept)

-- nothing stands under its number
pub end_free : {B R : Type 0} (past new : Past) (w t : ℕ) (ending : Ending) (bodies swept : Entries B) (results : Entries R) (ts : List ℕ) → IsStored past bodies results ts
    → EndsUnfired past.events w t (answer past (End w ending)).1 → swept ≡ without_entries bodies (went past new) → swept t ≡ None
end_free past new w t ending bodies swept results ts is over left =
    ap (λ all. all t) left ∙ own_free past.pool past.events t w over.rest bodies (went past new) (unfired_end past w t ending is.run over) is.bodies_held

-- what stands there is the body of a task that waits
end_waits : {B R : Type 0} (past new : Past) (w t u : ℕ) (ending : Ending) (bodies swept : Entries B) (results : Entries R) (ts : List ℕ) → IsStored past bodies results ts
    → (over : EndsUnfired past.events w t (answer past (End w ending)).1) → new ≡ grown past (event.End t w ∷ over.rest) → swept ≡ without_entries bodies (went past new) → swept t ≡ None
    → is_there swept u ≡ true → has_body (past.events ++ event.End t w ∷ over.rest) u ≡ true
end_waits past new w t u ending bodies swept results ts is over grew left free there = go (t == u) refl
  where
    go : (b : Bool) → (t == u) ≡ b → has_body (past.events ++ event.End t w ∷ over.rest) u ≡ true
    go true at = absurd (true≢false (sym there ∙ ap (is_there swept) (sym (eqb-true t u at)) ∙ ap is_some free))
    go false at =
        sym (others_wait past.pool past.events t w over.rest bodies (unfired_end past w t ending is.run over) is.bodies_held u at)
        ∙ ap (λ all. is_there all u) (went_since past new (event.End t w ∷ over.rest) bodies swept grew left) ∙ there

-- and there is room for its body
pub end_room : {B R : Type 0} (past new : Past) (w t room : ℕ) (ending : Ending) (bodies swept : Entries B) (results : Entries R) (ts : List ℕ) → IsStored past bodies results ts
    → EndsUnfired past.events w t (answer past (End w ending)).1 → new ≡ grown past (answer past (End w ending)).1 → swept ≡ without_entries bodies (went past new) → past.pool.limits.tasks ≤ room
    → AreFewer swept room
end_room {B} {R} past new w t room ending bodies swept results ts is over grew left within =
    let es = event.End t w ∷ over.rest in
    let grew' : new ≡ grown past es = grew ∙ ap (grown past) over.made in
    let run : IsPast (grown past es) = subst (λ (es : List Event). IsPast (grown past es)) over.made (history_more past (End w ending) is.run) in
    let so = history_allowed (grown past es) run in
    let free = end_free past new w t ending bodies swept results ts is over left in
    fewer_kept past.pool (past.events ++ es) swept t room so
    (λ u there. has_kept past.pool (past.events ++ es) u so (end_waits past new w t u ending bodies swept results ts is over grew' left free there))
    (ap (λ (p : Past). is_kept p.events t) (sym grew') ∙ end_kept past new w t ending bodies results ts is over grew) free within

-- ---- what the contract says of it

module _ {B K O : Type 0} where
  pub ends_over_out : (old mid new : StoreState B K O) (hand hand' : HandState B) (w t : ℕ) (ending : Ending) (body : B) (reply : Said) → w ≡ hand.worker → Steps old.past (End w ending) reply mid.past → is_over reply ≡ true
      → HasOnTop hand hand' t body → is_gone (place mid.past.events t) ≡ true → mid ≡ record old { past = mid.past; bodies = mid.bodies } → entries mid.bodies ≡ still_held old mid.past → Releases mid new
      → EndsOver old hand ending (Some body) new hand'
  ends_over_out old mid new hand hand' w t ending body reply same step over held gone others swept releases = record {
    mid = mid;
    task = t;
    body = body;
    reply = reply;
    step = rw same at step;
    over = over;
    held = held;
    goes = (gone, refl, swept, others);
    releases = releases;
  }

  pub ends_over_in : (old mid new : StoreState B K O) (hand hand' : HandState B) (w t : ℕ) (ending : Ending) (body : B) (reply : Said) (swept : Entries B) → w ≡ hand.worker → Steps old.past (End w ending) reply mid.past → is_over reply ≡ true
      → HasOnTop hand hand' t body → is_gone (place mid.past.events t) ≡ false → mid ≡ record old { past = mid.past; bodies = mid.bodies } → swept ≡ still_held old mid.past → entries mid.bodies ≡ with_entry swept t body
      → Releases mid new → EndsOver old hand ending None new hand'
  ends_over_in old mid new hand hand' w t ending body reply swept same step over held opened others left put releases = record {
    mid = mid;
    task = t;
    body = body;
    reply = reply;
    step = rw same at step;
    over = over;
    held = held;
    goes = (opened, put ∙ ap (λ all. with_entry all t body) left, others);
    releases = releases;
  }

  pub ends_in_hook : (old mid new : StoreState B K O) (hand rest hand' : HandState B) (w t c : ℕ) (ending : Ending) (body : B) → w ≡ hand.worker → t ≡ c → Steps old.past (End w ending) (says.Hook c) mid.past
      → HasOnTop hand rest t body → hand' ≡ with_hook rest t body → mid ≡ record old { past = mid.past; bodies = mid.bodies } → entries mid.bodies ≡ still_held old mid.past → Releases mid new
      → EndsInHook old hand ending c new hand'
  ends_in_hook old mid new hand rest hand' w t c ending body same one step held hooked others swept releases = record {
    mid = mid;
    rest = rest;
    body = body;
    step = rw same at step;
    held = (held.0, held.1 ∙ ap (λ u. with_begun rest u body held.0) one);
    hooked = hooked ∙ ap (λ u. with_hook rest u body) one;
    bodies = swept;
    others = others;
    releases = releases;
  }
