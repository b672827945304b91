-- A hook ends, with its result.
use Rattle.std.proofs.Common.{ℕ, ◌≡◌, not, Bool, true, false, List, [], ◌∷◌, ◌++◌, length, map, drop, Option, Some, None, IsSome, refl, ap, sym, ◌∙◌, subst, append_assoc, ⊎_elim}
use Rattle.std.specs.Prelude.{if◌then◌else◌, ◌==◌, nat_lt, is_none, is_some}
use Rattle.std.specs.List.{list_all}
use Rattle.std.proofs.lemmas.Bool.{eqb-true, and_parts, true≢false}
use Rattle.std.proofs.lemmas.List.{append-nil}
use Rattle.fj_rules.specs.declared.event.Event.{Event}
use Rattle.fj_rules.specs.declared.event.Event.TheVariants as event
use Rattle.fj_rules.specs.declared.event.How.TheVariants as how_is
use Rattle.fj_rules.specs.declared.place.Place.{Place}
use Rattle.fj_rules.specs.declared.place.Place.TheVariants.{Queued, Held, Open, Gone}
use Rattle.fj_rules.specs.declared.status.Status.TheVariants as status_is
use Rattle.fj_rules.specs.declared.step.Step.TheVariants.{HookDone}
use Rattle.fj_rules.specs.declared.said.Said.{Said}
use Rattle.fj_rules.specs.declared.said.Said.TheVariants as says
use Rattle.fj_rules.specs.declared.refusal.Refusal.{Refusal}
use Rattle.fj_rules.specs.Bounds.{Pool}
use Rattle.fj_rules.specs.Lists.{is_in}
use Rattle.fj_rules.specs.Tasks.{tasks, released, parent, is_completer, is_kept}
use Rattle.fj_rules.specs.Statuses.{status, is_undone}
use Rattle.fj_rules.specs.Completers.{is_spent, pending}
use Rattle.fj_rules.specs.Hooks.{Hooks, hooks, hooks_after, hand as hook_of, completer_in, worker_in}
use Rattle.fj_rules.specs.Places.{place, is_gone, is_open}
use Rattle.fj_rules.specs.Climbs.{Arrival, arrival}
use Rattle.fj_rules.specs.Climbs as climb
use Rattle.fj_rules.specs.Allowed.{AllowedFrom, is_fired_by_complete}
use Rattle.fj_rules.specs.Answers.{answer, settling, settling_own, above_hook, hook_events, hook_says, hook_done_says, arriving, arriving_says, reply_of, events_of}
use Rattle.fj_rules.specs.Pasts.{Past, grown, gone_since}
use Rattle.fj_rules.specs.Runs.{Steps}
use Rattle.fj_rules.specs.Epochs.{IsPast}
use Rattle.fj_rules.proofs.Events.Growth.{hooks_more}
use Rattle.fj_rules.proofs.Events.KindsKept.{completer_known, completer_still}
use Rattle.fj_rules.proofs.Events.Spending.{spent_place, closed}
use Rattle.fj_rules.proofs.Places.PlaceLaws.{moves, none_accepted}
use Rattle.fj_rules.proofs.Completers.Parents.{parent_completer}
use Rattle.fj_rules.proofs.Completers.ArrivalPlaces.{arrival_at}
use Rattle.fj_rules.proofs.Completers.Climbed.{hand_climbed}
use Rattle.fj_rules.proofs.Steps.Standing.{stands, allowed_append}
use Rattle.fj_rules.proofs.Steps.AnswersAllowed.{history_allowed, answer_allowed, climbed_completer}
use Rattle.fj_rules.proofs.Completers.HookLists.{but, hand_after, hand_emptied, worker_found}
use Rattle.fj_rules.specs.Hooks.{HooksApart}
use Rattle.fj_slots.specs.Shelves.{Entries, without_entry, without_entries, entries}
use Rattle.fj_slots.specs.Hands.{HandState, with_hook, without_hook, hook_number}
use Rattle.fj_slots.proofs.Standing.{same_everywhere}
use Rattle.fj_body.specs.Fitting.{Fits}
use Rattle.fj_body.specs.Stores.{GivesNoMore, StoreState, has_body, HoldsBodies, IsStored, still_held, went}
use Rattle.fj_rules.specs.Releasable.{is_hooked}
use Rattle.fj_body.specs.Releases.{Releases}
use Rattle.fj_body.specs.Results.{Keeps}
use Rattle.fj_body.specs.Endings.{is_over}
use Rattle.fj_body.specs.HookEndings.{EndsHookOver, EndsHookInHook}
use Rattle.fj_body.proofs.Closes.{closes_all}
use Rattle.fj_body.proofs.Following.{is_rest, rest_unmoved, rest_released, unmoved_stacks, settling_rest}
use Rattle.fj_body.proofs.Given.{hook_ended, hook_none}
use Rattle.fj_body.proofs.InHands.{in_hand_hooked}
use Rattle.fj_rules.proofs.Steps.Answered.{Answered, Refuses, Makes, answered}
use Rattle.fj_body.proofs.Stored.{stored_on, kept_on}
use Rattle.fj_body.proofs.Sweeps.{went_by, unmoved_known, went_is, unmoved_bodies, went_shown}
use Rattle.fj_body.proofs.Taking.{released_fits}
use Rattle.fj_rules.proofs.Events.Releasable.{OnlyAbout}
use Rattle.fj_rules.proofs.Steps.AboutTasks.{hook_about}

-- ---- what follows the end of a hook

own_rest : (h : List Event) (c : ℕ) → list_all is_rest (settling_own h c) ≡ true
own_rest h c = go (is_fired_by_complete h c)
  where
    go : (b : Bool) → list_all is_rest (if b then settling h c status_is.Normal else []) ≡ true
    go true = settling_rest h c status_is.Normal
    go false = refl

rest_append : (xs ys : List Event) → list_all is_rest xs ≡ true → list_all is_rest ys ≡ true → list_all is_rest (xs ++ ys) ≡ true
rest_append [] ys all more = more
rest_append (x ∷ xs) ys all more = let parts = and_parts (is_rest x) (list_all is_rest xs) all in rw (parts.0, rest_append xs ys parts.1 more) refl

pub data HookGives (h : List Event) (w : ℕ) (reply : Said) (events : List Event) : Type 0 where
  HookFires : (c p : ℕ) (own : List Event) → hook_of h w ≡ Some c → parent h c ≡ Some p → list_all is_rest own ≡ true → reply ≡ says.Hook p
      → events ≡ (event.Hooked c ∷ own) ++ event.Fire p how_is.Zero ∷ [] → HookGives h w reply events
  HookIsOver : (c : ℕ) (rest : List Event) → hook_of h w ≡ Some c → is_over reply ≡ true → list_all is_rest rest ≡ true → events ≡ event.Hooked c ∷ rest → HookGives h w reply events
  HookRefused : (r : Refusal) → reply ≡ says.Refused r → events ≡ [] → HookGives h w reply events

hook_of_parent : (h h2 : List Event) (w c : ℕ) (own : List Event) (p : Option ℕ) → hook_of h w ≡ Some c → parent h c ≡ p → list_all is_rest own ≡ true
    → HookGives h w (hook_says h h2 c p) (event.Hooked c ∷ own ++ above_hook h2 c p)
hook_of_parent h h2 w c own None at up still =
    HookIsOver c (own ++ above_hook h2 c None) at (over (is_undone (status h c))) (rest_append own (above_hook h2 c None) still (settling_rest h2 c status_is.Normal)) refl
  where
    over : (b : Bool) → is_over (if b then says.Root c else says.Spent c) ≡ true
    over true = refl
    over false = refl
hook_of_parent h h2 w c own (Some p) at up still = go (arrival h2 p)
  where
    go : (a : Arrival) → HookGives h w (arriving_says p a) (event.Hooked c ∷ own ++ arriving p a)
    go climb.Spent = HookIsOver c (own ++ []) at refl (rest_append own [] still refl) refl
    go climb.Counted = HookIsOver c (own ++ event.Dec p ∷ []) at refl (rest_append own (event.Dec p ∷ []) still refl) refl
    go climb.Early = HookIsOver c (own ++ []) at refl (rest_append own [] still refl) refl
    go climb.Fires = HookFires c p own at up still refl refl

pub hook_gives : (past : Past) (w : ℕ) → HookGives past.events w (answer past (HookDone w)).0 (answer past (HookDone w)).1
unfolding reply_of events_of
hook_gives past w = go (answered past (HookDone w))
  where
    go : Answered past (HookDone w) (answer past (HookDone w)).0 (answer past (HookDone w)).1 → HookGives past.events w (answer past (HookDone w)).0 (answer past (HookDone w)).1
    go (Refuses r said none) = HookRefused r said none
    go (Makes none said made) = rw (said, made) (pick (hook_of past.events w) refl ((stands past (HookDone w) none).tests.1.0))
      where
        h : List Event
        h = past.events

        pick : (c : Option ℕ) → hook_of h w ≡ c → is_none c ≡ false → HookGives h w (hook_done_says h c) (hook_events h c)
        pick None at some = absurd cc
        pick (Some c) at some =
            let ended = h ++ event.Hooked c ∷ [] in
            hook_of_parent h (ended ++ settling_own ended c) w c (settling_own ended c) (parent h c) at refl (own_rest ended c)

-- ---- as a store reads it

pub record HookFired (h : List Event) (w p : ℕ) (events : List Event) : Type 0 where
  pub task : ℕ
  pub own : List Event
  pub hooked : hook_of h w ≡ Some task
  pub up : parent h task ≡ Some p
  pub still : list_all is_rest own ≡ true
  pub made : events ≡ (event.Hooked task ∷ own) ++ event.Fire p how_is.Zero ∷ []

pub record HookUnfired (h : List Event) (w : ℕ) (events : List Event) : Type 0 where
  pub task : ℕ
  pub rest : List Event
  pub hooked : hook_of h w ≡ Some task
  pub still : list_all is_rest rest ≡ true
  pub made : events ≡ event.Hooked task ∷ rest

pub hook_fired : (past : Past) (w p : ℕ) (reply : Said) → reply ≡ (answer past (HookDone w)).0 → reply ≡ says.Hook p → HookFired past.events w p (answer past (HookDone w)).1
hook_fired past w p reply is said = go (hook_gives past w)
  where
    hook_same : (a b : ℕ) → says.Hook a ≡ says.Hook b → a ≡ b
    hook_same a b same = cc

    differs : (a : ℕ) (r : Refusal) → says.Hook a ≡ says.Refused r → ⊥
    differs a r same = cc

    go : HookGives past.events w (answer past (HookDone w)).0 (answer past (HookDone w)).1 → HookFired past.events w p (answer past (HookDone w)).1
    go (HookFires c q own at up still fires made) =
        let same : q ≡ p = hook_same q p (sym fires ∙ sym is ∙ said) in
        record { task = c; own = own; hooked = at; up = up ∙ ap Some same; still = still; made = made ∙ ap (λ u. (event.Hooked c ∷ own) ++ event.Fire u how_is.Zero ∷ []) same }
    go (HookIsOver c rest at over still made) = absurd (true≢false (sym over ∙ ap is_over (sym is ∙ said)))
    go (HookRefused r refused none) = absurd (differs p r (sym said ∙ is ∙ refused))

pub hook_unfired : (past : Past) (w : ℕ) (reply : Said) → reply ≡ (answer past (HookDone w)).0 → ((c : ℕ) → reply ≡ says.Hook c → ⊥) → ((r : Refusal) → reply ≡ says.Refused r → ⊥)
    → HookUnfired past.events w (answer past (HookDone w)).1
hook_unfired past w reply is no_hook no_refusal = go (hook_gives past w)
  where
    go : HookGives past.events w (answer past (HookDone w)).0 (answer past (HookDone w)).1 → HookUnfired past.events w (answer past (HookDone w)).1
    go (HookFires c p own at up still fires made) = absurd (no_hook p (is ∙ fires))
    go (HookIsOver c rest at over still made) = record { task = c; rest = rest; hooked = at; still = still; made = made }
    go (HookRefused r refused none) = absurd (no_refusal r (is ∙ refused))

-- ---- the parent, where it fires

allowed_front : (pool : Pool) (h xs ys : List Event) → AllowedFrom pool h (xs ++ ys) → AllowedFrom pool h xs
allowed_front pool h [] ys so = tt
allowed_front pool h (x ∷ xs) ys so = (so.0, allowed_front pool (h ++ x ∷ []) xs ys so.1)

allowed_back : (pool : Pool) (h xs ys : List Event) → AllowedFrom pool h (xs ++ ys) → AllowedFrom pool (h ++ xs) ys
allowed_back pool h [] ys so = subst (λ (k : List Event). AllowedFrom pool k ys) (sym (append-nil h)) so
allowed_back pool h (x ∷ xs) ys so = subst (λ (k : List Event). AllowedFrom pool k ys) (append_assoc h (x ∷ []) xs) (allowed_back pool (h ++ x ∷ []) xs ys so.1)

flip : (b : Bool) → not b ≡ true → b ≡ false
flip true is = absurd cc
flip false is = refl

completers_same : (h es : List Event) (p : ℕ) → list_all (λ e. not (moves e)) es ≡ true → is_completer (h ++ es) p ≡ is_completer h p
completers_same h [] p all = ap (λ (k : List Event). is_completer k p) (append-nil h)
completers_same h (e ∷ es) p all =
    let parts = and_parts (not (moves e)) (list_all (λ e. not (moves e)) es) all in
    let none = none_accepted e (flip (moves e) parts.0) in
    ap (λ (k : List Event). is_completer k p) (sym (append_assoc h (e ∷ []) es)) ∙ completers_same (h ++ e ∷ []) es p parts.1 ∙ completer_still h e p (λ is. differs p (sym none ∙ is))
  where
    differs : (p : ℕ) → ◌≡◌ {A = Option ℕ} None (Some p) → ⊥
    differs p same = cc

pub record FiresAbove (h es : List Event) (p : ℕ) : Type 0 where
  pub known : is_in p (tasks h) ≡ true
  pub opened : place h p ≡ Open
  pub went_now : is_in p (went_by h es) ≡ true

-- what fires after events that move nothing was open before them, and went
fires_above : (pool : Pool) (h xs : List Event) (p : ℕ) → AllowedFrom pool [] h → AllowedFrom pool h (xs ++ event.Fire p how_is.Zero ∷ [])
    → list_all (λ e. not (moves e)) xs ≡ true → is_completer h p ≡ true
    → FiresAbove h (xs ++ event.Fire p how_is.Zero ∷ []) p
fires_above pool h xs p so all unmoved is = record {
  known = known;
  opened = opened;
  went_now = went_is pool h es p so so' same known (ap is_gone opened) ∙ ap is_gone after;
}
  where
    fire : Event
    fire = event.Fire p how_is.Zero

    es : List Event
    es = xs ++ fire ∷ []

    h2 : List Event
    h2 = h ++ xs

    front : AllowedFrom pool h xs
    front = allowed_front pool h xs (fire ∷ []) all

    back : AllowedFrom pool h2 (fire ∷ [])
    back = allowed_back pool h xs (fire ∷ []) all

    so2 : AllowedFrom pool [] h2
    so2 = allowed_append pool [] h xs so front

    so' : AllowedFrom pool [] (h ++ es)
    so' = allowed_append pool [] h es so all

    known : is_in p (tasks h) ≡ true
    known = completer_known h p is

    tasks2 : tasks h2 ≡ tasks h
    tasks2 = unmoved_known h xs unmoved

    same : tasks (h ++ es) ≡ tasks h
    same = ap tasks (sym (append_assoc h xs (fire ∷ []))) ∙ unmoved_known h2 (fire ∷ []) refl ∙ tasks2

    open2 : is_open (place h2 p) ≡ true
    open2 = go (is_spent h2 p) (nat_lt 0 (pending h2 p)) (is_open (place h2 p)) (sym (arrival_at pool h2 p so2 (completers_same h xs p unmoved ∙ is)) ∙ back.0)
      where
        go : (s n o : Bool) → (if s then climb.Spent else if n then climb.Counted else if o then climb.Fires else climb.Early) ≡ climb.Fires → o ≡ true
        go true n o is = absurd cc
        go false true o is = absurd cc
        go false false true is = refl
        go false false false is = absurd cc

    is_place : (q : Place) → is_open q ≡ true → q ≡ Open
    is_place Open is = refl
    is_place (Queued o) is = absurd cc
    is_place (Held v) is = absurd cc
    is_place Gone is = absurd cc

    opened : place h p ≡ Open
    opened = ⊎_elim (λ stays. sym stays ∙ is_place (place h2 p) open2) (λ went. went.0) (closes_all pool h xs p so front unmoved known)

    after : place (h ++ es) p ≡ Gone
    after =
        ap (λ (k : List Event). place k p) (sym (append_assoc h xs (fire ∷ [])))
        ∙ spent_place pool h2 fire p so2 back.0 refl (ap (is_in p) tasks2 ∙ known) ∙ ap closed (is_place (place h2 p) open2)

fired_unmoved : (c p : ℕ) (own : List Event) → list_all is_rest own ≡ true → list_all (λ e. not (moves e)) ((event.Hooked c ∷ own) ++ event.Fire p how_is.Zero ∷ []) ≡ true
fired_unmoved c p [] all = refl
fired_unmoved c p (e ∷ own) all =
    let parts = and_parts (not (moves e)) (list_all (λ e. not (moves e)) own) (rest_unmoved (e ∷ own) all) in
    rw parts.0 (fired_unmoved c p own ((and_parts (is_rest e) (list_all is_rest own) all).1))

fired_released : (c p : ℕ) (own : List Event) → list_all is_rest own ≡ true → released ((event.Hooked c ∷ own) ++ event.Fire p how_is.Zero ∷ []) ≡ []
unfolding released
fired_released c p own all = go own all
  where
    go : (own : List Event) → list_all is_rest own ≡ true → released (own ++ event.Fire p how_is.Zero ∷ []) ≡ []
    go [] all = refl
    go (event.Dec d ∷ own) all = go own all
    go (event.Pass d ∷ own) all = go own all
    go (event.Settle t s ∷ own) all = go own all
    go (_ ∷ own) all = absurd cc

unfired_released : (c : ℕ) (rest : List Event) → list_all is_rest rest ≡ true → released (event.Hooked c ∷ rest) ≡ []
unfolding released
unfired_released c rest all = rest_released rest all

pub parent_open : (past : Past) (w p : ℕ) → IsPast past → HookFired past.events w p (answer past (HookDone w)).1 → FiresAbove past.events (answer past (HookDone w)).1 p
parent_open past w p run fired =
    let h = past.events in
    let so = history_allowed past run in
    let all : AllowedFrom past.pool h ((event.Hooked fired.task ∷ fired.own) ++ event.Fire p how_is.Zero ∷ []) = rw fired.made at (answer_allowed past (HookDone w) run) in
    rw fired.made (fires_above past.pool h (event.Hooked fired.task ∷ fired.own) p so all (rest_unmoved fired.own fired.still) (parent_completer past.pool h fired.task p so fired.up))

-- its body is there
pub parent_there : {B R : Type 0} (past : Past) (w p : ℕ) (bodies : Entries B) (results : Entries R) (ts : List ℕ) → IsStored past bodies results ts
    → HookFired past.events w p (answer past (HookDone w)).1 → bodies p ≡ None → ⊥
unfolding has_body
parent_there past w p bodies results ts is fired none =
    let above = parent_open past w p is.run fired in
    true≢false (sym (is.bodies_held p ∙ rw (above.known, above.opened) refl) ∙ ap is_some none)

-- ---- a store

-- an entry that is dropped anyway may be taken out before
pub without_first : {T : Type 0} (all : Entries T) (ns : List ℕ) (p : ℕ) → is_in p ns ≡ true → without_entries (without_entry all p) ns ≡ without_entries all ns
without_first {T} all ns p there = same_everywhere (without_entries (without_entry all p) ns) (without_entries all ns) (λ u. go u (p == u) refl (is_in u ns) refl)
  where
    go : (u : ℕ) (b : Bool) → (p == u) ≡ b → (c : Bool) → is_in u ns ≡ c → (if c then None else (if b then None else all u)) ≡ (if c then None else all u)
    go u b at true is = refl
    go u false at false is = refl
    go u true at false is = absurd (true≢false (sym there ∙ ap (λ v. is_in v ns) (eqb-true p u at) ∙ is))

-- it is the same whether it is taken out before or after
pub without_after : {T : Type 0} (all : Entries T) (ns : List ℕ) (p : ℕ) → without_entries (without_entry all p) ns ≡ without_entry (without_entries all ns) p
without_after {T} all ns p = same_everywhere (without_entries (without_entry all p) ns) (without_entry (without_entries all ns) p) (λ u. go u (p == u) (is_in u ns))
  where
    go : (u : ℕ) (b c : Bool) → (if c then None else (if b then None else all u)) ≡ (if b then None else (if c then None else all u))
    go u true true = refl
    go u true false = refl
    go u false true = refl
    go u false false = refl

-- a step whose events move nothing and release nothing, and by which those bodies are dropped whose tasks went
still_stored : {B R : Type 0} (past new : Past) (w : ℕ) (es : List Event) (bodies bodies' : Entries B) (results : Entries R) (ts : List ℕ) → IsStored past bodies results ts
    → new ≡ grown past (answer past (HookDone w)).1
    → (answer past (HookDone w)).1 ≡ es → list_all (λ e. not (moves e)) es ≡ true → released es ≡ [] → bodies' ≡ without_entries bodies (went past new) → IsStored new bodies' results ts
still_stored {B} {R} past new w es bodies bodies' results ts is grew made unmoved none left =
    stored_on past new (HookDone w) es bodies bodies' results ts is grew made none
    (subst (λ (all : Entries B). HoldsBodies (past.events ++ es) all) (sym (left ∙ ap (λ (p : Past). without_entries bodies (went past p)) (grew ∙ ap (grown past) made)))
    (unmoved_bodies past.pool past.events es bodies (history_allowed past is.run) (rw made at (answer_allowed past (HookDone w) is.run)) unmoved is.bodies_held))

-- the bodies after the sweep
pub hook_swept : {B : Type 0} (past new : Past) (w before : ℕ) (all swept : Entries B) → IsPast past → new ≡ grown past (answer past (HookDone w)).1 → before ≡ length (gone_since past)
    → swept ≡ without_entries all (drop before (gone_since new)) → swept ≡ without_entries all (went past new)
hook_swept past new w before all swept run grew is left =
    left ∙ ap (λ n. without_entries all (drop n (gone_since new))) is ∙ ap (without_entries all) (went_shown past new (answer past (HookDone w)).1 grew run)

pub hook_fired_stored : {B R : Type 0} (past new : Past) (w p : ℕ) (bodies rest swept : Entries B) (results : Entries R) (ts : List ℕ) → IsStored past bodies results ts
    → HookFired past.events w p (answer past (HookDone w)).1 → new ≡ grown past (answer past (HookDone w)).1 → rest ≡ without_entry bodies p
    → swept ≡ without_entries rest (went past new) → IsStored new swept results ts
hook_fired_stored {B} past new w p bodies rest swept results ts is fired grew took left =
    still_stored past new w ((event.Hooked fired.task ∷ fired.own) ++ event.Fire p how_is.Zero ∷ []) bodies swept results ts is grew fired.made
    (fired_unmoved fired.task p fired.own fired.still)
    (fired_released fired.task p fired.own fired.still) (left ∙ ap (λ (all : Entries B). without_entries all (went past new)) took ∙ without_first bodies (went past new) p goes)
  where
    goes : is_in p (went past new) ≡ true
    goes = ap (λ (q : Past). is_in p (went past q)) grew ∙ (parent_open past w p is.run fired).went_now

pub hook_over_stored : {B R : Type 0} (past new : Past) (w : ℕ) (bodies swept : Entries B) (results : Entries R) (ts : List ℕ) → IsStored past bodies results ts
    → HookUnfired past.events w (answer past (HookDone w)).1 → new ≡ grown past (answer past (HookDone w)).1 → swept ≡ without_entries bodies (went past new) → IsStored new swept results ts
hook_over_stored past new w bodies swept results ts is over grew left =
    still_stored past new w (event.Hooked over.task ∷ over.rest) bodies swept results ts is grew over.made (rest_unmoved over.rest over.still)
    (unfired_released over.task over.rest over.still) left

-- the task of the hook is kept
hook_kept : {B R : Type 0} (past : Past) (w c : ℕ) (bodies : Entries B) (results : Entries R) (ts : List ℕ) → IsStored past bodies results ts → hook_of past.events w ≡ Some c
    → is_kept past.events c ≡ true
unfolding is_kept is_hooked
hook_kept past w c bodies results ts is at = rw known (go (is_in c (released past.events)) refl)
  where
    known : is_in c (tasks past.events) ≡ true
    known = completer_known past.events c (climbed_completer past c is.run (hand_climbed past.pool past.events w c (history_allowed past is.run) at))

    go : (b : Bool) → is_in c (released past.events) ≡ b → not b ≡ true
    go true there = absurd (is.hooks_kept c (in_hand_hooked past.events w c at) there)
    go false there = refl

-- the task under whose number the hand has its hook is that of the hook
in_hand : {B : Type 0} (past : Past) (hand : HandState B) (w c : ℕ) (body : B) → Fits past hand → w ≡ hand.worker → hand.hook ≡ Some (c, body) → hook_of past.events w ≡ Some c
in_hand past hand w c body fits same held = ap (hook_of past.events) same ∙ sym fits.hook ∙ ap hook_number held

-- it is the task whose completion action is there
pub hook_task : {B : Type 0} (past : Past) (hand : HandState B) (w c d : ℕ) (body : B) → Fits past hand → w ≡ hand.worker → hand.hook ≡ Some (c, body) → hook_of past.events w ≡ Some d → c ≡ d
hook_task past hand w c d body fits same held at = some_same (sym (in_hand past hand w c body fits same held) ∙ at)
  where
    some_same : {x y : ℕ} → ◌≡◌ {A = Option ℕ} (Some x) (Some y) → x ≡ y
    some_same is = cc

-- what its end is about
pub own_hook_about : {B R : Type 0} (past : Past) (hand : HandState B) (w c : ℕ) (body : B) (bodies : Entries B) (results : Entries R) (ts : List ℕ) → IsStored past bodies results ts → Fits past hand
    → w ≡ hand.worker → hand.hook ≡ Some (c, body) → OnlyAbout past.events c (answer past (HookDone w)).1
own_hook_about past hand w c body bodies results ts is fits same held =
    let at = in_hand past hand w c body fits same held in hook_about past w c (hook_kept past w c bodies results ts is at) at

-- it is kept on
pub hook_kept_fired : {B R : Type 0} (past new : Past) (hand : HandState B) (w p c : ℕ) (body : B) (bodies : Entries B) (results : Entries R) (ts : List ℕ)
    → IsStored past bodies results ts → Fits past hand → w ≡ hand.worker
    → hand.hook ≡ Some (c, body) → HookFired past.events w p (answer past (HookDone w)).1 → new ≡ grown past (answer past (HookDone w)).1 → is_kept new.events c ≡ true
hook_kept_fired past new hand w p c body bodies results ts is fits same held fired grew =
    rw (grew, fired.made)
    (kept_on past.events ((event.Hooked fired.task ∷ fired.own) ++ event.Fire p how_is.Zero ∷ []) c (fired_released fired.task p fired.own fired.still)
    (hook_kept past w c bodies results ts is (in_hand past hand w c body fits same held)))

pub hook_kept_over : {B R : Type 0} (past new : Past) (hand : HandState B) (w c : ℕ) (body : B) (bodies : Entries B) (results : Entries R) (ts : List ℕ)
    → IsStored past bodies results ts → Fits past hand → w ≡ hand.worker
    → hand.hook ≡ Some (c, body) → HookUnfired past.events w (answer past (HookDone w)).1 → new ≡ grown past (answer past (HookDone w)).1 → is_kept new.events c ≡ true
hook_kept_over past new hand w c body bodies results ts is fits same held over grew =
    rw (grew, over.made)
    (kept_on past.events (event.Hooked over.task ∷ over.rest) c (unfired_released over.task over.rest over.still)
    (hook_kept past w c bodies results ts is (in_hand past hand w c body fits same held)))

-- it gave none before, and gives none after it
pub hook_first : {B R : Type 0} (past : Past) (hand : HandState B) (w c : ℕ) (body : B) (bodies : Entries B) (results : Entries R) (ts : List ℕ) → IsStored past bodies results ts → Fits past hand → w ≡ hand.worker
    → hand.hook ≡ Some (c, body) → results c ≡ None
hook_first past hand w c body bodies results ts is fits same held = hook_none past w c bodies results ts is (in_hand past hand w c body fits same held)

pub hook_last : {B : Type 0} (past new : Past) (hand : HandState B) (w c d : ℕ) (body : B) (rest : List Event) → IsPast past → Fits past hand → w ≡ hand.worker → hand.hook ≡ Some (c, body)
    → hook_of past.events w ≡ Some d → (answer past (HookDone w)).1 ≡ event.Hooked d ∷ rest → new ≡ grown past (answer past (HookDone w)).1 → GivesNoMore new.events c
hook_last past new hand w c d body rest run fits same held at made grew =
    subst (λ (p : Past). GivesNoMore p.events c) (sym (grew ∙ ap (grown past) made))
    (subst (GivesNoMore (past.events ++ event.Hooked d ∷ rest)) (sym (hook_task past hand w c d body fits same held at)) (hook_ended past w d rest run at made))

-- ---- the hand

pub still_hooks : (h es : List Event) → list_all is_rest es ≡ true → (hooks h).just_ended ≡ None → hooks (h ++ es) ≡ hooks h
still_hooks h [] all none = ap hooks (append-nil h)
still_hooks h (e ∷ es) all none =
    let parts = and_parts (is_rest e) (list_all is_rest es) all in
    let one : hooks (h ++ e ∷ []) ≡ hooks h = hooks_more h e ∙ step e parts.0 (hooks h) none in
    ap hooks (sym (append_assoc h (e ∷ []) es)) ∙ still_hooks (h ++ e ∷ []) es parts.1 (ap (λ s. s.just_ended) one ∙ none) ∙ one
  where
    same : (s : Hooks) → s.just_ended ≡ None → record { in_hands = s.in_hands; just_ended = None; last_worker = s.last_worker } ≡ s
    same s none = ap (λ j. record { in_hands = s.in_hands; just_ended = j; last_worker = s.last_worker }) (sym none)

    step : (e : Event) → is_rest e ≡ true → (s : Hooks) → s.just_ended ≡ None → hooks_after s e ≡ s
    step (event.Dec c) is s none = same s none
    step (event.Pass c) is s none = same s none
    step (event.Settle t v) is s none = same s none
    step _ is s none = absurd cc

-- nothing is in this hand, and the newest hook to end was its
abbrev EndedLast : ℕ → Hooks → Type 0
EndedLast w s = (completer_in w s.in_hands ≡ None) × (s.just_ended ≡ None) × (s.last_worker ≡ Some w)

-- after the end of the hook in this hand, and what may follow: nothing is in it, and it ended last
after_hook : (h : List Event) (c w : ℕ) (own : List Event) → hook_of h w ≡ Some c → HooksApart h → list_all is_rest own ≡ true
    → EndedLast w (hooks (h ++ event.Hooked c ∷ own))
unfolding hook_of
after_hook h c w own at once still = rw all (hand_emptied w c (hooks h).in_hands at (once.workers w), refl, worker_found w c (hooks h).in_hands at (once.completers c))
  where
    h1 : List Event
    h1 = h ++ event.Hooked c ∷ []

    one : hooks h1 ≡ record { in_hands = but c (hooks h).in_hands; just_ended = None; last_worker = worker_in c (hooks h).in_hands }
    one = hooks_more h (event.Hooked c)

    all : hooks (h ++ event.Hooked c ∷ own) ≡ record { in_hands = but c (hooks h).in_hands; just_ended = None; last_worker = worker_in c (hooks h).in_hands }
    all = ap hooks (sym (append_assoc h (event.Hooked c ∷ []) own)) ∙ still_hooks h1 own still (ap (λ s. s.just_ended) one) ∙ one

hand_emptied_now : (h : List Event) (c w : ℕ) (own : List Event) → hook_of h w ≡ Some c → HooksApart h → list_all is_rest own ≡ true → hook_of (h ++ event.Hooked c ∷ own) w ≡ None
unfolding hook_of
hand_emptied_now h c w own at once still = (after_hook h c w own at once still).0

hand_given : (h : List Event) (c p w : ℕ) (own : List Event) → hook_of h w ≡ Some c → HooksApart h → list_all is_rest own ≡ true
    → hook_of (h ++ ((event.Hooked c ∷ own) ++ event.Fire p how_is.Zero ∷ [])) w ≡ Some p
unfolding hook_of
hand_given h c p w own at once still = ap (completer_in w) more ∙ hand_after w (hooks h2).in_hands (record { completer = p; worker = w }) after.0 refl
  where
    h2 : List Event
    h2 = h ++ event.Hooked c ∷ own

    after : EndedLast w (hooks h2)
    after = after_hook h c w own at once still

    fire : Event
    fire = event.Fire p how_is.Zero

    last : (hooks (h2 ++ fire ∷ [])).in_hands ≡ (hooks h2).in_hands ++ record { completer = p; worker = w } ∷ []
    last = ap (λ s. s.in_hands) (hooks_more h2 fire) ∙ given (hooks h2) after.1 after.2
      where
        given : (s : Hooks) → s.just_ended ≡ None → s.last_worker ≡ Some w → (hooks_after s fire).in_hands ≡ s.in_hands ++ record { completer = p; worker = w } ∷ []
        given s none is = rw (none, is) refl

    more : (hooks (h ++ ((event.Hooked c ∷ own) ++ fire ∷ []))).in_hands ≡ (hooks h2).in_hands ++ record { completer = p; worker = w } ∷ []
    more = subst (λ (k : List Event). (hooks k).in_hands ≡ (hooks h2).in_hands ++ record { completer = p; worker = w } ∷ []) (append_assoc h (event.Hooked c ∷ own) (fire ∷ [])) last

-- no hook came
pub hook_over_fits : {B : Type 0} (past past' past'' : Past) (hand hand' : HandState B) (w : ℕ) (events : List Event) (ts : List ℕ) → Fits past hand → w ≡ hand.worker
    → HooksApart past.events
    → hand' ≡ without_hook hand → past' ≡ grown past events → HookUnfired past.events w events → past'' ≡ grown past' (map event.Rel ts) → Fits past'' hand'
hook_over_fits past past' past'' hand hand' w events ts fits same once emptied grew over more =
    released_fits past' past'' hand' ts (rw (grew, over.made, emptied) (record {
      there = fits.there;
      bodies = fits.bodies ∙ sym (unmoved_stacks past.events (event.Hooked over.task ∷ over.rest) hand.worker (rest_unmoved over.rest over.still));
      hook = sym (rw same at (hand_emptied_now past.events over.task w over.rest over.hooked once over.still));
    })) more

-- the parent's hook came
pub hook_fired_fits : {B : Type 0} (past past' past'' : Past) (hand hand' : HandState B) (w p : ℕ) (body : B) (events : List Event) (ts : List ℕ) → Fits past hand
    → w ≡ hand.worker → HooksApart past.events
    → hand' ≡ with_hook hand p body → past' ≡ grown past events → HookFired past.events w p events → past'' ≡ grown past' (map event.Rel ts) → Fits past'' hand'
hook_fired_fits past past' past'' hand hand' w p body events ts fits same once given grew fired more =
    released_fits past' past'' hand' ts (rw (grew, fired.made, given) (record {
      there = fits.there;
      bodies = fits.bodies
          ∙ sym (unmoved_stacks past.events ((event.Hooked fired.task ∷ fired.own) ++ event.Fire p how_is.Zero ∷ []) hand.worker (fired_unmoved fired.task p fired.own fired.still));
      hook = sym (rw same at (hand_given past.events fired.task p w fired.own fired.hooked once fired.still));
    })) more

-- there is a hook in the hand
pub hook_in : {B : Type 0} (past : Past) (hand : HandState B) (w c : ℕ) → Fits past hand → w ≡ hand.worker → hook_of past.events w ≡ Some c → IsSome hand.hook
hook_in past hand w c fits same at = go hand.hook (fits.hook ∙ ap (hook_of past.events) (sym same) ∙ at)
  where
    go : {B : Type 0} (k : Option (ℕ × B)) → hook_number k ≡ Some c → IsSome k
    go None is = absurd cc
    go (Some k) is = refl

-- ---- what the contract says of it

module _ {B K O : Type 0} where
  pub hook_ends_over : (key_of : B → K) (old mid done new : StoreState B K O) (hand hand' : HandState B) (w t : ℕ) (body : B) (out : O) (reply : Said) → w ≡ hand.worker
      → Steps old.past (HookDone w) reply mid.past → is_over reply ≡ true
      → hand.hook ≡ Some (t, body) → hand' ≡ without_hook hand → mid ≡ record old { past = mid.past; bodies = mid.bodies } → entries mid.bodies ≡ still_held old mid.past
      → Keeps mid t (key_of body, out) done → Releases done new
      → EndsHookOver key_of old hand out new hand'
  hook_ends_over key_of old mid done new hand hand' w t body out reply same step over held emptied others swept kept releases = record {
    mid = mid;
    done = done;
    task = t;
    body = body;
    reply = reply;
    step = rw same at step;
    over = over;
    held = held;
    emptied = emptied;
    bodies = swept;
    others = others;
    kept = kept;
    releases = releases;
  }

  pub hook_ends_in_hook : (key_of : B → K) (old mid done new : StoreState B K O) (hand hand' : HandState B) (w p t : ℕ) (body above : B) (rest : Entries B) (out : O)
      → w ≡ hand.worker → Steps old.past (HookDone w) (says.Hook p) mid.past
      → hand.hook ≡ Some (t, body) → entries old.bodies p ≡ Some above → rest ≡ without_entry (entries old.bodies) p → hand' ≡ with_hook hand p above
      → mid ≡ record old { past = mid.past; bodies = mid.bodies }
      → entries mid.bodies ≡ without_entries rest (went old.past mid.past) → Keeps mid t (key_of body, out) done → Releases done new → EndsHookInHook key_of old hand out p t new hand'
  hook_ends_in_hook key_of old mid done new hand hand' w p t body above rest out same step held there took hooked others swept kept releases = record {
    mid = mid;
    done = done;
    body = body;
    above = above;
    step = rw same at step;
    held = held;
    there = there;
    hooked = hooked;
    bodies = swept ∙ ap (λ (all : Entries B). without_entries all (went old.past mid.past)) took ∙ without_after (entries old.bodies) (went old.past mid.past) p;
    others = others;
    kept = kept;
    releases = releases;
  }
