-- Steps of workers leave what submitters pushed, and whether it is closed or stopped.
use Rattle.std.proofs.Common.{ℕ, ◌≡◌, Bool, true, false, List, [], ◌∷◌, ◌++◌, map, drop, length, Option, Some, None, refl, ap, sym, ◌∙◌, subst}
use Rattle.std.specs.Prelude.{if◌then◌else◌, ◌||◌}
use Rattle.std.specs.List.{filter_map, list_any}
use Rattle.std.proofs.lemmas.List.{append-nil}
use Rattle.std.proofs.lemmas.List.Elements.{filter_map-append}
use Rattle.std.proofs.lemmas.List.Folds.{list_any-append}
use Rattle.std.proofs.lemmas.Bool.{or_parts}
use Rattle.fj_rules.specs.declared.event.Event.{Event}
use Rattle.fj_rules.specs.declared.event.Event.TheVariants as event
use Rattle.fj_rules.specs.declared.event.How.TheVariants as how
use Rattle.fj_rules.specs.declared.owner.Owner.TheVariants.{Sub, Work}
use Rattle.fj_rules.specs.declared.status.Status.{Status}
use Rattle.fj_rules.specs.declared.status.Status.TheVariants as status_is
use Rattle.fj_rules.specs.declared.step.Step.{Step}
use Rattle.fj_rules.specs.declared.step.Step.TheVariants as ask
use Rattle.fj_rules.specs.declared.step.Ending.{Ending}
use Rattle.fj_rules.specs.declared.step.Ending.TheVariants as ending_is
use Rattle.fj_rules.specs.declared.said.Said.{Said}
use Rattle.fj_rules.specs.declared.refusal.Refusal.{Refusal}
use Rattle.fj_rules.specs.Bounds.{Pool}
use Rattle.fj_rules.specs.Queues.{pushed, pushed_by}
use Rattle.fj_rules.specs.Statuses.{status, is_undone}
use Rattle.fj_rules.specs.Completers.{is_spent}
use Rattle.fj_rules.specs.Tasks.{parent}
use Rattle.fj_rules.specs.Hooks.{hand}
use Rattle.fj_rules.specs.Choices.{choice}
use Rattle.fj_rules.specs.Climbs.{Arrival, arrival, path, passed, relayed}
use Rattle.fj_rules.specs.Climbs as climb
use Rattle.fj_rules.specs.Allowed.{is_closed, is_stopped, is_close, is_stop, is_fired_by_complete}
use Rattle.fj_rules.specs.Answers.{answer, answer_of, events_of, refusal_of, running, taking, settling, settling_own, failing, arriving, pass_end, passing, after_end, ending_events, above_hook, hook_events, root_events, root_of}
use Rattle.fj_rules.specs.Pasts.{Past, grown}
use Rattle.fj_rules.specs.Runs.{Steps}
use Rattle.fj_rules.specs.Inside.{IsInside, is_outside_step}

-- whether the event is of submitters, or shuts
abbrev is_outside : Event → Bool
is_outside (event.Acc t (Sub s) k) = true
is_outside event.Close = true
is_outside event.Stop = true
is_outside _ = false

abbrev AreInside : List Event → Type 0
AreInside es = list_any is_outside es ≡ false

-- ---- events

both : (xs ys : List Event) → AreInside xs → AreInside ys → AreInside (xs ++ ys)
both xs ys left right = list_any-append is_outside xs ys ∙ rw (left, right) refl

taking_in : (h : List Event) (w : ℕ) (t : Option ℕ) → AreInside (taking h w t)
taking_in h w None = refl
taking_in h w (Some t) = go (is_undone (status h t))
  where
    go : (b : Bool) → AreInside ((if b then event.Out t w else event.Skip t w) ∷ [])
    go true = refl
    go false = refl

settling_in : (h : List Event) (t : ℕ) (s : Status) → AreInside (settling h t s)
settling_in h t s = go (is_undone (status h t))
  where
    go : (b : Bool) → AreInside (if b then event.Settle t s ∷ [] else [])
    go true = refl
    go false = refl

settles_in : (code : ℕ) (us : List ℕ) → AreInside (map (λ u. event.Settle u (status_is.Exceptional code)) us)
settles_in code [] = refl
settles_in code (u ∷ us) = settles_in code us

failing_in : (h : List Event) (t code : ℕ) → AreInside (failing h t code)
failing_in h t code = go (is_undone (status h t))
  where
    go : (b : Bool) → AreInside (if b then map (λ u. event.Settle u (status_is.Exceptional code)) (relayed h t) else [])
    go true = settles_in code (relayed h t)
    go false = refl

arriving_in : (c : ℕ) (a : Arrival) → AreInside (arriving c a)
arriving_in c climb.Spent = refl
arriving_in c climb.Counted = refl
arriving_in c climb.Early = refl
arriving_in c climb.Fires = refl

passes_in : (cs : List ℕ) → AreInside (map event.Pass cs)
passes_in [] = refl
passes_in (c ∷ cs) = passes_in cs

pass_end_in : (h : List Event) (above : List ℕ) (root : Option ℕ) → AreInside (pass_end h above root)
pass_end_in h (c ∷ above) root = arriving_in c (arrival h c)
pass_end_in h [] (Some c) = refl
pass_end_in h [] None = refl

passing_in : (h : List Event) (t : ℕ) → AreInside (passing h t)
passing_in h t = both (map event.Pass (passed h t)) _ (passes_in (passed h t)) (pass_end_in h (drop (length (passed h t)) (path h t)) (root_of (path h t)))

after_end_in : (h : List Event) (t : ℕ) (ending : Ending) → AreInside (after_end h t ending)
after_end_in h t ending_is.Ok = settling_in h t status_is.Normal
after_end_in h t ending_is.Quiet = refl
after_end_in h t ending_is.Try = arriving_in t (arrival h t)
after_end_in h t ending_is.Pass = passing_in h t
after_end_in h t ending_is.Complete = go (is_spent h t)
  where
    go : (b : Bool) → AreInside (if b then [] else event.Fire t how.Complete ∷ [])
    go true = refl
    go false = refl
after_end_in h t (ending_is.Fail code) = failing_in h t code

ending_in : (h : List Event) (w : ℕ) (ending : Ending) (t : Option ℕ) → AreInside (ending_events h w ending t)
ending_in h w ending None = refl
ending_in h w ending (Some t) = after_end_in (h ++ event.End t w ∷ []) t ending

settling_own_in : (h : List Event) (c : ℕ) → AreInside (settling_own h c)
settling_own_in h c = go (is_fired_by_complete h c)
  where
    go : (b : Bool) → AreInside (if b then settling h c status_is.Normal else [])
    go true = settling_in h c status_is.Normal
    go false = refl

above_hook_in : (h : List Event) (c : ℕ) (p : Option ℕ) → AreInside (above_hook h c p)
above_hook_in h c (Some p) = arriving_in p (arrival h p)
above_hook_in h c None = settling_in h c status_is.Normal

hook_in : (h : List Event) (c : Option ℕ) → AreInside (hook_events h c)
hook_in h None = refl
hook_in h (Some c) =
    let ended : List Event = h ++ event.Hooked c ∷ [] in
    both (settling_own ended c) _ (settling_own_in ended c) (above_hook_in (ended ++ settling_own ended c) c (parent h c))

root_in : (h : List Event) (root : Option ℕ) → AreInside (root_events h root)
root_in h None = refl
root_in h (Some root) = settling_in h root status_is.Normal

events_in : (pool : Pool) (h : List Event) (asked : Step) → is_outside_step asked ≡ false → AreInside (events_of pool h asked)
unfolding events_of
events_in pool h (ask.Submit s k) inside = absurd cc
events_in pool h (ask.Fork w k) inside = refl
events_in pool h (ask.Trigger w count) inside = refl
events_in pool h (ask.Poll w r) inside = taking_in h w (choice pool h w r)
events_in pool h (ask.Help w r) inside = taking_in h w (choice pool h w r)
events_in pool h (ask.Join w t r) inside = go (is_undone (status h t))
  where
    go : (b : Bool) → AreInside (if b then taking h w (choice pool h w r) else [])
    go true = taking_in h w (choice pool h w r)
    go false = refl
events_in pool h (ask.End w ending) inside = ending_in h w ending (running h w)
events_in pool h (ask.HookDone w) inside = hook_in h (hand h w)
events_in pool h (ask.Add w c n) inside = refl
events_in pool h (ask.QuietRoot w t) inside = root_in h (root_of (path h t))
events_in pool h (ask.Fault t code) inside = failing_in h t code
events_in pool h (ask.Cancel t) inside = settling_in h t status_is.Cancelled
events_in pool h ask.Shutdown inside = absurd cc
events_in pool h ask.Stop inside = absurd cc
events_in pool h ask.IsQuiescent inside = refl
events_in pool h (ask.State t) inside = refl
events_in pool h (ask.Release t) inside = refl

-- ---- what such events leave

one_pushed : (e : Event) (s : ℕ) → is_outside e ≡ false → pushed_by (Sub s) e ≡ None
one_pushed (event.Acc t (Sub u) k) s is = absurd cc
one_pushed (event.Acc t (Work w) k) s is = refl
one_pushed (event.Make t k) s is = refl
one_pushed (event.Out t w) s is = refl
one_pushed (event.Skip t w) s is = refl
one_pushed (event.End t w) s is = refl
one_pushed (event.Add c n) s is = refl
one_pushed (event.Dec c) s is = refl
one_pushed (event.Fire c how) s is = refl
one_pushed (event.Pass c) s is = refl
one_pushed (event.Hooked c) s is = refl
one_pushed (event.Settle t st) s is = refl
one_pushed event.Close s is = refl
one_pushed event.Stop s is = refl
one_pushed (event.Rel t) s is = refl

one_shut : (e : Event) → is_outside e ≡ false → (is_close e ≡ false) × (is_stop e ≡ false)
one_shut (event.Acc t o k) is = (refl, refl)
one_shut (event.Make t k) is = (refl, refl)
one_shut (event.Out t w) is = (refl, refl)
one_shut (event.Skip t w) is = (refl, refl)
one_shut (event.End t w) is = (refl, refl)
one_shut (event.Add c n) is = (refl, refl)
one_shut (event.Dec c) is = (refl, refl)
one_shut (event.Fire c how) is = (refl, refl)
one_shut (event.Pass c) is = (refl, refl)
one_shut (event.Hooked c) is = (refl, refl)
one_shut (event.Settle t st) is = (refl, refl)
one_shut event.Close is = absurd cc
one_shut event.Stop is = absurd cc
one_shut (event.Rel t) is = (refl, refl)

none_pushed : (es : List Event) (s : ℕ) → AreInside es → filter_map (pushed_by (Sub s)) es ≡ []
none_pushed [] s is = refl
none_pushed (e ∷ es) s is =
    let parts = or_parts (is_outside e) (list_any is_outside es) is in
    rw (one_pushed e s parts.0) (none_pushed es s parts.1)

none_close : (es : List Event) → AreInside es → list_any is_close es ≡ false
none_close [] is = refl
none_close (e ∷ es) is =
    let parts = or_parts (is_outside e) (list_any is_outside es) is in
    rw ((one_shut e parts.0).0) (none_close es parts.1)

none_stop : (es : List Event) → AreInside es → list_any is_stop es ≡ false
none_stop [] is = refl
none_stop (e ∷ es) is =
    let parts = or_parts (is_outside e) (list_any is_outside es) is in
    rw ((one_shut e parts.0).1) (none_stop es parts.1)

or_nothing : (b : Bool) → (b || false) ≡ b
or_nothing true = refl
or_nothing false = refl

pub events_inside : (past : Past) (es : List Event) → AreInside es → IsInside past (grown past es)
unfolding pushed is_closed is_stopped
events_inside past es is =
    record {
      pool = refl;
      pushes = λ s. filter_map-append (pushed_by (Sub s)) past.events es ∙ ap (λ ts. filter_map (pushed_by (Sub s)) past.events ++ ts) (none_pushed es s is) ∙ append-nil (filter_map (pushed_by (Sub s)) past.events);
      closed = list_any-append is_close past.events es ∙ ap (λ b. list_any is_close past.events || b) (none_close es is) ∙ or_nothing (list_any is_close past.events);
      stopped = list_any-append is_stop past.events es ∙ ap (λ b. list_any is_stop past.events || b) (none_stop es is) ∙ or_nothing (list_any is_stop past.events);
      sealed = refl;
      seals = refl;
    }

-- ---- steps

answer_in : (past : Past) (asked : Step) → is_outside_step asked ≡ false → AreInside (answer past asked).1
unfolding answer
answer_in past asked inside = go (refusal_of past asked)
  where
    go : (r : Option Refusal) → AreInside (answer_of past asked r).1
    go None = events_in past.pool past.events asked inside
    go (Some r) = refl

-- a step of a worker
pub step_inside : (past new : Past) (asked : Step) (reply : Said) → is_outside_step asked ≡ false → Steps past asked reply new → IsInside past new
step_inside past new asked reply inside step = subst (IsInside past) (sym step.1) (events_inside past (answer past asked).1 (answer_in past asked inside))

released_in : (ts : List ℕ) → AreInside (map event.Rel ts)
released_in [] = refl
released_in (t ∷ ts) = released_in ts

pub releases_inside : (past : Past) (ts : List ℕ) → IsInside past (grown past (map event.Rel ts))
releases_inside past ts = events_inside past (map event.Rel ts) (released_in ts)

pub same_inside : (past : Past) → IsInside past past
same_inside past = record { pool = refl; pushes = λ s. refl; closed = refl; stopped = refl; sealed = refl; seals = refl }

pub then_inside : (a b c : Past) → IsInside a b → IsInside b c → IsInside a c
then_inside a b c ab bc =
    record {
      pool = bc.pool ∙ ab.pool;
      pushes = λ s. bc.pushes s ∙ ab.pushes s;
      closed = bc.closed ∙ ab.closed;
      stopped = bc.stopped ∙ ab.stopped;
      sealed = bc.sealed ∙ ab.sealed;
      seals = bc.seals ∙ ab.seals;
    }
