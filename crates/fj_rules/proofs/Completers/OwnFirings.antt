-- A completer is fired by Complete only where the ending Complete of its own body asks for it.
use Rattle.std.proofs.Common.{ℕ, ◌≡◌, ◌<◌, Bool, true, false, ◌||◌, List, [], ◌∷◌, ◌++◌, length, drop, map, Option, Some, None, refl, ap, sym, ◌∙◌, zero, suc, arith, ⊎_elim}
use Rattle.std.specs.Prelude.{◌==◌, if◌then◌else◌, slice_index_or}
use Rattle.std.specs.List.{list_any}
use Rattle.std.proofs.lemmas.List.Folds.{list_any-append}
use Rattle.std.proofs.lemmas.Bool.{eqb-true, eq-eqb, or_cases, or_right, true≢false}
use Rattle.fj_rules.specs.declared.event.Event.{Event}
use Rattle.fj_rules.specs.declared.event.Event.TheVariants as event
use Rattle.fj_rules.specs.declared.event.Event.TheVariants.{Fire}
use Rattle.fj_rules.specs.declared.event.How.TheVariants as how
use Rattle.fj_rules.specs.declared.status.Status.{Status}
use Rattle.fj_rules.specs.declared.status.Status.TheVariants as status_is
use Rattle.fj_rules.specs.declared.step.Ending.{Ending}
use Rattle.fj_rules.specs.declared.step.Ending.TheVariants.{Ok, Quiet, Try, Pass, Complete, Fail}
use Rattle.fj_rules.specs.declared.step.Step.{Step}
use Rattle.fj_rules.specs.declared.step.Step.TheVariants.{Submit, Fork, Trigger, Poll, Help, Join, End, HookDone, Add, QuietRoot, Fault, Cancel, Shutdown, Stop, IsQuiescent, State, Release}
use Rattle.fj_rules.specs.declared.refusal.Refusal.{Refusal}
use Rattle.fj_rules.specs.Bounds.{Pool}
use Rattle.fj_rules.specs.Tasks.{parent}
use Rattle.fj_rules.specs.Statuses.{status, is_undone}
use Rattle.fj_rules.specs.Hooks.{hand}
use Rattle.fj_rules.specs.Completers.{is_spent}
use Rattle.fj_rules.specs.Choices.{choice}
use Rattle.fj_rules.specs.Climbs.{Arrival, Spent, Counted, Early, Fires, arrival, path, passed, relayed}
use Rattle.fj_rules.specs.Allowed.{is_closed, is_stopped, is_fired_by_complete, fires_by_complete}
use Rattle.fj_rules.specs.Answers.{answer, answer_of, refusal_of, events_of, taking, running, ending_events, after_end, arriving, settling, settling_own, failing, passing, pass_end, root_of, root_events, above_hook, hook_events}
use Rattle.fj_rules.specs.Headline.{FiresByCompleteOnlyOwn}

-- none of the events fires a completer by Complete
record IsPlain (events : List Event) : Type 0 where
  none : (c : ℕ) → list_any (fires_by_complete c) events ≡ false

nothing : IsPlain []
nothing = record { none = λ c. refl }

both : (xs ys : List Event) → IsPlain xs → IsPlain ys → IsPlain (xs ++ ys)
both xs ys first second = record { none = λ c. list_any-append (fires_by_complete c) xs ys ∙ rw (first.none c, second.none c) refl }

taking_plain : (h : List Event) (w : ℕ) (t : Option ℕ) → IsPlain (taking h w t)
taking_plain h w None = nothing
taking_plain h w (Some t) = go (is_undone (status h t))
  where
    go : (b : Bool) → IsPlain ((if b then event.Out t w else event.Skip t w) ∷ [])
    go true = record { none = λ c. refl }
    go false = record { none = λ c. refl }

settled_plain : (b : Bool) (t : ℕ) (s : Status) → IsPlain (if b then event.Settle t s ∷ [] else [])
settled_plain true t s = record { none = λ c. refl }
settled_plain false t s = nothing

settles_plain : (us : List ℕ) (s : Status) → IsPlain (map (λ u. event.Settle u s) us)
settles_plain [] s = nothing
settles_plain (u ∷ us) s = record { none = (settles_plain us s).none }

failing_plain : (h : List Event) (t code : ℕ) → IsPlain (failing h t code)
failing_plain h t code = go (is_undone (status h t))
  where
    go : (b : Bool) → IsPlain (if b then map (λ u. event.Settle u (status_is.Exceptional code)) (relayed h t) else [])
    go true = settles_plain (relayed h t) (status_is.Exceptional code)
    go false = nothing

arriving_plain : (c : ℕ) (a : Arrival) → IsPlain (arriving c a)
arriving_plain c Spent = nothing
arriving_plain c Counted = record { none = λ d. refl }
arriving_plain c Early = nothing
arriving_plain c Fires = record { none = λ d. refl }

passes_plain : (ds : List ℕ) → IsPlain (map event.Pass ds)
passes_plain [] = nothing
passes_plain (d ∷ ds) = record { none = (passes_plain ds).none }

pass_end_plain : (h : List Event) (rest : List ℕ) (root : Option ℕ) → IsPlain (pass_end h rest root)
pass_end_plain h (c ∷ above) root = arriving_plain c (arrival h c)
pass_end_plain h [] (Some r) = record { none = λ c. refl }
pass_end_plain h [] None = nothing

passing_plain : (h : List Event) (t : ℕ) → IsPlain (passing h t)
passing_plain h t =
    let rest = drop (length (passed h t)) (path h t) in
    both (map event.Pass (passed h t)) (pass_end h rest (root_of (path h t))) (passes_plain (passed h t)) (pass_end_plain h rest (root_of (path h t)))

own_plain : (h : List Event) (c : ℕ) → IsPlain (settling_own h c)
own_plain h c = go (is_fired_by_complete h c)
  where
    go : (b : Bool) → IsPlain (if b then settling h c status_is.Normal else [])
    go true = settled_plain (is_undone (status h c)) c status_is.Normal
    go false = nothing

above_plain : (h : List Event) (c : ℕ) (p : Option ℕ) → IsPlain (above_hook h c p)
above_plain h c (Some p) = arriving_plain p (arrival h p)
above_plain h c None = settled_plain (is_undone (status h c)) c status_is.Normal

hook_plain : (h : List Event) (c : Option ℕ) → IsPlain (hook_events h c)
hook_plain h None = nothing
hook_plain h (Some c) =
    let ended = h ++ event.Hooked c ∷ [] in
    let own = settling_own ended c in
    let above = above_hook (ended ++ own) c (parent h c) in
    both (event.Hooked c ∷ []) (own ++ above) (record { none = λ d. refl }) (both own above (own_plain ended c) (above_plain (ended ++ own) c (parent h c)))

root_plain : (h : List Event) (r : Option ℕ) → IsPlain (root_events h r)
root_plain h None = nothing
root_plain h (Some root) = settled_plain (is_undone (status h root)) root status_is.Normal

shut_plain : (b : Bool) (e : Event) → IsPlain (e ∷ []) → IsPlain (if b then [] else e ∷ [])
shut_plain true e plain = nothing
shut_plain false e plain = plain

-- ---- which step may

-- the step is the ending Complete of a worker that runs the completer
abbrev IsOwn : List Event → Step → ℕ → Type 0
IsOwn h asked c = (w : ℕ) × (asked ≡ End w Complete) × (running h w ≡ Some c)

not_plain : (events : List Event) (c : ℕ) → IsPlain events → list_any (fires_by_complete c) events ≡ true → ⊥
not_plain events c plain there = true≢false (sym there ∙ plain.none c)

-- after the end of a body
after_own : (h : List Event) (t c : ℕ) (ending : Ending) → list_any (fires_by_complete c) (after_end h t ending) ≡ true → (ending ≡ Complete) × (t ≡ c)
after_own h t c Ok there = absurd (not_plain (settling h t status_is.Normal) c (settled_plain (is_undone (status h t)) t status_is.Normal) there)
after_own h t c Quiet there = absurd cc
after_own h t c Try there = absurd (not_plain (arriving t (arrival h t)) c (arriving_plain t (arrival h t)) there)
after_own h t c Pass there = absurd (not_plain (passing h t) c (passing_plain h t) there)
after_own h t c Complete there = (refl, go (is_spent h t) there)
  where
    go : (b : Bool) → list_any (fires_by_complete c) (if b then [] else Fire t how.Complete ∷ []) ≡ true → t ≡ c
    go true there = absurd cc
    go false there = ⊎_elim (λ here. eqb-true t c here) (λ none. absurd cc) (or_cases (t == c) false there)
after_own h t c (Fail code) there = absurd (not_plain (failing h t code) c (failing_plain h t code) there)

end_own : (h : List Event) (w c : ℕ) (ending : Ending) → list_any (fires_by_complete c) (ending_events h w ending (running h w)) ≡ true → IsOwn h (End w ending) c
end_own h w c ending there = go (running h w) refl there
  where
    go : (t : Option ℕ) → running h w ≡ t → list_any (fires_by_complete c) (ending_events h w ending t) ≡ true → IsOwn h (End w ending) c
    go None is there = absurd cc
    go (Some t) is there =
        let own = after_own (h ++ event.End t w ∷ []) t c ending there in
        (w, ap (End w) own.0, is ∙ ap Some own.1)

step_own : (pool : Pool) (h : List Event) (asked : Step) (c : ℕ) → list_any (fires_by_complete c) (events_of pool h asked) ≡ true → IsOwn h asked c
unfolding events_of
step_own pool h (Submit s k) c there = absurd cc
step_own pool h (Fork w k) c there = absurd cc
step_own pool h (Trigger w count) c there = absurd cc
step_own pool h (Poll w r) c there = absurd (not_plain (taking h w (choice pool h w r)) c (taking_plain h w (choice pool h w r)) there)
step_own pool h (Help w r) c there = absurd (not_plain (taking h w (choice pool h w r)) c (taking_plain h w (choice pool h w r)) there)
step_own pool h (Join w t r) c there = absurd (go (is_undone (status h t)) there)
  where
    go : (b : Bool) → list_any (fires_by_complete c) (if b then taking h w (choice pool h w r) else []) ≡ true → ⊥
    go true there = not_plain (taking h w (choice pool h w r)) c (taking_plain h w (choice pool h w r)) there
    go false there = absurd cc
step_own pool h (End w ending) c there = end_own h w c ending there
step_own pool h (HookDone w) c there = absurd (not_plain (hook_events h (hand h w)) c (hook_plain h (hand h w)) there)
step_own pool h (Add w d n) c there = absurd cc
step_own pool h (QuietRoot w t) c there = absurd (not_plain (root_events h (root_of (path h t))) c (root_plain h (root_of (path h t))) there)
step_own pool h (Fault t code) c there = absurd (not_plain (failing h t code) c (failing_plain h t code) there)
step_own pool h (Cancel t) c there = absurd (not_plain (settling h t status_is.Cancelled) c (settled_plain (is_undone (status h t)) t status_is.Cancelled) there)
step_own pool h Shutdown c there =
    absurd (not_plain (if is_closed h || is_stopped h then [] else event.Close ∷ []) c (shut_plain (is_closed h || is_stopped h) event.Close (record { none = λ d. refl })) there)
step_own pool h Stop c there = absurd (not_plain (if is_stopped h then [] else event.Stop ∷ []) c (shut_plain (is_stopped h) event.Stop (record { none = λ d. refl })) there)
step_own pool h IsQuiescent c there = absurd cc
step_own pool h (State t) c there = absurd cc
step_own pool h (Release t) c there = absurd cc

-- a list with a member that passes
member_passes : (p : Event → Bool) (xs : List Event) (x : Event) (k : ℕ) → p x ≡ true → k < length xs → slice_index_or xs k x ≡ x → list_any p xs ≡ true
member_passes p [] x k passes within is = absurd (omega (arith, within))
member_passes p (y ∷ ys) x zero passes within is = rw (ap p is ∙ passes) refl
member_passes p (y ∷ ys) x (suc k) passes within is = or_right (p y) (list_any p ys) (member_passes p ys x k passes (omega (arith, within)) is)

-- a completer is fired by Complete only by the ending Complete of the worker that runs it
pub fires_by_complete_only_own : (pool : Pool) → FiresByCompleteOnlyOwn pool
unfolding answer
fires_by_complete_only_own pool past asked c same contains =
    go (refusal_of past asked) (member_passes (fires_by_complete c) (answer past asked).1 (Fire c how.Complete) contains.0 (eq-eqb c c refl) contains.1 contains.2)
  where
    go : (r : Option Refusal) → list_any (fires_by_complete c) (answer_of past asked r).1 ≡ true → IsOwn past.events asked c
    go None there = step_own past.pool past.events asked c there
    go (Some refusal) there = absurd cc
