-- The end of the body of a running task, whatever the ending.
use Rattle.std.proofs.Common.{ℕ, ◌≡◌, ◌+◌, ◌-◌, ◌≤◌, ◌<◌, Bool, true, false, List, [], ◌∷◌, ◌++◌, length, Option, Some, None, refl, ap, sym, ◌∙◌, subst, arith, not}
use Rattle.std.specs.Prelude.{if◌then◌else◌, nat_lt}
use Rattle.std.proofs.lemmas.Bool.{eq-eqb, not-false}
use Rattle.fj_rules.specs.Pasts.{limit}
use Rattle.fj_rules.specs.declared.event.Event.{Event}
use Rattle.fj_rules.specs.declared.event.Event.TheVariants as event
use Rattle.fj_rules.specs.declared.event.How.TheVariants.{Complete}
use Rattle.fj_rules.specs.declared.refusal.Refusal.{Refusal}
use Rattle.fj_rules.specs.declared.refusal.Refusal.TheVariants.{LogFull, NotCompleter}
use Rattle.fj_rules.specs.declared.said.Said.{Said}
use Rattle.fj_rules.specs.declared.said.Said.TheVariants as says
use Rattle.fj_rules.specs.declared.status.Status.TheVariants.{Normal}
use Rattle.fj_rules.specs.declared.step.Ending.{Ending}
use Rattle.fj_rules.specs.declared.step.Ending.TheVariants as kind_of
use Rattle.fj_rules.specs.declared.step.Step.TheVariants.{End}
use Rattle.fj_rules.specs.Bounds.{Pool}
use Rattle.fj_rules.specs.Tasks.{is_kept, is_completer}
use Rattle.fj_rules.specs.Stacks.{stack}
use Rattle.fj_rules.specs.Hooks.{hooks, hand, receiver}
use Rattle.fj_rules.specs.Statuses.{status, is_undone}
use Rattle.fj_rules.specs.Completers.{is_spent, pending}
use Rattle.fj_rules.specs.Climbs.{Spent, Counted, Fires}
use Rattle.fj_rules.specs.Allowed.{Allowed, AllowedFrom}
use Rattle.fj_rules.specs.Answers.{running, first_that_stands, refusals_of, events_of, reply_of, after_end, end_says, arriving, is_misfit, no_such_worker, hook_in_hand, nothing_running}
use Rattle.fj_rules.specs.Runs.{Past, Steps, grown}
use Rattle.fj_rules.proofs.Events.Growth.{hooks_more}
use Rattle.fj_rules.proofs.Lists.Members.{get_is_in}
use Rattle.fj_rules.proofs.Places.KeptPlaces.{held_kept}
use Rattle.fj_rules.proofs.Events.KindsKept.{completer_same}
use Rattle.fj_rules.proofs.Events.Spending.{moved_spent}
use Rattle.fj_rules.proofs.Steps.Standing.{all_fail, some_or_none}
use Rattle.fj_rules.proofs.Events.Statuses.{status_same}
use Rattle.fj_ledger.specs.Holds.{IsLawful}
use Rattle.fj_rules.proofs.Events.Hands.{hand_same}
use Rattle.fj_ledger.proofs.Paths.EndedArrivals.{ended_arrival}
use Rattle.fj_machine.proofs.Outcomes.RoomTests.{grown_twice}
use Rattle.fj_machine.proofs.Outcomes.Stepping.{steps_full, steps_made, may_step}
use Rattle.fj_rules.proofs.Events.Releasing.{kept_same}

-- a running task is kept
pub running_kept : {most : ℕ} (pool : Pool) (h : List Event) (w t : ℕ) → IsLawful pool most h → running h w ≡ Some t → is_kept h t ≡ true
running_kept pool h w t law is = held_kept pool h w t law.allowed (get_is_in t (stack h w) (length (stack h w) - 1) is)

-- where the worker runs a task, only a misfit of the ending can stand against it
end_tests : (pool : Pool) (h : List Event) (w t : ℕ) (ending : Ending)
    → first_that_stands (no_such_worker pool w ∷ hook_in_hand h w ∷ nothing_running h w ∷ []) ≡ None → running h w ≡ Some t
    → first_that_stands (refusals_of pool h (End w ending)) ≡ (if is_misfit h ending (Some t) then Some NotCompleter else None)
end_tests pool h w t ending none is =
    let tests = all_fail (no_such_worker pool w ∷ hook_in_hand h w ∷ nothing_running h w ∷ []) none in
    rw (tests.0, tests.1.0, tests.1.1.0, is) refl

-- the ending suits the task, or not
pub end_refused : (pool : Pool) (h : List Event) (w t : ℕ) (ending : Ending) (fits : Bool)
    → first_that_stands (no_such_worker pool w ∷ hook_in_hand h w ∷ nothing_running h w ∷ []) ≡ None → running h w ≡ Some t → is_misfit h ending (Some t) ≡ not fits
    → (if fits then None else Some NotCompleter) ≡ first_that_stands (refusals_of pool h (End w ending))
end_refused pool h w t ending fits none is misfit = rw (end_tests pool h w t ending none is, misfit) (go fits)
  where
    go : (b : Bool) → ◌≡◌ {A = Option Refusal} (if b then None else Some NotCompleter) (if not b then Some NotCompleter else None)
    go true = refl
    go false = refl

pub end_events : (pool : Pool) (h : List Event) (w t : ℕ) (ending : Ending) → running h w ≡ Some t
    → events_of pool h (End w ending) ≡ event.End t w ∷ after_end (h ++ event.End t w ∷ []) t ending
unfolding events_of
end_events pool h w t ending is = rw is refl

end_reply : (pool : Pool) (h : List Event) (w t : ℕ) (ending : Ending) → running h w ≡ Some t → reply_of pool h (End w ending) ≡ end_says (h ++ event.End t w ∷ []) t ending
unfolding reply_of
end_reply pool h w t ending is = rw is refl

-- the events do not fit
pub end_full : (now : Past) (w t : ℕ) (ending : Ending) (n : ℕ) → first_that_stands (refusals_of now.pool now.events (End w ending)) ≡ None → running now.events w ≡ Some t
    → 1 + length (after_end (now.events ++ event.End t w ∷ []) t ending) ≡ n → limit now < length now.events + n → Steps now (End w ending) (says.Refused LogFull) now
end_full now w t ending n stands is count over =
    steps_full now (End w ending) stands (rw (end_events now.pool now.events w t ending is) (omega (arith, count, over)))

-- the body ends, and then comes what its ending says
pub end_made : (old new : Past) (w t : ℕ) (ending : Ending) (events : List Event) (reply : Said) (n : ℕ)
    → first_that_stands (refusals_of old.pool old.events (End w ending)) ≡ None → running old.events w ≡ Some t
    → after_end (old.events ++ event.End t w ∷ []) t ending ≡ events → reply ≡ end_says (old.events ++ event.End t w ∷ []) t ending
    → 1 + length events ≡ n → length old.events + n ≤ limit old
    → new ≡ grown (grown old (event.End t w ∷ [])) events → Steps old (End w ending) reply new
end_made old new w t ending events reply n stands is after said count fits are =
    steps_made old new (End w ending) reply stands
    (rw (end_events old.pool old.events w t ending is) (omega (arith, ap length after, count, fits)))
    (said ∙ sym (end_reply old.pool old.events w t ending is))
    (are ∙ grown_twice old (event.End t w ∷ []) events ∙ ap (grown old) (ap (λ (es : List Event). event.End t w ∷ es) (sym after) ∙ sym (end_events old.pool old.events w t ending is)))

-- the end of the body is allowed, and so is what comes after it
pub may_end : {most : ℕ} (pool : Pool) (h : List Event) (w t : ℕ) (ending : Ending) → IsLawful pool most h → first_that_stands (refusals_of pool h (End w ending)) ≡ None → running h w ≡ Some t
    → Allowed pool h (event.End t w) × AllowedFrom pool (h ++ event.End t w ∷ []) (after_end (h ++ event.End t w ∷ []) t ending)
may_end pool h w t ending law stands is =
    subst (AllowedFrom pool h) (end_events pool h w t ending is)
    (may_step pool h (End w ending) law stands)

-- ---- after it

pub ended_kept : {most : ℕ} (pool : Pool) (h : List Event) (w t : ℕ) → IsLawful pool most h → running h w ≡ Some t → is_kept (h ++ event.End t w ∷ []) t ≡ true
ended_kept pool h w t law is = kept_same h (event.End t w) t refl refl ∙ running_kept pool h w t law is

-- the ending suits the running task
pub end_suits : (pool : Pool) (h : List Event) (w t : ℕ) (ending : Ending) → first_that_stands (refusals_of pool h (End w ending)) ≡ None → running h w ≡ Some t
    → (hand h w ≡ None) × (is_misfit h ending (Some t) ≡ false)
end_suits pool h w t ending none is =
    let tests = all_fail (refusals_of pool h (End w ending)) none in
    (some_or_none (hand h w) tests.1.0, ap (is_misfit h ending) (sym is) ∙ tests.1.1.1.0)

pub ended_completer : (h : List Event) (w t : ℕ) → not (is_completer h t) ≡ false → is_completer (h ++ event.End t w ∷ []) t ≡ true
ended_completer h w t suits = completer_same h (event.End t w) t refl ∙ not-false (is_completer h t) suits

-- the worker has no hook in hand, and the next one of this completer goes to it
pub ended_free : (h : List Event) (w t : ℕ) → hand h w ≡ None → hand (h ++ event.End t w ∷ []) w ≡ None
ended_free h w t free = hand_same h (event.End t w) w refl ∙ free

pub ended_given : (h : List Event) (w t : ℕ) → receiver t (hooks (h ++ event.End t w ∷ [])).just_ended (hooks (h ++ event.End t w ∷ [])).last_worker ≡ Some w
ended_given h w t = rw (hooks_more h (event.End t w)) (rw (eq-eqb t t refl) refl)

pub try_count : (pool : Pool) (h : List Event) (w t n : ℕ) (b : Bool) → AllowedFrom pool [] h → Allowed pool h (event.End t w) → is_completer h t ≡ true
    → is_spent h t ≡ b → n ≡ (if b then 1 else 2) → 1 + length (after_end (h ++ event.End t w ∷ []) t kind_of.Try) ≡ n
try_count pool h w t n b so may completer spent count = rw (ended_arrival pool h w t so may completer, spent, count) (go b (nat_lt 0 (pending h t)))
  where
    go : (s p : Bool) → 1 + length (arriving t (if s then Spent else if p then Counted else Fires)) ≡ (if s then 1 else 2)
    go true p = refl
    go false true = refl
    go false false = refl

pub complete_events : (h : List Event) (w t : ℕ) (b : Bool) → is_spent h t ≡ b → after_end (h ++ event.End t w ∷ []) t kind_of.Complete ≡ (if b then [] else event.Fire t Complete ∷ [])
complete_events h w t b spent = rw (moved_spent h (event.End t w) t refl, spent) refl

pub complete_says : (h : List Event) (w t : ℕ) (b : Bool) → is_spent h t ≡ b → (if b then says.Spent t else says.Hook t) ≡ end_says (h ++ event.End t w ∷ []) t kind_of.Complete
complete_says h w t b spent = rw (moved_spent h (event.End t w) t refl, spent) refl

pub complete_count : (h : List Event) (w t n : ℕ) (b : Bool) → is_spent h t ≡ b → n ≡ (if b then 1 else 2) → 1 + length (after_end (h ++ event.End t w ∷ []) t kind_of.Complete) ≡ n
complete_count h w t n b spent count = rw (complete_events h w t b spent, count) (go b)
  where
    go : (b : Bool) → 1 + length (if b then [] else event.Fire t Complete ∷ []) ≡ (if b then 1 else 2)
    go true = refl
    go false = refl

-- ---- a plain task

pub ok_events : (h : List Event) (w t : ℕ) (b : Bool) → is_undone (status h t) ≡ b → after_end (h ++ event.End t w ∷ []) t kind_of.Ok ≡ (if b then event.Settle t Normal ∷ [] else [])
ok_events h w t b is = rw (status_same h (event.End t w) t (λ before. refl), is) refl

pub ok_count : (h : List Event) (w t n : ℕ) (b : Bool) → is_undone (status h t) ≡ b → n ≡ (if b then 2 else 1) → 1 + length (after_end (h ++ event.End t w ∷ []) t kind_of.Ok) ≡ n
ok_count h w t n b is count = rw (ok_events h w t b is, count) (go b)
  where
    go : (b : Bool) → 1 + length (if b then event.Settle t Normal ∷ [] else []) ≡ (if b then 2 else 1)
    go true = refl
    go false = refl
