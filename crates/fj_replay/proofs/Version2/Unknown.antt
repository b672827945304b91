-- An answer does not depend on which number is asked that no task has.
use Rattle.std.proofs.Common.{ℕ, ◌≡◌, ◌+◌, Bool, true, false, ◌&&◌, ◌||◌, not, List, [], ◌∷◌, ◌++◌, Some, refl, ap, sym, ◌∙◌}
use Rattle.std.specs.Prelude.{if◌then◌else◌}
use Rattle.fj_rules.specs.declared.kind.Kind.TheVariants.{Completer}
use Rattle.fj_rules.specs.declared.step.Step.{Step}
use Rattle.fj_rules.specs.declared.step.Step.TheVariants.{Fork, Join, Add, QuietRoot, Fault, Cancel, State, Release}
use Rattle.fj_rules.specs.declared.refusal.Refusal.{Refusal}
use Rattle.fj_rules.specs.declared.refusal.Refusal.TheVariants.{Closed, Unknown, OwnStack, NotCompleter, NotDone}
use Rattle.fj_rules.specs.declared.said.Said.TheVariants as says
use Rattle.fj_rules.specs.Lists.{is_in}
use Rattle.fj_rules.specs.Tasks.{is_kept}
use Rattle.fj_rules.specs.Statuses.{status, is_undone}
use Rattle.fj_rules.specs.Stacks.{stack}
use Rattle.fj_rules.specs.Completers.{pending}
use Rattle.fj_rules.specs.Places.{place, is_gone}
use Rattle.fj_rules.specs.Allowed.{has_kept_child, is_stopped}
use Rattle.fj_rules.specs.Answers.{answer, refusal_of, refusals_of, first_that_stands, no_such_worker, hook_in_hand, nothing_running, is_plain_parent, not_a_completer, count_too_large, too_many_tasks}
use Rattle.fj_rules.specs.Pasts.{Past}

-- tests of which one stands have a first that stands, whatever comes behind it
first_before : (before : List (Bool × Refusal)) → (r : Refusal) × ((behind : List (Bool × Refusal)) → first_that_stands (before ++ (true, Unknown) ∷ behind) ≡ Some r)
first_before [] = (Unknown, λ behind. refl)
first_before (test ∷ before) = go test.0 (first_before before)
  where
    go : (b : Bool) → ((r : Refusal) × ((behind : List (Bool × Refusal)) → first_that_stands (before ++ (true, Unknown) ∷ behind) ≡ Some r))
        → (r : Refusal) × ((behind : List (Bool × Refusal)) → (if b then Some test.1 else first_that_stands (before ++ (true, Unknown) ∷ behind)) ≡ Some r)
    go true later = (test.1, λ behind. refl)
    go false later = later

refused_so : (past : Past) (asked : Step) (r : Refusal) → first_that_stands (refusals_of past.pool past.events asked) ≡ Some r → answer past asked ≡ (says.Refused r, [])
unfolding answer refusal_of
refused_so past asked r is = rw is refl

-- two steps whose tests begin alike, up to an unknown task, have one answer
both_refused : (past : Past) (asked other : Step) (before behind beside : List (Bool × Refusal)) → refusals_of past.pool past.events asked ≡ before ++ (true, Unknown) ∷ behind
    → refusals_of past.pool past.events other ≡ before ++ (true, Unknown) ∷ beside → answer past asked ≡ answer past other
both_refused past asked other before behind beside is also =
    let first = first_before before in
    refused_so past asked first.0 (ap first_that_stands is ∙ first.1 behind) ∙ sym (refused_so past other first.0 (ap first_that_stands also ∙ first.1 beside))

-- ---- the steps that name a task

abbrev worker_first : Past → ℕ → List (Bool × Refusal)
worker_first past w = no_such_worker past.pool w ∷ hook_in_hand past.events w ∷ nothing_running past.events w ∷ []

pub same_join : (past : Past) (w t u r : ℕ) → is_kept past.events t ≡ false → is_kept past.events u ≡ false → answer past (Join w t r) ≡ answer past (Join w u r)
same_join past w t u r no_t no_u =
    both_refused past (Join w t r) (Join w u r) (worker_first past w)
    ((is_undone (status past.events t) && is_in t (stack past.events w), OwnStack) ∷ [])
    ((is_undone (status past.events u) && is_in u (stack past.events w), OwnStack) ∷ []) (rw no_t refl) (rw no_u refl)

pub same_add : (past : Past) (w t u n : ℕ) → is_kept past.events t ≡ false → is_kept past.events u ≡ false → answer past (Add w t n) ≡ answer past (Add w u n)
same_add past w t u n no_t no_u =
    both_refused past (Add w t n) (Add w u n) (worker_first past w)
    (not_a_completer past.events t ∷ count_too_large (pending past.events t + n) ∷ [])
    (not_a_completer past.events u ∷ count_too_large (pending past.events u + n) ∷ []) (rw no_t refl) (rw no_u refl)

pub same_root : (past : Past) (w t u : ℕ) → is_kept past.events t ≡ false → is_kept past.events u ≡ false → answer past (QuietRoot w t) ≡ answer past (QuietRoot w u)
same_root past w t u no_t no_u =
    both_refused past (QuietRoot w t) (QuietRoot w u) (worker_first past w) (not_a_completer past.events t ∷ []) (not_a_completer past.events u ∷ []) (rw no_t refl) (rw no_u refl)

pub same_fault : (past : Past) (t u code : ℕ) → is_kept past.events t ≡ false → is_kept past.events u ≡ false → answer past (Fault t code) ≡ answer past (Fault u code)
same_fault past t u code no_t no_u = both_refused past (Fault t code) (Fault u code) [] [] [] (rw no_t refl) (rw no_u refl)

pub same_cancel : (past : Past) (t u : ℕ) → is_kept past.events t ≡ false → is_kept past.events u ≡ false → answer past (Cancel t) ≡ answer past (Cancel u)
same_cancel past t u no_t no_u = both_refused past (Cancel t) (Cancel u) [] [] [] (rw no_t refl) (rw no_u refl)

pub same_state : (past : Past) (t u : ℕ) → is_kept past.events t ≡ false → is_kept past.events u ≡ false → answer past (State t) ≡ answer past (State u)
same_state past t u no_t no_u = both_refused past (State t) (State u) [] [] [] (rw no_t refl) (rw no_u refl)

pub same_release : (past : Past) (t u : ℕ) → is_kept past.events t ≡ false → is_kept past.events u ≡ false → answer past (Release t) ≡ answer past (Release u)
same_release past t u no_t no_u =
    both_refused past (Release t) (Release u) []
    ((not (is_gone (place past.events t)) || has_kept_child past.events t, NotDone) ∷ [])
    ((not (is_gone (place past.events u)) || has_kept_child past.events u, NotDone) ∷ []) (rw no_t refl) (rw no_u refl)

pub same_fork : (past : Past) (w t u : ℕ) (relay : Bool) (count : ℕ) → is_kept past.events t ≡ false → is_kept past.events u ≡ false
    → answer past (Fork w (Completer relay count (Some t))) ≡ answer past (Fork w (Completer relay count (Some u)))
same_fork past w t u relay count no_t no_u =
    both_refused past (Fork w (Completer relay count (Some t))) (Fork w (Completer relay count (Some u))) (worker_first past w)
    ((is_plain_parent past.events (Some t), NotCompleter) ∷ (is_stopped past.events, Closed) ∷ count_too_large count ∷ too_many_tasks past.pool past.events ∷ [])
    ((is_plain_parent past.events (Some u), NotCompleter) ∷ (is_stopped past.events, Closed) ∷ count_too_large count ∷ too_many_tasks past.pool past.events ∷ []) (rw no_t refl) (rw no_u refl)
