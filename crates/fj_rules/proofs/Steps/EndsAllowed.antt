-- The events of End and HookDone are allowed.
use Rattle.std.proofs.Common.{ℕ, ◌≡◌, ◌++◌, ◌∙◌, Bool, true, false, List, [], ◌∷◌, length, ◌-◌, Option, Some, None, refl, inl, inr}
use Rattle.std.specs.Prelude.{if◌then◌else◌}
use Rattle.std.specs.List.{filter_map}
use Rattle.std.proofs.lemmas.Bool.{not-false, eq-eqb}
use Rattle.fj_rules.specs.declared.event.Event.{Event}
use Rattle.fj_rules.specs.declared.event.Event.TheVariants as event
use Rattle.fj_rules.specs.declared.status.Status.TheVariants as status_is
use Rattle.fj_rules.specs.declared.step.Step.TheVariants.{End, HookDone}
use Rattle.fj_rules.specs.declared.event.How.TheVariants as how
use Rattle.fj_rules.specs.declared.step.Ending.{Ending}
use Rattle.fj_rules.specs.declared.step.Ending.TheVariants.{Ok, Quiet, Try, Pass, Complete, Fail}
use Rattle.fj_rules.specs.Bounds.{Pool}
use Rattle.fj_rules.specs.Tasks.{tasks, accepted_by, is_completer, parent}
use Rattle.fj_rules.specs.Lists.{is_in}
use Rattle.fj_rules.specs.Hooks.{hand}
use Rattle.fj_rules.specs.Statuses.{is_undone, status}
use Rattle.fj_rules.specs.Climbs.{ClimbsCompleters}
use Rattle.fj_rules.specs.Allowed.{AllowedFrom, newest, ends_hook, is_fired_by_complete, Allowed}
use Rattle.fj_rules.specs.Answers.{events_of, settling_own, above_hook, hook_events, running, ending_events, after_end, is_misfit}
use Rattle.fj_rules.specs.Stacks.{stack}
use Rattle.fj_rules.specs.Completers.{is_spent}
use Rattle.fj_rules.proofs.Lists.Members.{get_is_in}
use Rattle.fj_rules.proofs.Events.KindsKept.{completer_known, completer_stays, completer_same_all, parent_same, parent_same_all, completer_same}
use Rattle.fj_rules.proofs.Completers.Climbed.{hand_climbed}
use Rattle.fj_rules.proofs.Steps.Standing.{Stands, allowed_append, newest_more, some_or_none}
use Rattle.fj_rules.proofs.Events.Lawful.{known_more, taken_known, allowed_more}
use Rattle.fj_rules.proofs.Places.StacksTaken.{stack_taken}
use Rattle.fj_rules.proofs.Steps.ClimbsAllowed.{arriving_allowed, settling_free, passing_allowed}
use Rattle.fj_rules.proofs.Steps.SettlesAllowed.{failing_allowed}

-- the last of a stack was accepted
running_known : (pool : Pool) (h : List Event) (w t : ℕ) → AllowedFrom pool [] h → running h w ≡ Some t → is_in t (tasks h) ≡ true
running_known pool h w t so is = taken_known pool h so t (stack_taken h w t (get_is_in t (stack h w) (length (stack h w) - 1) is))

-- a plain task that is undone becomes normal
ok_allowed : (pool : Pool) (h : List Event) (w t : ℕ) → is_in t (tasks (h ++ event.End t w ∷ [])) ≡ true → is_completer h t ≡ false
    → AllowedFrom pool (h ++ event.End t w ∷ []) (after_end (h ++ event.End t w ∷ []) t Ok)
ok_allowed pool h w t known plain = go (is_undone (status (h ++ event.End t w ∷ []) t)) refl
  where
    go : (b : Bool) → is_undone (status (h ++ event.End t w ∷ []) t) ≡ b → AllowedFrom pool (h ++ event.End t w ∷ []) (if b then event.Settle t status_is.Normal ∷ [] else [])
    go true undone = ((known, undone, refl, inl (completer_same h (event.End t w) t refl ∙ plain, rw (newest_more h (event.End t w)) (eq-eqb t t refl))), tt)
    go false undone = tt

complete_allowed : (pool : Pool) (h : List Event) (w t : ℕ) → AllowedFrom pool (h ++ event.End t w ∷ []) (after_end (h ++ event.End t w ∷ []) t Complete)
complete_allowed pool h w t = go (is_spent (h ++ event.End t w ∷ []) t) refl
  where
    go : (b : Bool) → is_spent (h ++ event.End t w ∷ []) t ≡ b → AllowedFrom pool (h ++ event.End t w ∷ []) (if b then [] else event.Fire t how.Complete ∷ [])
    go true spent = tt
    go false spent = ((spent, rw (newest_more h (event.End t w)) (eq-eqb t t refl)), tt)

after_allowed : (pool : Pool) (h : List Event) (w t : ℕ) (ending : Ending) → AllowedFrom pool [] (h ++ event.End t w ∷ []) → is_in t (tasks (h ++ event.End t w ∷ [])) ≡ true
    → is_misfit h ending (Some t) ≡ false → AllowedFrom pool (h ++ event.End t w ∷ []) (after_end (h ++ event.End t w ∷ []) t ending)
after_allowed pool h w t Ok so known fit = ok_allowed pool h w t known fit
after_allowed pool h w t Quiet so known fit = tt
after_allowed pool h w t Try so known fit = arriving_allowed pool (h ++ event.End t w ∷ []) t
after_allowed pool h w t Complete so known fit = complete_allowed pool h w t
after_allowed pool h w t Pass so known fit =
    passing_allowed pool (h ++ event.End t w ∷ []) t so (completer_same h (event.End t w) t refl ∙ not-false (is_completer h t) fit)
after_allowed pool h w t (Fail code) so known fit = failing_allowed pool (h ++ event.End t w ∷ []) t code so known

pub end_allowed : (pool : Pool) (h : List Event) (w : ℕ) (ending : Ending) → AllowedFrom pool [] h → Stands pool h (End w ending) → AllowedFrom pool h (events_of pool h (End w ending))
unfolding events_of
end_allowed pool h w ending so st = go (running h w) refl st.tests.1.1.1.0
  where
    go : (t : Option ℕ) → running h w ≡ t → is_misfit h ending t ≡ false → AllowedFrom pool h (ending_events h w ending t)
    go None is fit = tt
    go (Some t) is fit =
        let may : Allowed pool h (event.End t w) = (is, some_or_none (hand h w) st.tests.1.0) in
        let known = known_more h (event.End t w) t (running_known pool h w t so is) in
        (may, after_allowed pool h w t ending (allowed_more pool [] h (event.End t w) so may) known fit)

-- ---- the end of a hook

-- a completer that was fired by Complete becomes normal directly after its hook
own_allowed : (pool : Pool) (h : List Event) (c : ℕ) → is_completer h c ≡ true → ends_hook c (newest h) ≡ true → AllowedFrom pool h (settling_own h c)
own_allowed pool h c completer newest = go (is_fired_by_complete h c) (is_undone (status h c)) refl refl
  where
    go : (b u : Bool) → is_fired_by_complete h c ≡ b → is_undone (status h c) ≡ u → AllowedFrom pool h (if b then (if u then event.Settle c status_is.Normal ∷ [] else []) else [])
    go true true fired undone = ((completer_known h c completer, undone, refl, inr (inr (fired, newest))), tt)
    go true false fired undone = tt
    go false u fired undone = tt

own_accepts : (h : List Event) (c : ℕ) → tasks (settling_own h c) ≡ []
unfolding tasks
own_accepts h c = go (is_fired_by_complete h c) (is_undone (status h c))
  where
    go : (b u : Bool) → filter_map accepted_by (if b then (if u then event.Settle c status_is.Normal ∷ [] else []) else []) ≡ []
    go true true = refl
    go true false = refl
    go false u = refl

above_allowed : (pool : Pool) (h : List Event) (c : ℕ) (p : Option ℕ) → is_completer h c ≡ true → parent h c ≡ p → AllowedFrom pool h (above_hook h c p)
above_allowed pool h c (Some p) completer is = arriving_allowed pool h p
above_allowed pool h c None completer is = settling_free pool h c completer is

hooked_allowed : (pool : Pool) (h : List Event) (w c : ℕ) → is_completer h c ≡ true → hand h w ≡ Some c → AllowedFrom pool h (hook_events h (Some c))
hooked_allowed pool h w c completer is =
    let ended = h ++ event.Hooked c ∷ [] in
    let own = settling_own ended c in
    let still = completer_stays h (event.Hooked c) c completer in
    let free : parent (ended ++ own) c ≡ parent h c = parent_same_all ended own c (own_accepts ended c) ∙ parent_same h (event.Hooked c) c refl in (
      (w, is),
      allowed_append pool ended own (above_hook (ended ++ own) c (parent h c))
          (own_allowed pool ended c still (rw (newest_more h (event.Hooked c)) (eq-eqb c c refl)))
          (above_allowed pool (ended ++ own) c (parent h c) (completer_same_all ended own c (own_accepts ended c) ∙ still) free),
    )

pub hook_allowed : (pool : Pool) (h : List Event) (w : ℕ) → AllowedFrom pool [] h → ClimbsCompleters h → AllowedFrom pool h (events_of pool h (HookDone w))
unfolding events_of
hook_allowed pool h w so climbs = go (hand h w) refl
  where
    go : (c : Option ℕ) → hand h w ≡ c → AllowedFrom pool h (hook_events h c)
    go None is = tt
    go (Some c) is = hooked_allowed pool h w c (climbs c (hand_climbed pool h w c so is)) is
