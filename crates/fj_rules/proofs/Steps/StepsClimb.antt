-- The events of each step count, fire and pass completers only.
use Rattle.std.proofs.Common.{ℕ, ◌≡◌, Bool, true, false, not, ◌||◌, List, [], ◌∷◌, ◌++◌, length, drop, map, Option, Some, None, refl, ap, sym, ◌∙◌, ⊎_elim}
use Rattle.std.specs.Prelude.{◌==◌, if◌then◌else◌}
use Rattle.std.proofs.lemmas.Bool.{eqb-true, eq-eqb, or_cases, not-false}
use Rattle.fj_rules.specs.declared.event.Event.{Event}
use Rattle.fj_rules.specs.declared.event.Event.TheVariants as event
use Rattle.fj_rules.specs.declared.event.How.TheVariants as how
use Rattle.fj_rules.specs.declared.status.Status.{Status}
use Rattle.fj_rules.specs.declared.status.Status.TheVariants as status_is
use Rattle.fj_rules.specs.declared.step.Ending.{Ending}
use Rattle.fj_rules.specs.declared.step.Ending.TheVariants.{Ok, Quiet, Try, Pass, Complete, Fail}
use Rattle.fj_rules.specs.declared.step.Step.{Step}
use Rattle.fj_rules.specs.declared.step.Step.TheVariants.{Submit, Fork, Trigger, Poll, Help, Join, End, HookDone, Add, QuietRoot, Fault, Cancel, Shutdown, Stop, IsQuiescent, State, Release}
use Rattle.fj_rules.specs.Bounds.{Pool}
use Rattle.fj_rules.specs.Lists.{is_in}
use Rattle.fj_rules.specs.Tasks.{is_completer, parent}
use Rattle.fj_rules.specs.Statuses.{status, is_undone}
use Rattle.fj_rules.specs.Hooks.{hand}
use Rattle.fj_rules.specs.Completers.{is_spent}
use Rattle.fj_rules.specs.Choices.{choice}
use Rattle.fj_rules.specs.Climbs.{Arrival, Spent, Counted, Early, Fires, arrival, path, passed, relayed, climbed}
use Rattle.fj_rules.specs.Allowed.{Allowed, AllowedFrom, is_closed, is_stopped, is_fired_by_complete}
use Rattle.fj_rules.specs.Answers.{events_of, taking, running, ending_events, after_end, arriving, settling, settling_own, failing, passing, pass_end, root_of, root_events, above_hook, hook_events, is_misfit}
use Rattle.fj_rules.proofs.Lists.Members.{is_in_append}
use Rattle.fj_rules.proofs.Events.Lawful.{allowed_more}
use Rattle.fj_rules.proofs.Events.KindsKept.{completer_same}
use Rattle.fj_rules.proofs.Completers.Parents.{parent_completer, path_completers}
use Rattle.fj_rules.proofs.Steps.Standing.{Stands, some_or_none}
use Rattle.fj_rules.proofs.Completers.Ways.{passed_on_way, rest_on_way}
use Rattle.fj_rules.proofs.Completers.Climbed.{climbed_append}

-- events that climb nowhere
abbrev IsFlat : List Event → Type 0
IsFlat events = climbed events ≡ []

taking_flat : (h : List Event) (w : ℕ) (t : Option ℕ) → IsFlat (taking h w t)
unfolding climbed
taking_flat h w None = refl
taking_flat h w (Some t) = go (is_undone (status h t))
  where
    go : (b : Bool) → IsFlat ((if b then event.Out t w else event.Skip t w) ∷ [])
    go true = refl
    go false = refl

settled_flat : (b : Bool) (t : ℕ) (s : Status) → IsFlat (if b then event.Settle t s ∷ [] else [])
unfolding climbed
settled_flat true t s = refl
settled_flat false t s = refl

settles_flat : (us : List ℕ) (s : Status) → IsFlat (map (λ u. event.Settle u s) us)
unfolding climbed
settles_flat [] s = refl
settles_flat (u ∷ us) s = settles_flat us s

failing_flat : (h : List Event) (t code : ℕ) → IsFlat (failing h t code)
unfolding climbed
failing_flat h t code = go (is_undone (status h t))
  where
    go : (b : Bool) → IsFlat (if b then map (λ u. event.Settle u (status_is.Exceptional code)) (relayed h t) else [])
    go true = settles_flat (relayed h t) (status_is.Exceptional code)
    go false = refl

own_flat : (h : List Event) (c : ℕ) → IsFlat (settling_own h c)
unfolding climbed
own_flat h c = go (is_fired_by_complete h c)
  where
    go : (b : Bool) → IsFlat (if b then settling h c status_is.Normal else [])
    go true = settled_flat (is_undone (status h c)) c status_is.Normal
    go false = refl

shut_flat : (b : Bool) (e : Event) → IsFlat (e ∷ []) → IsFlat (if b then [] else e ∷ [])
unfolding climbed
shut_flat true e flat = refl
shut_flat false e flat = flat

nowhere : (events : List Event) (c : ℕ) → IsFlat events → is_in c (climbed events) ≡ true → ⊥
nowhere events c flat there = absurd cc

-- ---- climbs

arriving_at : (c d : ℕ) (a : Arrival) → is_in c (climbed (arriving d a)) ≡ true → d ≡ c
unfolding climbed
arriving_at c d Spent there = absurd cc
arriving_at c d Counted there = ⊎_elim (λ here. eqb-true d c here) (λ none. absurd cc) (or_cases (d == c) false there)
arriving_at c d Early there = absurd cc
arriving_at c d Fires there = ⊎_elim (λ here. eqb-true d c here) (λ none. absurd cc) (or_cases (d == c) false there)

passes_at : (ds : List ℕ) → climbed (map event.Pass ds) ≡ ds
unfolding climbed
passes_at [] = refl
passes_at (d ∷ ds) = ap (λ us. d ∷ us) (passes_at ds)

pass_end_at : (h : List Event) (c : ℕ) (rest : List ℕ) (root : Option ℕ) → is_in c (climbed (pass_end h rest root)) ≡ true → is_in c rest ≡ true
unfolding climbed
pass_end_at h c (d ∷ above) root there = rw (eq-eqb d c (arriving_at c d (arrival h d) there)) refl
pass_end_at h c [] None there = absurd cc
pass_end_at h c [] (Some r) there = absurd cc

passing_at : (h : List Event) (t c : ℕ) → is_in c (climbed (passing h t)) ≡ true → is_in c (path h t) ≡ true
passing_at h t c there =
    let rest = drop (length (passed h t)) (path h t) in
    ⊎_elim (λ low. passed_on_way h t c (rw passes_at at low)) (λ high. rest_on_way h t c (pass_end_at h c rest (root_of (path h t)) high))
    (or_cases (is_in c (climbed (map event.Pass (passed h t)))) (is_in c (climbed (pass_end h rest (root_of (path h t)))))
    (sym (ap (is_in c) (climbed_append (map event.Pass (passed h t)) (pass_end h rest (root_of (path h t)))) ∙ is_in_append c (climbed (map event.Pass (passed h t))) (climbed (pass_end h rest (root_of (path h t))))) ∙ there))

complete_at : (c t : ℕ) (b : Bool) → is_in c (climbed (if b then [] else event.Fire t how.Complete ∷ [])) ≡ true → t ≡ c
unfolding climbed
complete_at c t true there = absurd cc
complete_at c t false there = ⊎_elim (λ here. eqb-true t c here) (λ none. absurd cc) (or_cases (t == c) false there)

-- after the end of a body only its own way is climbed, and only that of a completer
after_climbs : (pool : Pool) (h : List Event) (t c : ℕ) (ending : Ending) → AllowedFrom pool [] h → is_misfit h ending (Some t) ≡ false
    → is_in c (climbed (after_end h t ending)) ≡ true → is_completer h c ≡ true
after_climbs pool h t c Ok so fit there = absurd (nowhere (settling h t status_is.Normal) c (settled_flat (is_undone (status h t)) t status_is.Normal) there)
after_climbs pool h t c Quiet so fit there = absurd (nowhere [] c (settled_flat false t status_is.Normal) there)
after_climbs pool h t c Try so fit there = ap (is_completer h) (sym (arriving_at c t (arrival h t) there)) ∙ not-false (is_completer h t) fit
after_climbs pool h t c Pass so fit there = path_completers pool h t c so (not-false (is_completer h t) fit) (passing_at h t c there)
after_climbs pool h t c Complete so fit there = ap (is_completer h) (sym (complete_at c t (is_spent h t) there)) ∙ not-false (is_completer h t) fit
after_climbs pool h t c (Fail code) so fit there = absurd (nowhere (failing h t code) c (failing_flat h t code) there)

misfit_same : (h : List Event) (w t : ℕ) (ending : Ending) → is_misfit (h ++ event.End t w ∷ []) ending (Some t) ≡ is_misfit h ending (Some t)
misfit_same h w t Ok = completer_same h (event.End t w) t refl
misfit_same h w t Quiet = ap not (completer_same h (event.End t w) t refl)
misfit_same h w t Try = ap not (completer_same h (event.End t w) t refl)
misfit_same h w t Pass = ap not (completer_same h (event.End t w) t refl)
misfit_same h w t Complete = ap not (completer_same h (event.End t w) t refl)
misfit_same h w t (Fail code) = refl

end_climbs : (pool : Pool) (h : List Event) (w c : ℕ) (ending : Ending) → AllowedFrom pool [] h → Stands pool h (End w ending)
    → is_in c (climbed (ending_events h w ending (running h w))) ≡ true → is_completer h c ≡ true
unfolding climbed
end_climbs pool h w c ending so st there = go (running h w) refl st.tests.1.1.1.0 there
  where
    go : (t : Option ℕ) → running h w ≡ t → is_misfit h ending t ≡ false → is_in c (climbed (ending_events h w ending t)) ≡ true → is_completer h c ≡ true
    go None is fit there = absurd cc
    go (Some t) is fit there =
        let may : Allowed pool h (event.End t w) = (is, some_or_none (hand h w) st.tests.1.0) in
        sym (completer_same h (event.End t w) c refl)
        ∙ after_climbs pool (h ++ event.End t w ∷ []) t c ending (allowed_more pool [] h (event.End t w) so may) (misfit_same h w t ending ∙ fit) there

-- at the end of a hook only its parent is climbed
above_climbs : (pool : Pool) (h after : List Event) (c d : ℕ) (p : Option ℕ) → AllowedFrom pool [] h → parent h d ≡ p
    → is_in c (climbed (above_hook after d p)) ≡ true → is_completer h c ≡ true
above_climbs pool h after c d (Some p) so is there = ap (is_completer h) (sym (arriving_at c p (arrival after p) there)) ∙ parent_completer pool h d p so is
above_climbs pool h after c d None so is there = absurd (nowhere (settling after d status_is.Normal) c (settled_flat (is_undone (status after d)) d status_is.Normal) there)

hook_climbs : (pool : Pool) (h : List Event) (c : ℕ) (d : Option ℕ) → AllowedFrom pool [] h → is_in c (climbed (hook_events h d)) ≡ true → is_completer h c ≡ true
unfolding climbed
hook_climbs pool h c None so there = absurd cc
hook_climbs pool h c (Some d) so there =
    let ended = h ++ event.Hooked d ∷ [] in
    let own = settling_own ended d in
    above_climbs pool h (ended ++ own) c d (parent h d) so refl
    (sym (ap (is_in c) (climbed_append own (above_hook (ended ++ own) d (parent h d)) ∙ ap (λ us. us ++ climbed (above_hook (ended ++ own) d (parent h d))) (own_flat ended d))) ∙ there)

root_flat : (h : List Event) (r : Option ℕ) → IsFlat (root_events h r)
unfolding climbed
root_flat h None = refl
root_flat h (Some root) = settled_flat (is_undone (status h root)) root status_is.Normal

-- each event of a climb in the answer to a step is at a completer
pub step_climbs : (pool : Pool) (h : List Event) (asked : Step) → AllowedFrom pool [] h → Stands pool h asked
    → (c : ℕ) → is_in c (climbed (events_of pool h asked)) ≡ true → is_completer h c ≡ true
unfolding events_of climbed
step_climbs pool h (Submit s k) so st c there = absurd cc
step_climbs pool h (Fork w k) so st c there = absurd cc
step_climbs pool h (Trigger w count) so st c there = absurd cc
step_climbs pool h (Poll w r) so st c there = absurd (nowhere (taking h w (choice pool h w r)) c (taking_flat h w (choice pool h w r)) there)
step_climbs pool h (Help w r) so st c there = absurd (nowhere (taking h w (choice pool h w r)) c (taking_flat h w (choice pool h w r)) there)
step_climbs pool h (Join w t r) so st c there = absurd (go (is_undone (status h t)) there)
  where
    go : (b : Bool) → is_in c (climbed (if b then taking h w (choice pool h w r) else [])) ≡ true → ⊥
    go true there = nowhere (taking h w (choice pool h w r)) c (taking_flat h w (choice pool h w r)) there
    go false there = absurd cc
step_climbs pool h (End w ending) so st c there = end_climbs pool h w c ending so st there
step_climbs pool h (HookDone w) so st c there = hook_climbs pool h c (hand h w) so there
step_climbs pool h (Add w d n) so st c there = absurd cc
step_climbs pool h (QuietRoot w t) so st c there = absurd (nowhere (root_events h (root_of (path h t))) c (root_flat h (root_of (path h t))) there)
step_climbs pool h (Fault t code) so st c there = absurd (nowhere (failing h t code) c (failing_flat h t code) there)
step_climbs pool h (Cancel t) so st c there = absurd (nowhere (settling h t status_is.Cancelled) c (settled_flat (is_undone (status h t)) t status_is.Cancelled) there)
step_climbs pool h Shutdown so st c there = absurd (nowhere (if is_closed h || is_stopped h then [] else event.Close ∷ []) c (shut_flat (is_closed h || is_stopped h) event.Close refl) there)
step_climbs pool h Stop so st c there = absurd (nowhere (if is_stopped h then [] else event.Stop ∷ []) c (shut_flat (is_stopped h) event.Stop refl) there)
step_climbs pool h IsQuiescent so st c there = absurd cc
step_climbs pool h (State t) so st c there = absurd cc
step_climbs pool h (Release t) so st c there = absurd cc
