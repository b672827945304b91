-- Which tasks a step makes normal.
use Rattle.std.proofs.Common.{ℕ, ◌≡◌, ◌⊎◌, inl, inr, Bool, true, false, List, [], ◌∷◌, ◌++◌, length, map, drop, Option, Some, None, refl, ap, sym, ◌∙◌, subst, append_assoc, ⊎_elim}
use Rattle.std.specs.Prelude.{if◌then◌else◌, ◌==◌, ◌||◌, ◌-◌}
use Rattle.std.specs.List.{filter_map, list_any}
use Rattle.std.proofs.lemmas.Bool.{eqb-true, not-false, or_cases, true≢false}
use Rattle.std.proofs.lemmas.List.{append-nil}
use Rattle.std.proofs.lemmas.List.Elements.{filter_map-append}
use Rattle.fj_rules.specs.declared.event.Event.{Event}
use Rattle.fj_rules.specs.declared.event.Event.TheVariants as event
use Rattle.fj_rules.specs.declared.event.How.TheVariants as how_is
use Rattle.fj_rules.specs.declared.status.Status.{Status}
use Rattle.fj_rules.specs.declared.status.Status.TheVariants as status_is
use Rattle.fj_rules.specs.declared.step.Ending.{Ending}
use Rattle.fj_rules.specs.declared.step.Ending.TheVariants as ending_is
use Rattle.fj_rules.specs.declared.step.Step.{Step}
use Rattle.fj_rules.specs.declared.step.Step.TheVariants as ask
use Rattle.fj_rules.specs.Bounds.{Pool}
use Rattle.fj_rules.specs.Lists.{is_in, or_else}
use Rattle.fj_rules.specs.Tasks.{accepted_by, is_kept, is_completer, parent}
use Rattle.fj_rules.specs.Statuses.{status, status_from, status_by, or_undone, accepts, is_undone}
use Rattle.fj_rules.specs.Completers.{is_spent}
use Rattle.fj_rules.specs.Hooks.{hand}
use Rattle.fj_rules.specs.Climbs.{Arrival, ClimbsCompleters, arrival, path, passed, relayed}
use Rattle.fj_rules.specs.Climbs as climb
use Rattle.fj_rules.specs.Allowed.{Allowed, AllowedFrom, is_closed, is_stopped, is_fired_by_complete}
use Rattle.fj_rules.specs.Choices.{choice}
use Rattle.fj_rules.specs.Answers.{answer, events_of, taking, arriving, settling, failing, pass_end, passing, root_of, root_events, after_end, ending_events, above_hook, hook_events, running, is_misfit}
use Rattle.fj_rules.specs.Epochs.{IsPast}
use Rattle.fj_rules.specs.Runs.{Past}
use Rattle.fj_rules.proofs.Lists.Members.{get_is_in, is_in_append}
use Rattle.fj_rules.proofs.Completers.Climbed.{hand_climbed}
use Rattle.fj_rules.proofs.Completers.KeptParents.{kept_before}
use Rattle.fj_rules.proofs.Completers.Parents.{path_completers}
use Rattle.fj_rules.proofs.Events.Growth.{status_more}
use Rattle.fj_rules.proofs.Events.KindsKept.{completer_same, completer_still, kept_known}
use Rattle.fj_rules.proofs.Events.Lawful.{allowed_more, front_here, front_rest, not_new}
use Rattle.fj_rules.proofs.Events.NewTasks.{new_undone}
use Rattle.fj_rules.proofs.Steps.Answered.{Answered, Refuses, Makes, answered}
use Rattle.fj_rules.proofs.Steps.AnswersAllowed.{climbed_completer, history_allowed}
use Rattle.fj_rules.proofs.Steps.Standing.{Stands, some_or_none, stands}

-- ---- which tasks become normal

-- the task that this event makes normal
abbrev pub normal_by : Event → Option ℕ
normal_by (event.Settle t status_is.Normal) = Some t
normal_by _ = None

abbrev pub normals : List Event → List ℕ
normals es = filter_map normal_by es

-- a kept plain task that became normal
pub record IsNormal (h : List Event) (t : ℕ) : Type 0 where
  pub kept : is_kept h t ≡ true
  pub plain : is_completer h t ≡ false
  pub normal : status h t ≡ status_is.Normal

never : (b : Bool) (s : Status) → (s ≡ status_is.Normal → ⊥) → or_undone (if b then Some s else None) ≡ status_is.Normal → ⊥
never true s other is = other is
never false s other is = absurd cc

said : (b : Bool) (e : Event) (t : ℕ) → or_undone (status_by t b e) ≡ status_is.Normal → normal_by e ≡ Some t
said b (event.Settle u status_is.Normal) t is = go (u == t) refl is
  where
    go : (same : Bool) → (u == t) ≡ same → or_undone (if same then Some status_is.Normal else None) ≡ status_is.Normal → ◌≡◌ {A = Option ℕ} (Some u) (Some t)
    go true at is = ap Some (eqb-true u t at)
    go false at is = absurd cc
said b (event.Settle u status_is.Undone) t is = absurd (never (u == t) status_is.Undone (λ same. absurd cc) is)
said b (event.Settle u (status_is.Exceptional code)) t is = absurd (never (u == t) (status_is.Exceptional code) (λ same. absurd cc) is)
said b (event.Settle u status_is.Cancelled) t is = absurd (never (u == t) status_is.Cancelled (λ same. absurd cc) is)
said b event.Stop t is = absurd (never b status_is.Cancelled (λ same. absurd cc) is)
said b _ t is = absurd cc

settled : (h : List Event) (e : Event) (t : ℕ) → status (h ++ e ∷ []) t ≡ status_is.Normal → (status h t ≡ status_is.Normal) ⊎ (normal_by e ≡ Some t)
unfolding status
settled h e t is = go (status_from t false h) refl (sym (status_more h t e) ∙ is)
  where
    go : (s : Option Status) → status_from t false h ≡ s → or_undone (or_else s (status_by t (list_any (accepts t) h) e)) ≡ status_is.Normal
        → (or_undone (status_from t false h) ≡ status_is.Normal) ⊎ (normal_by e ≡ Some t)
    go (Some s) at is = inl (ap or_undone at ∙ is)
    go None at is = inr (said (list_any (accepts t) h) e t is)

normal_one : (pool : Pool) (h : List Event) (e : Event) (t : ℕ) → AllowedFrom pool [] h → Allowed pool h e → IsNormal (h ++ e ∷ []) t → IsNormal h t ⊎ (normal_by e ≡ Some t)
normal_one pool h e t so may is = ⊎_elim old new (kept_before h e t is.kept)
  where
    old : is_kept h t ≡ true → IsNormal h t ⊎ (normal_by e ≡ Some t)
    old kept =
        ⊎_elim (λ was. inl (record { kept = kept; plain = sym (completer_still h e t (not_new pool h e t so may (kept_known h t kept))) ∙ is.plain; normal = was })) (λ now. inr now)
        (settled h e t is.normal)

    differs : status_is.Undone ≡ status_is.Normal → ⊥
    differs same = cc

    new : accepted_by e ≡ Some t → IsNormal h t ⊎ (normal_by e ≡ Some t)
    new by = absurd (differs (sym (new_undone pool h e t so may by) ∙ is.normal))

-- one that is now was one before, or was made normal by these events
pub normal_on : (pool : Pool) (h es : List Event) (t : ℕ) → AllowedFrom pool [] h → AllowedFrom pool h es → IsNormal (h ++ es) t → IsNormal h t ⊎ (is_in t (normals es) ≡ true)
normal_on pool h [] t so all is = inl (subst (λ (k : List Event). IsNormal k t) (append-nil h) is)
normal_on pool h (e ∷ es) t so all is =
    ⊎_elim (λ was. ⊎_elim (λ old. inl old) (λ by. inr (front_here t (normal_by e) (normals es) by)) (normal_one pool h e t so all.0 was)) (λ later. inr (front_rest t (normal_by e) (normals es) later))
    (normal_on pool (h ++ e ∷ []) es t (allowed_more pool [] h e so all.0) all.1 (subst (λ (k : List Event). IsNormal k t) (sym (append_assoc h (e ∷ []) es)) is))

-- ---- which tasks a step makes normal

-- all are completers
abbrev AreCompleters : List Event → List Event → Type 0
AreCompleters h es = (t : ℕ) → is_in t (normals es) ≡ true → is_completer h t ≡ true

none_completers : (h es : List Event) → normals es ≡ [] → AreCompleters h es
none_completers h es none t there = absurd (true≢false (sym there ∙ ap (is_in t) none))

pub in_one : (c t : ℕ) → is_in t (c ∷ []) ≡ true → c ≡ t
in_one c t there = ⊎_elim (λ same. eqb-true c t same) (λ none. absurd cc) (or_cases (c == t) false there)

taking_none : (h : List Event) (w : ℕ) (t : Option ℕ) → normals (taking h w t) ≡ []
taking_none h w None = refl
taking_none h w (Some t) = go (is_undone (status h t))
  where
    go : (b : Bool) → normals ((if b then event.Out t w else event.Skip t w) ∷ []) ≡ []
    go true = refl
    go false = refl

arriving_none : (c : ℕ) (a : Arrival) → normals (arriving c a) ≡ []
arriving_none c climb.Spent = refl
arriving_none c climb.Counted = refl
arriving_none c climb.Early = refl
arriving_none c climb.Fires = refl

cancelling_none : (h : List Event) (t : ℕ) → normals (settling h t status_is.Cancelled) ≡ []
cancelling_none h t = go (is_undone (status h t))
  where
    go : (b : Bool) → normals (if b then event.Settle t status_is.Cancelled ∷ [] else []) ≡ []
    go true = refl
    go false = refl

failing_none : (h : List Event) (t code : ℕ) → normals (failing h t code) ≡ []
failing_none h t code = go (is_undone (status h t))
  where
    all : (us : List ℕ) → normals (map (λ u. event.Settle u (status_is.Exceptional code)) us) ≡ []
    all [] = refl
    all (u ∷ us) = all us

    go : (b : Bool) → normals (if b then map (λ u. event.Settle u (status_is.Exceptional code)) (relayed h t) else []) ≡ []
    go true = all (relayed h t)
    go false = refl

pub settling_one : (h : List Event) (c t : ℕ) → is_in t (normals (settling h c status_is.Normal)) ≡ true → c ≡ t
settling_one h c t = go (is_undone (status h c))
  where
    go : (b : Bool) → is_in t (normals (if b then event.Settle c status_is.Normal ∷ [] else [])) ≡ true → c ≡ t
    go true there = in_one c t there
    go false there = absurd cc

passes_none : (ds : List ℕ) (es : List Event) → normals (map event.Pass ds ++ es) ≡ normals es
passes_none [] es = refl
passes_none (d ∷ ds) es = passes_none ds es

root_normal : (h : List Event) (way : List ℕ) (root : Option ℕ) (t : ℕ) → is_in t (normals (pass_end h way root)) ≡ true → root ≡ Some t
root_normal h (c ∷ above) root t there = absurd (true≢false (sym there ∙ ap (is_in t) (arriving_none c (arrival h c))))
root_normal h [] (Some c) t there = ap Some (in_one c t there)
root_normal h [] None t there = absurd cc

root_completer : (pool : Pool) (h : List Event) (c t : ℕ) → AllowedFrom pool [] h → is_completer h c ≡ true → root_of (path h c) ≡ Some t → is_completer h t ≡ true
root_completer pool h c t so completer is = path_completers pool h c t so completer (get_is_in t (path h c) (length (path h c) - 1) is)

passing_completers : (pool : Pool) (h : List Event) (c : ℕ) → AllowedFrom pool [] h → is_completer h c ≡ true → AreCompleters h (passing h c)
passing_completers pool h c so completer t there =
    root_completer pool h c t so completer
    (root_normal h (drop (length (passed h c)) (path h c)) (root_of (path h c)) t
    (ap (is_in t) (sym (passes_none (passed h c) (pass_end h (drop (length (passed h c)) (path h c)) (root_of (path h c))))) ∙ there))

root_completers : (pool : Pool) (h : List Event) (c : ℕ) (root : Option ℕ) → AllowedFrom pool [] h → is_completer h c ≡ true → root_of (path h c) ≡ root → AreCompleters h (root_events h root)
root_completers pool h c None so completer is t there = absurd cc
root_completers pool h c (Some r) so completer is t there = root_completer pool h c t so completer (is ∙ ap Some (settling_one h r t there))

-- whether the step ends the body of a plain task with a result
abbrev pub is_ok : Step → Bool
is_ok (ask.End w ending_is.Ok) = true
is_ok _ = false

-- after the end of a body
after_completers : (pool : Pool) (h : List Event) (w t : ℕ) (ending : Ending) → AllowedFrom pool [] (h ++ event.End t w ∷ []) → is_misfit h ending (Some t) ≡ false → is_ok (ask.End w ending) ≡ false
    → AreCompleters h (after_end (h ++ event.End t w ∷ []) t ending)
after_completers pool h w t ending_is.Ok so fit other = absurd cc
after_completers pool h w t ending_is.Quiet so fit other = none_completers h [] refl
after_completers pool h w t ending_is.Try so fit other =
    let ended = h ++ event.End t w ∷ [] in none_completers h (arriving t (arrival ended t)) (arriving_none t (arrival ended t))
after_completers pool h w t ending_is.Pass so fit other =
    let e = event.End t w in
    λ u there. sym (completer_same h e u refl) ∙ passing_completers pool (h ++ e ∷ []) t so (completer_same h e t refl ∙ not-false (is_completer h t) fit) u there
after_completers pool h w t ending_is.Complete so fit other = go (is_spent (h ++ event.End t w ∷ []) t)
  where
    go : (b : Bool) → AreCompleters h (if b then [] else event.Fire t how_is.Complete ∷ [])
    go true = none_completers h [] refl
    go false = none_completers h (event.Fire t how_is.Complete ∷ []) refl
after_completers pool h w t (ending_is.Fail code) so fit other =
    let ended = h ++ event.End t w ∷ [] in none_completers h (failing ended t code) (failing_none ended t code)

end_completers : (pool : Pool) (h : List Event) (w : ℕ) (ending : Ending) → AllowedFrom pool [] h → Stands pool h (ask.End w ending) → is_ok (ask.End w ending) ≡ false
    → AreCompleters h (events_of pool h (ask.End w ending))
unfolding events_of
end_completers pool h w ending so st other = go (running h w) refl st.tests.1.1.1.0
  where
    go : (t : Option ℕ) → running h w ≡ t → is_misfit h ending t ≡ false → AreCompleters h (ending_events h w ending t)
    go None is fit = none_completers h [] refl
    go (Some t) is fit = after_completers pool h w t ending (allowed_more pool [] h (event.End t w) so (is, some_or_none (hand h w) st.tests.1.0)) fit other

-- after the end of a hook
hook_one : (h : List Event) (c t : ℕ) (p : Option ℕ) (b : Bool)
    → is_in t (normals ((if b then settling h c status_is.Normal else []) ++ above_hook (h ++ (if b then settling h c status_is.Normal else [])) c p)) ≡ true → c ≡ t
hook_one h c t p b there =
    let own = if b then settling h c status_is.Normal else [] in
    ⊎_elim (first b) (above (h ++ own) p)
    (or_cases (is_in t (normals own)) (is_in t (normals (above_hook (h ++ own) c p)))
    (sym (ap (is_in t) (filter_map-append normal_by own (above_hook (h ++ own) c p)) ∙ is_in_append t (normals own) (normals (above_hook (h ++ own) c p))) ∙ there))
  where
    first : (b : Bool) → is_in t (normals (if b then settling h c status_is.Normal else [])) ≡ true → c ≡ t
    first true here = settling_one h c t here
    first false here = absurd cc

    above : (k : List Event) (p : Option ℕ) → is_in t (normals (above_hook k c p)) ≡ true → c ≡ t
    above k None here = settling_one k c t here
    above k (Some p) here = absurd (true≢false (sym here ∙ ap (is_in t) (arriving_none p (arrival k p))))

hook_completers : (pool : Pool) (h : List Event) (w : ℕ) → AllowedFrom pool [] h → ClimbsCompleters h → AreCompleters h (events_of pool h (ask.HookDone w))
unfolding events_of
hook_completers pool h w so climbs = go (hand h w) refl
  where
    go : (c : Option ℕ) → hand h w ≡ c → AreCompleters h (hook_events h c)
    go None is = none_completers h [] refl
    go (Some c) is =
        let ended = h ++ event.Hooked c ∷ [] in
        λ t there. subst (λ u. is_completer h u ≡ true) (hook_one ended c t (parent h c) (is_fired_by_complete ended c) there) (climbs c (hand_climbed pool h w c so is))

step_completers : (pool : Pool) (h : List Event) (asked : Step) → AllowedFrom pool [] h → ClimbsCompleters h → Stands pool h asked → is_ok asked ≡ false → AreCompleters h (events_of pool h asked)
unfolding events_of
step_completers pool h (ask.Submit s k) so climbs st other = none_completers h (events_of pool h (ask.Submit s k)) refl
step_completers pool h (ask.Fork w k) so climbs st other = none_completers h (events_of pool h (ask.Fork w k)) refl
step_completers pool h (ask.Trigger w count) so climbs st other = none_completers h (events_of pool h (ask.Trigger w count)) refl
step_completers pool h (ask.Poll w r) so climbs st other = none_completers h (taking h w (choice pool h w r)) (taking_none h w (choice pool h w r))
step_completers pool h (ask.Help w r) so climbs st other = none_completers h (taking h w (choice pool h w r)) (taking_none h w (choice pool h w r))
step_completers pool h (ask.Join w t r) so climbs st other = go (is_undone (status h t))
  where
    go : (b : Bool) → AreCompleters h (if b then taking h w (choice pool h w r) else [])
    go true = none_completers h (taking h w (choice pool h w r)) (taking_none h w (choice pool h w r))
    go false = none_completers h [] refl
step_completers pool h (ask.End w ending) so climbs st other = end_completers pool h w ending so st other
step_completers pool h (ask.HookDone w) so climbs st other = hook_completers pool h w so climbs
step_completers pool h (ask.Add w c n) so climbs st other = none_completers h (event.Add c n ∷ []) refl
step_completers pool h (ask.QuietRoot w t) so climbs st other = root_completers pool h t (root_of (path h t)) so (not-false (is_completer h t) st.tests.1.1.1.1.0) refl
step_completers pool h (ask.Fault t code) so climbs st other = none_completers h (failing h t code) (failing_none h t code)
step_completers pool h (ask.Cancel t) so climbs st other = none_completers h (settling h t status_is.Cancelled) (cancelling_none h t)
step_completers pool h ask.Shutdown so climbs st other = go (is_closed h || is_stopped h)
  where
    go : (b : Bool) → AreCompleters h (if b then [] else event.Close ∷ [])
    go true = none_completers h [] refl
    go false = none_completers h (event.Close ∷ []) refl
step_completers pool h ask.Stop so climbs st other = go (is_stopped h)
  where
    go : (b : Bool) → AreCompleters h (if b then [] else event.Stop ∷ [])
    go true = none_completers h [] refl
    go false = none_completers h (event.Stop ∷ []) refl
step_completers pool h ask.IsQuiescent so climbs st other = none_completers h [] refl
step_completers pool h (ask.State t) so climbs st other = none_completers h [] refl
step_completers pool h (ask.Release t) so climbs st other = none_completers h (event.Rel t ∷ []) refl

pub answer_completers : (past : Past) (asked : Step) → IsPast past → is_ok asked ≡ false → AreCompleters past.events (answer past asked).1
answer_completers past asked run other = go (answered past asked)
  where
    go : Answered past asked (answer past asked).0 (answer past asked).1 → AreCompleters past.events (answer past asked).1
    go (Refuses r refused none) = none_completers past.events (answer past asked).1 (ap normals none)
    go (Makes none replied made) =
        rw made (step_completers past.pool past.events asked (history_allowed past run) (λ c there. climbed_completer past c run there) (stands past asked none) other)
