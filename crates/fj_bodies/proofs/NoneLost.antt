-- No result is lost.
use Rattle.std.proofs.Common.{ℕ, ◌≡◌, ◌⊎◌, inl, inr, Bool, true, false, not, List, [], ◌∷◌, ◌++◌, Some, None, refl, ap, sym, ◌∙◌, subst, ⊎_elim}
use Rattle.std.specs.Prelude.{if◌then◌else◌, ◌==◌, ◌&&◌, is_some, Result, Ok, Err, OnOk, OnErr}
use Rattle.std.proofs.lemmas.Bool.{eq-eqb, eqb-true, or_cases, or_parts, true≢false}
use Rattle.fj_rules.specs.declared.event.Event.{Event}
use Rattle.fj_rules.specs.declared.event.Event.TheVariants as event
use Rattle.fj_rules.specs.declared.mode.Mode.{Mode}
use Rattle.fj_rules.specs.declared.refusal.Refusal.{Refusal}
use Rattle.fj_rules.specs.declared.said.Said.{Said}
use Rattle.fj_rules.specs.declared.said.Said.TheVariants as says
use Rattle.fj_rules.specs.declared.step.Ending.{Ending}
use Rattle.fj_rules.specs.declared.step.Ending.TheVariants as ending_is
use Rattle.fj_rules.specs.declared.step.Step.{Step}
use Rattle.fj_rules.specs.declared.step.Step.TheVariants as ask
use Rattle.fj_rules.specs.Bounds.{Bounds}
use Rattle.fj_rules.specs.Lists.{is_in, without}
use Rattle.fj_rules.specs.Tasks.{tasks, is_kept, is_completer}
use Rattle.fj_rules.specs.Answers.{answer}
use Rattle.fj_rules.specs.ChoiceTaken.{TakesChoice}
use Rattle.fj_rules.specs.Epochs.{IsPast}
use Rattle.fj_rules.specs.Pasts.{fresh, sealed_now}
use Rattle.fj_rules.specs.Runs.{Past, grown}
use Rattle.fj_rules.proofs.Lists.Members.{is_in_append, is_in_filter}
use Rattle.fj_rules.proofs.Completers.Climbed.{completer_stays_all}
use Rattle.fj_rules.proofs.Events.Releasing.{release_forgets}
use Rattle.fj_rules.proofs.Steps.Answered.{OkDone}
use Rattle.fj_rules.proofs.Steps.AnswersAllowed.{answer_allowed, history_allowed}
use Rattle.fj_slots.specs.Shelves.{Entries, Shelved, entries, without_entry}
use Rattle.fj_body.specs.Stores.{HasResults, hooks_ended}
use Rattle.fj_body.specs.declared.bare_ending.BareEnding.{BareEnding}
use Rattle.fj_body.specs.declared.bare_ending.BareEnding.TheVariants as bare_is
use Rattle.fj_body.specs.Asking.{is_calm}
use Rattle.fj_body.specs.Endings.{ending_in}
use Rattle.fj_body.specs.Results.{KeepsIn}
use Rattle.fj_bodies.proofs.HooksEnded.{EndsOnly, answer_ends_none, ended_cases, ended_known, is_hook_done, known_kept}
use Rattle.fj_bodies.proofs.Normals.{IsNormal, answer_completers, is_ok, normal_on, normals, settling_one}

-- ---- which tasks have to have their results

-- a kept task that gave one
data Gave (h : List Event) (t : ℕ) : Type 0 where
  AsPlain : IsNormal h t → Gave h t
  InHook : is_kept h t ≡ true → is_in t (hooks_ended h) ≡ true → Gave h t

gave_kept : (h : List Event) (t : ℕ) → Gave h t → is_kept h t ≡ true
gave_kept h t (AsPlain is) = is.kept
gave_kept h t (InHook kept ended) = kept

abbrev HasAll : {R : Type 0} → Past → Entries R → List ℕ → Type 0
HasAll past results ts = (t : ℕ) → Gave past.events t → is_in t ts ≡ false → is_some (results t) ≡ true

has_all : {R : Type 0} (past : Past) (results : Entries R) (ts : List ℕ) → HasResults past results ts → HasAll past results ts
has_all past results ts has t (AsPlain is) free = has.plain t is.kept is.plain is.normal free
has_all past results ts has t (InHook kept ended) free = has.hooked t kept ended free

all_has : {R : Type 0} (past : Past) (results : Entries R) (ts : List ℕ) → HasAll past results ts → HasResults past results ts
all_has past results ts all = record {
  hooked = λ c kept ended free. all c (InHook kept ended) free;
  plain = λ t kept plain normal free. all t (AsPlain (record { kept = kept; plain = plain; normal = normal })) free;
}

-- one that gave its result gave it before the step, or gives it by the step
data Came (past : Past) (asked : Step) (t : ℕ) : Type 0 where
  Before : Gave past.events t → Came past asked t
  Settled : is_completer (past.events ++ (answer past asked).1) t ≡ false → is_in t (normals (answer past asked).1) ≡ true → Came past asked t
  Ended : is_in t (hooks_ended (answer past asked).1) ≡ true → Came past asked t

came : (past : Past) (asked : Step) (t : ℕ) → IsPast past → Gave (past.events ++ (answer past asked).1) t → Came past asked t
came past asked t run (AsPlain is) =
    ⊎_elim (λ was. Before (AsPlain was)) (λ now. Settled is.plain now)
    (normal_on past.pool past.events (answer past asked).1 t (history_allowed past run) (answer_allowed past asked run) is)
came past asked t run (InHook kept ended) =
    ⊎_elim (λ was. Before (InHook (known_kept past.events (answer past asked).1 t (ended_known past t run was) kept) was)) (λ now. Ended now)
    (ended_cases past.events (answer past asked).1 t ended)

-- a step that does not end a plain task's body with a result settles no plain task as normal
unsettled : (past : Past) (asked : Step) (t : ℕ) → IsPast past → is_ok asked ≡ false → is_completer (past.events ++ (answer past asked).1) t ≡ false → is_in t (normals (answer past asked).1) ≡ true → ⊥
unsettled past asked t run other plain there =
    true≢false (sym (completer_stays_all past.events (answer past asked).1 t (answer_completers past asked run other t there)) ∙ plain)

unended : (past : Past) (asked : Step) (t : ℕ) → is_hook_done asked ≡ false → is_in t (hooks_ended (answer past asked).1) ≡ true → ⊥
unended past asked t other there = true≢false (sym there ∙ ap (is_in t) (answer_ends_none past asked other))

-- ---- a step by which no result is given

gave_before : (past : Past) (asked : Step) (t : ℕ) → IsPast past → is_ok asked ≡ false → is_hook_done asked ≡ false → Gave (past.events ++ (answer past asked).1) t → Gave past.events t
gave_before past asked t run not_ok not_hook gave = go (came past asked t run gave)
  where
    go : Came past asked t → Gave past.events t
    go (Before was) = was
    go (Settled plain there) = absurd (unsettled past asked t run not_ok plain there)
    go (Ended there) = absurd (unended past asked t not_hook there)

pub step_results : {R : Type 0} (past new : Past) (asked : Step) (results : Entries R) (ts : List ℕ) → IsPast past → is_ok asked ≡ false → is_hook_done asked ≡ false → new ≡ grown past (answer past asked).1
    → HasResults past results ts → HasResults new results ts
step_results past new asked results ts run not_ok not_hook grew has =
    subst (λ (p : Past). HasResults p results ts) (sym grew)
    (all_has (grown past (answer past asked).1) results ts (λ t gave free. has_all past results ts has t (gave_before past asked t run not_ok not_hook gave) free))

-- one that hands out no task and ends no body
pub calm_results : {R : Type 0} (past new : Past) (asked : Step) (results : Entries R) (ts : List ℕ) → IsPast past → is_calm asked ≡ true → new ≡ grown past (answer past asked).1 → HasResults past results ts
    → HasResults new results ts
calm_results past new asked results ts run calm grew has = step_results past new asked results ts run (no_ok asked calm) (no_hook asked calm) grew has
  where
    no_ok : (asked : Step) → is_calm asked ≡ true → is_ok asked ≡ false
    no_ok (ask.End w ending) calm = absurd cc
    no_ok _ calm = refl

    no_hook : (asked : Step) → is_calm asked ≡ true → is_hook_done asked ≡ false
    no_hook (ask.HookDone w) calm = absurd cc
    no_hook _ calm = refl

-- a body ends without a result
pub bare_results : {R : Type 0} (past new : Past) (w : ℕ) (bare : BareEnding) (ending : Ending) (results : Entries R) (ts : List ℕ) → IsPast past → ending ≡ ending_in bare
    → new ≡ grown past (answer past (ask.End w ending)).1 → HasResults past results ts → HasResults new results ts
bare_results past new w bare ending results ts run is grew has = step_results past new (ask.End w ending) results ts run (ap (λ e. is_ok (ask.End w e)) is ∙ no_ok bare) refl grew has
  where
    no_ok : (bare : BareEnding) → is_ok (ask.End w (ending_in bare)) ≡ false
    no_ok bare_is.Quiet = refl
    no_ok bare_is.Try = refl
    no_ok bare_is.Pass = refl
    no_ok bare_is.Complete = refl
    no_ok (bare_is.Fail code) = refl

-- the worker takes its choice
choice_gives_none : (w : ℕ) (reply : Said) (es : List Event) → TakesChoice w reply es → (normals es ≡ []) × (hooks_ended es ≡ [])
unfolding hooks_ended
choice_gives_none w (says.Run t) es takes = rw takes (refl, refl)
choice_gives_none w (says.Skip t) es takes = rw takes (refl, refl)
choice_gives_none w says.None es takes = rw takes (refl, refl)
choice_gives_none w (says.Refused r) es takes = rw takes (refl, refl)
choice_gives_none w says.Normal es takes = rw takes (refl, refl)
choice_gives_none w (says.Exceptional code) es takes = rw takes (refl, refl)
choice_gives_none w says.Cancelled es takes = rw takes (refl, refl)
choice_gives_none w _ es takes = absurd takes

pub choice_results : {R : Type 0} (past new : Past) (asked : Step) (w : ℕ) (results : Entries R) (ts : List ℕ) → IsPast past → TakesChoice w (answer past asked).0 (answer past asked).1
    → new ≡ grown past (answer past asked).1 → HasResults past results ts → HasResults new results ts
choice_results past new asked w results ts run takes grew has =
    subst (λ (p : Past). HasResults p results ts) (sym grew)
    (all_has (grown past (answer past asked).1) results ts (λ t gave free. has_all past results ts has t (go t (came past asked t run gave)) free))
  where
    none : (normals (answer past asked).1 ≡ []) × (hooks_ended (answer past asked).1 ≡ [])
    none = choice_gives_none w (answer past asked).0 (answer past asked).1 takes

    go : (t : ℕ) → Came past asked t → Gave past.events t
    go t (Before was) = was
    go t (Settled plain there) = absurd (true≢false (sym there ∙ ap (is_in t) none.0))
    go t (Ended there) = absurd (true≢false (sym there ∙ ap (is_in t) none.1))

-- ---- a new store, and a seal

pub fresh_results : {R : Type 0} (mode : Mode) (limits : Bounds) (results : Entries R) → HasResults (fresh mode limits) results []
unfolding is_kept tasks
fresh_results mode limits results = record { hooked = λ c kept ended free. absurd cc; plain = λ t kept plain normal free. absurd cc }

pub seal_results : {R T : Type 0} (r : Result T Refusal) (past new : Past) (results : Entries R) (ts : List ℕ) → HasResults past results ts → OnOk r (new ≡ sealed_now past) → OnErr r (new ≡ past) → HasResults new results ts
seal_results {R} {T} (Ok part) past new results ts has sealed stays = subst (λ (p : Past). HasResults p results ts) (sym sealed) (record { hooked = has.hooked; plain = has.plain })
seal_results {R} {T} (Err r) past new results ts has sealed stays = subst (λ (p : Past). HasResults p results ts) (sym stays) has

-- ---- a result is given

kept_here : {R : Type 0} (b : Bool) (results results' : Shelved R) (t : ℕ) (x : R) → KeepsIn b results t x results' → b ≡ false → is_some (entries results' t) ≡ true
kept_here false results results' t x keeps free = rw (keeps.0, eq-eqb t t refl) refl
kept_here true results results' t x keeps free = absurd cc

kept_there : {R : Type 0} (b : Bool) (results results' : Shelved R) (t u : ℕ) (x : R) → KeepsIn b results t x results' → is_some (entries results u) ≡ true → is_some (entries results' u) ≡ true
kept_there {R} true results results' t u x keeps there = ap (λ (s : Shelved R). is_some (entries s u)) keeps ∙ there
kept_there {R} false results results' t u x keeps there = rw keeps.0 (go (t == u))
  where
    go : (same : Bool) → is_some (if same then Some x else entries results u) ≡ true
    go true = refl
    go false = there

-- by a step by which only this task gives one
giving_results : {R : Type 0} (past new : Past) (asked : Step) (t : ℕ) (x : R) (results results' : Shelved R) (ts : List ℕ) → new ≡ grown past (answer past asked).1
    → ((u : ℕ) → Gave (past.events ++ (answer past asked).1) u → Gave past.events u ⊎ (t ≡ u)) → KeepsIn (is_in t ts) results t x results' → HasResults past (entries results) ts → HasResults new (entries results') ts
giving_results {R} past new asked t x results results' ts grew one keeps has =
    subst (λ (p : Past). HasResults p (entries results') ts) (sym grew)
    (all_has (grown past (answer past asked).1) (entries results') ts (λ u gave free. ⊎_elim (old u free) (now u free) (one u gave)))
  where
    old : (u : ℕ) → is_in u ts ≡ false → Gave past.events u → is_some (entries results' u) ≡ true
    old u free was = kept_there (is_in t ts) results results' t u x keeps (has_all past (entries results) ts has u was free)

    now : (u : ℕ) → is_in u ts ≡ false → t ≡ u → is_some (entries results' u) ≡ true
    now u free here = subst (λ v. is_some (entries results' v) ≡ true) here (kept_here (is_in t ts) results results' t x keeps (ap (λ v. is_in v ts) here ∙ free))

-- the body of a plain task ends
pub ok_results : {R : Type 0} (past new : Past) (w t : ℕ) (x : R) (results results' : Shelved R) (ts : List ℕ) → IsPast past → new ≡ grown past (answer past (ask.End w ending_is.Ok)).1
    → (done : OkDone past.events w (answer past (ask.End w ending_is.Ok)).1) → t ≡ done.task → KeepsIn (is_in t ts) results t x results' → HasResults past (entries results) ts
    → HasResults new (entries results') ts
ok_results past new w t x results results' ts run grew done same keeps has =
    giving_results past new asked t x results results' ts grew (λ u gave. go u (came past asked u run gave)) keeps has
  where
    asked : Step
    asked = ask.End w ending_is.Ok

    go : (u : ℕ) → Came past asked u → Gave past.events u ⊎ (t ≡ u)
    go u (Before was) = inl was
    go u (Settled plain there) = inr (same ∙ settling_one (past.events ++ event.End done.task w ∷ []) done.task u (ap (λ (es : List Event). is_in u (normals es)) (sym done.made) ∙ there))
    go u (Ended there) = absurd (unended past asked u refl there)

-- the completion action of a completer ends
pub hook_results : {R : Type 0} (past new : Past) (w t c : ℕ) (x : R) (results results' : Shelved R) (ts : List ℕ) → IsPast past → new ≡ grown past (answer past (ask.HookDone w)).1
    → EndsOnly c (answer past (ask.HookDone w)).1 → t ≡ c → KeepsIn (is_in t ts) results t x results' → HasResults past (entries results) ts → HasResults new (entries results') ts
hook_results past new w t c x results results' ts run grew only same keeps has =
    giving_results past new asked t x results results' ts grew (λ u gave. go u (came past asked u run gave)) keeps has
  where
    asked : Step
    asked = ask.HookDone w

    go : (u : ℕ) → Came past asked u → Gave past.events u ⊎ (t ≡ u)
    go u (Before was) = inl was
    go u (Settled plain there) = absurd (unsettled past asked u run refl plain there)
    go u (Ended there) = inr (same ∙ only u there)

-- ---- a result is taken out

pub marked_results : {R : Type 0} (past : Past) (results results' : Entries R) (ts : List ℕ) (t : ℕ) → HasResults past results ts → results' ≡ without_entry results t → HasResults past results' (ts ++ t ∷ [])
marked_results {R} past results results' ts t has less = rw less (all_has past (without_entry results t) (ts ++ t ∷ []) others)
  where
    go : (u : ℕ) (b : Bool) → b ≡ false → is_some (results u) ≡ true → is_some (if b then None else results u) ≡ true
    go u true other there = absurd cc
    go u false other there = there

    others : HasAll past (without_entry results t) (ts ++ t ∷ [])
    others u gave free =
        let parts = or_parts (is_in u ts) (is_in u (t ∷ [])) (sym (is_in_append u ts (t ∷ [])) ∙ free) in
        go u (t == u) (or_parts (t == u) false parts.1).0 (has_all past results ts has u gave parts.0)

-- ---- a task is released

pub release_results : {R : Type 0} (past new : Past) (t : ℕ) (results : Entries R) (ts : List ℕ) → IsPast past → HasResults past results ts → (answer past (ask.Release t)).1 ≡ event.Rel t ∷ []
    → new ≡ grown past (answer past (ask.Release t)).1 → HasResults new results (without ts (t ∷ []))
release_results past new t results ts run has made grew =
    let more = step_results past new (ask.Release t) results ts run refl refl grew has in
    all_has new results (without ts (t ∷ [])) (λ u gave free. has_all new results ts more u gave (left u free (apart u (gave_kept new.events u gave))))
  where
    apart : (u : ℕ) → is_kept new.events u ≡ true → (t == u) ≡ true → ⊥
    apart u kept same =
        true≢false (sym kept ∙ ap (is_kept new.events) (sym (eqb-true t u same)) ∙ ap (λ (p : Past). is_kept p.events t) grew ∙ ap (λ (es : List Event). is_kept (past.events ++ es) t) made ∙ release_forgets past.events t)

    both : (a b : Bool) → (a && not b) ≡ false → (b ≡ true → ⊥) → a ≡ false
    both false b none other = refl
    both true false none other = absurd cc
    both true true none other = absurd (other refl)

    left : (u : ℕ) → is_in u (without ts (t ∷ [])) ≡ false → ((t == u) ≡ true → ⊥) → is_in u ts ≡ false
    left u free other =
        both (is_in u ts) (is_in u (t ∷ [])) (sym (is_in_filter (λ v. not (is_in v (t ∷ []))) u ts) ∙ free) (λ here. ⊎_elim other (λ none. absurd cc) (or_cases (t == u) false here))
