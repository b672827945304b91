-- A plain task whose result was taken is released at once.
use Rattle.std.proofs.Common.{ℕ, ◌≡◌, ◌≢◌, inl, Bool, true, false, List, [], ◌∷◌, ◌++◌, Option, Some, None, refl, ap, sym, ◌∙◌, subst, ⊎_elim}
use Rattle.std.proofs.lemmas.Bool.{eq-eqb, or_right, true≢false}
use Rattle.fj_rules.specs.declared.event.Event.{Event}
use Rattle.fj_rules.specs.declared.event.Event.TheVariants.{Fire, Rel}
use Rattle.fj_rules.specs.declared.event.How.{How}
use Rattle.fj_rules.specs.declared.kind.Kind.{Kind}
use Rattle.fj_rules.specs.declared.kind.Kind.TheVariants.{Plain, Completer}
use Rattle.fj_rules.specs.declared.said.Said.TheVariants.{Done}
use Rattle.fj_rules.specs.declared.step.Step.TheVariants.{Release}
use Rattle.fj_rules.specs.Bounds.{Pool}
use Rattle.fj_rules.specs.Lists.{is_in, without}
use Rattle.fj_rules.specs.Tasks.{is_kept, is_completer, is_completer_kind, kind, parent, parent_in}
use Rattle.fj_rules.specs.Climbs.{climbed}
use Rattle.fj_rules.specs.Hooks.{hooks}
use Rattle.fj_rules.specs.Allowed.{Allowed, AllowedFrom}
use Rattle.fj_rules.specs.Answers.{answer}
use Rattle.fj_rules.specs.Epochs.{IsPast}
use Rattle.fj_rules.specs.Releasable.{can_go, hooked, is_hooked}
use Rattle.fj_rules.specs.Runs.{Past, grown}
use Rattle.fj_rules.proofs.Completers.Climbed.{climbed_append}
use Rattle.fj_rules.proofs.Events.Ends.{without_last}
use Rattle.fj_rules.proofs.Events.Lawful.{by_events}
use Rattle.fj_rules.proofs.Events.Releasable.{only_parent_goes}
use Rattle.fj_rules.proofs.Lists.Members.{Once, is_in_append, once_more}
use Rattle.fj_rules.proofs.Steps.AnswersAllowed.{climbed_completer, history_allowed}
use Rattle.fj_slots.specs.Shelves.{Entries, without_entry}
use Rattle.fj_body.specs.Stores.{StoreState, IsStored, HasResults}
use Rattle.fj_body.specs.Releases.{NoneGoes, Releases, ReleasesPlain}
use Rattle.fj_body.proofs.InHands.{after_one, climbed_fire}
use Rattle.fj_bodies.proofs.Results.{marked_stored}
use Rattle.fj_bodies.proofs.Releases.{release_stored, went}
use Rattle.fj_bodies.proofs.Chains.{one_in}
use Rattle.fj_bodies.proofs.DueTasks.{cannot}
use Rattle.fj_bodies.proofs.NoneLost.{marked_results, release_results}
use Rattle.fj_bodies.proofs.Upwards.{may_release}

-- ---- it has no completion action and no parent

abbrev HooksClimbed : List Event → Type 0
HooksClimbed h = (c : ℕ) → is_in c (hooked h) ≡ true → is_in c (climbed h) ≡ true

climbed_now : (pool : Pool) (h : List Event) (e : Event) → AllowedFrom pool [] h → HooksClimbed h → Allowed pool h e → HooksClimbed (h ++ e ∷ [])
climbed_now pool h e so climbs may c there =
    ap (is_in c) (climbed_append h (e ∷ [])) ∙ is_in_append c (climbed h) (climbed (e ∷ []))
    ∙ ⊎_elim (λ old. rw (climbs c old) refl) (λ new. or_right (is_in c (climbed h)) (is_in c (climbed (e ∷ []))) (fired new.0 new.1)) (after_one h e c there)
  where
    fired : (how : How) → e ≡ Fire c how → is_in c (climbed (e ∷ [])) ≡ true
    fired how is = rw (is, climbed_fire c how, eq-eqb c c refl) refl

none_hooked : HooksClimbed []
unfolding hooks
none_hooked c there = absurd cc

plain_unhooked : (past : Past) (t : ℕ) → IsPast past → is_completer past.events t ≡ false → is_hooked past.events t ≡ false
unfolding is_hooked
plain_unhooked past t run plain = go (is_in t (hooked past.events)) refl
  where
    go : (b : Bool) → is_in t (hooked past.events) ≡ b → b ≡ false
    go false at = refl
    go true at = absurd (true≢false (sym (climbed_completer past t run (by_events past.pool HooksClimbed none_hooked (climbed_now past.pool) past.events (history_allowed past run) t at)) ∙ plain))

plain_parent : (h : List Event) (t : ℕ) → is_completer h t ≡ false → parent h t ≡ None
unfolding is_completer parent
plain_parent h t plain = go (kind h t) plain
  where
    go : (k : Option Kind) → is_completer_kind k ≡ false → parent_in k ≡ None
    go None is = refl
    go (Some Plain) is = refl
    go (Some (Completer relay count p)) is = absurd cc

-- ---- its release

last_in : (t : ℕ) (ts : List ℕ) → is_in t (ts ++ t ∷ []) ≡ true
last_in t ts = is_in_append t ts (t ∷ []) ∙ or_right (is_in t ts) (is_in t (t ∷ [])) (rw (eq-eqb t t refl) refl)

plain_went : (past new : Past) (t : ℕ) → IsPast past → ReleasesPlain past t true new → (can_go past.events t ≡ true) × ((answer past (Release t)).1 ≡ Rel t ∷ [])
plain_went past new t run step = went past t Done (sym (plain_unhooked past t run step.0)) step.1.0 refl

plain_grown : (past new : Past) (t : ℕ) → IsPast past → ReleasesPlain past t true new → new ≡ grown past (Rel t ∷ [])
plain_grown past new t run step = step.1.1 ∙ ap (grown past) (plain_went past new t run step).1

-- no other task can go after it that could not go before
pub plain_due : (past new : Past) (ts : List ℕ) (t : ℕ) → IsPast past → is_in t ts ≡ false → NoneGoes past.events ts → ReleasesPlain past t true new → NoneGoes new.events ts
plain_due past new ts t run free none step u there = rw (plain_grown past new t run step) (cannot (past.events ++ Rel t ∷ []) u goes)
  where
    apart : u ≢ t
    apart same = true≢false (sym there ∙ ap (λ v. is_in v ts) same ∙ free)

    differs : ◌≡◌ {A = Option ℕ} None (Some u) → ⊥
    differs same = cc

    goes : can_go (past.events ++ Rel t ∷ []) u ≡ true → ⊥
    goes can =
        ⊎_elim (λ before. true≢false (sym before ∙ none u there)) (λ up. differs (sym (plain_parent past.events t step.0) ∙ up))
        (only_parent_goes past.pool past.events t u (history_allowed past run) (may_release past.pool past.events t (plain_went past new t run step).0) apart can)

pub plain_stored : {B R : Type 0} (past new : Past) (bodies : Entries B) (results : Entries R) (ts : List ℕ) (t : ℕ) → IsStored past bodies results ts → is_kept past.events t ≡ true → is_in t ts ≡ false → results t ≡ None
    → ReleasesPlain past t true new → IsStored new bodies results ts
plain_stored past new bodies results ts t is kept free none step =
    subst (IsStored new bodies results) (without_last ts t (once_more ts t free is.taken_kept.once))
    (subst (λ (p : Past). IsStored p bodies results (without (ts ++ t ∷ []) (t ∷ []))) (sym step.1.1)
    (release_stored past t bodies results (ts ++ t ∷ []) (marked_stored past bodies results ts t is kept free none) none (sym (plain_unhooked past t is.run step.0)) (plain_went past new t is.run step).1))

-- no result was lost: that of the task was taken out
pub plain_results : {R : Type 0} (past new : Past) (results results' : Entries R) (ts : List ℕ) (t : ℕ) → IsPast past → Once ts → is_in t ts ≡ false → HasResults past results ts → results' ≡ without_entry results t
    → ReleasesPlain past t true new → HasResults new results' ts
plain_results past new results results' ts t run once free has less step =
    subst (HasResults new results') (without_last ts t (once_more ts t free once))
    (release_results past new t results' (ts ++ t ∷ []) run (marked_results past results results' ts t has less) (plain_went past new t run step).1 step.1.1)

pub plain_releases : {B K O : Type 0} (old : StoreState B K O) (new : Past) (t : ℕ) → IsPast old.past → Once old.taken → is_in t old.taken ≡ false → NoneGoes old.past.events old.taken
    → ReleasesPlain old.past t true new → Releases (record old { taken = old.taken ++ t ∷ [] }) (record old { past = new })
plain_releases old new t run once free none step = record {
  tasks = t ∷ [];
  were_taken = one_in t (old.taken ++ t ∷ []) (last_in t old.taken);
  could = ((plain_went old.past new t run step).0, tt);
  were = rw (plain_grown old.past new t run step, without_last old.taken t (once_more old.taken t free once)) refl;
  rests = inl (refl, plain_due old.past new old.taken t run free none step);
}
