-- A task gives one result at most.
use Rattle.std.proofs.Common.{ℕ, ◌≡◌, Bool, true, false, List, [], ◌∷◌, ◌++◌, map, Option, Some, None, refl, ap, sym, ◌∙◌, subst, append_assoc, ⊎_elim}
use Rattle.std.specs.Prelude.{is_some}
use Rattle.std.proofs.lemmas.Bool.{true≢false}
use Rattle.std.proofs.lemmas.List.{append-nil}
use Rattle.fj_rules.specs.declared.event.Event.{Event}
use Rattle.fj_rules.specs.declared.event.Event.TheVariants as event
use Rattle.fj_rules.specs.declared.event.How.{How}
use Rattle.fj_rules.specs.declared.event.How.TheVariants as how_is
use Rattle.fj_rules.specs.declared.place.Place.TheVariants.{Gone}
use Rattle.fj_rules.specs.Bounds.{Pool}
use Rattle.fj_rules.specs.Lists.{is_in}
use Rattle.fj_rules.specs.Tasks.{tasks, is_completer}
use Rattle.fj_rules.specs.Stacks.{stack}
use Rattle.fj_rules.specs.Completers.{is_spent}
use Rattle.fj_rules.specs.Hooks.{hooks, hand}
use Rattle.fj_rules.specs.Places.{place, is_gone}
use Rattle.fj_rules.specs.Allowed.{Allowed, AllowedFrom}
use Rattle.fj_rules.specs.Releasable.{hooked, is_hooked}
use Rattle.fj_rules.specs.declared.step.Step.TheVariants.{HookDone}
use Rattle.fj_rules.specs.Answers.{answer}
use Rattle.fj_rules.specs.Epochs.{IsPast}
use Rattle.fj_rules.specs.Runs.{Past}
use Rattle.fj_rules.proofs.Completers.Climbed.{hand_climbed}
use Rattle.fj_rules.proofs.Completers.Firings.{fires_unspent}
use Rattle.fj_rules.proofs.Events.Growth.{hooks_more}
use Rattle.fj_rules.proofs.Events.KindsKept.{completer_known, completer_still}
use Rattle.fj_rules.proofs.Events.Lawful.{allowed_more, known_more, not_new}
use Rattle.fj_rules.proofs.Events.Opening.{ended_accepted, ended_place}
use Rattle.fj_rules.proofs.Events.Spending.{spent_now}
use Rattle.fj_rules.proofs.Places.GoneList.{held_here}
use Rattle.fj_rules.proofs.Places.GoneTasks.{gone_stays, spent_stays}
use Rattle.fj_rules.proofs.Steps.AnswersAllowed.{answer_allowed, climbed_completer, history_allowed}
use Rattle.fj_rules.proofs.Completers.HookLists.{but_unlisted}
use Rattle.fj_slots.specs.Shelves.{Entries}
use Rattle.fj_body.specs.Stores.{IsGiven, GivesNoMore, IsStored}
use Rattle.fj_body.proofs.InHands.{after_one, in_hand_hooked}

-- ---- it stays so

spent_unfired : (pool : Pool) (h : List Event) (c : ℕ) (how : How) → Allowed pool h (event.Fire c how) → is_spent h c ≡ true → ⊥
spent_unfired pool h c how_is.Zero may spent = true≢false (sym spent ∙ fires_unspent h c may)
spent_unfired pool h c how_is.Complete may spent = true≢false (sym spent ∙ may.0)

given_more : (pool : Pool) (h : List Event) (e : Event) (t : ℕ) → AllowedFrom pool [] h → Allowed pool h e → is_in t (tasks h) ≡ true → GivesNoMore h t → GivesNoMore (h ++ e ∷ []) t
given_more pool h e t so may known given =
    subst (λ b. IsGiven b (h ++ e ∷ []) t) (sym (completer_still h e t (not_new pool h e t so may known))) (go (is_completer h t) given)
  where
    stays : (b : Bool) → is_in t (hooked (h ++ e ∷ [])) ≡ b → is_spent h t ≡ true → is_in t (hooked h) ≡ false → b ≡ false
    stays false at spent free = refl
    stays true at spent free =
        absurd (⊎_elim (λ old. true≢false (sym old ∙ free)) (λ new. spent_unfired pool h t new.0 (subst (Allowed pool h) new.1 may) spent) (after_one h e t at))

    go : (b : Bool) → IsGiven b h t → IsGiven b (h ++ e ∷ []) t
    go false gone = gone_stays pool h e t so may known gone
    go true parts = (spent_stays h e t parts.0, stays (is_in t (hooked (h ++ e ∷ []))) refl parts.0 parts.1)

pub given_on : (pool : Pool) (h es : List Event) (t : ℕ) → AllowedFrom pool [] h → AllowedFrom pool h es → is_in t (tasks h) ≡ true → GivesNoMore h t → GivesNoMore (h ++ es) t
given_on pool h [] t so all known given = subst (λ (k : List Event). GivesNoMore k t) (sym (append-nil h)) given
given_on pool h (e ∷ es) t so all known given =
    subst (λ (k : List Event). GivesNoMore k t) (append_assoc h (e ∷ []) es)
    (given_on pool (h ++ e ∷ []) es t (allowed_more pool [] h e so all.0) all.1 (known_more h e t known) (given_more pool h e t so all.0 known given))

-- ---- a completer whose completion action is in a hand is spent

abbrev pub HooksSpent : List Event → Type 0
HooksSpent h = (c : ℕ) → is_in c (hooked h) ≡ true → is_spent h c ≡ true

spent_on : (pool : Pool) (h es : List Event) → AllowedFrom pool [] h → AllowedFrom pool h es → HooksSpent h → HooksSpent (h ++ es)
spent_on pool h [] so all spent = subst HooksSpent (sym (append-nil h)) spent
spent_on pool h (e ∷ es) so all spent = subst HooksSpent (append_assoc h (e ∷ []) es) (spent_on pool (h ++ e ∷ []) es (allowed_more pool [] h e so all.0) all.1 one)
  where
    one : HooksSpent (h ++ e ∷ [])
    one c there = ⊎_elim (λ old. spent_stays h e c (spent c old)) (λ new. spent_now pool h e c so all.0 (rw new.1 refl)) (after_one h e c there)

none_hooked : HooksSpent []
unfolding hooks
none_hooked c there = absurd cc

pub hooks_spent : (pool : Pool) (h : List Event) → AllowedFrom pool [] h → HooksSpent h
hooks_spent pool h so = spent_on pool [] h tt so none_hooked

-- ---- it comes to be so

-- the body of a plain task has ended
pub ok_given : (pool : Pool) (h : List Event) (t w : ℕ) (rest : List Event) → AllowedFrom pool [] h → AllowedFrom pool h (event.End t w ∷ rest) → is_completer h t ≡ false → GivesNoMore (h ++ event.End t w ∷ rest) t
ok_given pool h t w rest so all plain =
    subst (λ (k : List Event). GivesNoMore k t) (append_assoc h (e ∷ []) rest)
    (given_on pool (h ++ e ∷ []) rest t (allowed_more pool [] h e so all.0) all.1 (known_more h e t known)
    (subst (λ b. IsGiven b (h ++ e ∷ []) t) (sym (completer_still h e t (not_new pool h e t so all.0 known) ∙ plain)) gone))
  where
    e : Event
    e = event.End t w

    known : is_in t (tasks h) ≡ true
    known = ended_accepted pool h t w so all.0

    place_is : place (h ++ e ∷ []) t ≡ Gone
    place_is = ended_place pool h t w so all.0 ∙ rw plain refl

    gone : is_gone (place (h ++ e ∷ []) t) ≡ true
    gone = ap is_gone place_is

-- the completion action has ended
hook_given : (pool : Pool) (h : List Event) (c : ℕ) (rest : List Event) → AllowedFrom pool [] h → AllowedFrom pool h (event.Hooked c ∷ rest) → is_completer h c ≡ true → is_in c (hooked h) ≡ true
    → GivesNoMore (h ++ event.Hooked c ∷ rest) c
hook_given pool h c rest so all completer there =
    subst (λ (k : List Event). GivesNoMore k c) (append_assoc h (e ∷ []) rest)
    (given_on pool (h ++ e ∷ []) rest c (allowed_more pool [] h e so all.0) all.1 (known_more h e c known)
    (subst (λ b. IsGiven b (h ++ e ∷ []) c) (sym (completer_still h e c (not_new pool h e c so all.0 known) ∙ completer)) (spent_stays h e c (hooks_spent pool h so c there), left)))
  where
    e : Event
    e = event.Hooked c

    known : is_in c (tasks h) ≡ true
    known = completer_known h c completer

    left : is_in c (hooked (h ++ e ∷ [])) ≡ false
    left = ap (λ s. is_in c (map (λ hook. hook.completer) s.in_hands)) (hooks_more h e) ∙ but_unlisted c (hooks h).in_hands

hook_completer : (past : Past) (w c : ℕ) → IsPast past → hand past.events w ≡ Some c → is_completer past.events c ≡ true
hook_completer past w c run at = climbed_completer past c run (hand_climbed past.pool past.events w c (history_allowed past run) at)

pub hook_ended : (past : Past) (w c : ℕ) (rest : List Event) → IsPast past → hand past.events w ≡ Some c → (answer past (HookDone w)).1 ≡ event.Hooked c ∷ rest → GivesNoMore (past.events ++ event.Hooked c ∷ rest) c
unfolding is_hooked
hook_ended past w c rest run at made =
    hook_given past.pool past.events c rest (history_allowed past run) (rw made at (answer_allowed past (HookDone w) run)) (hook_completer past w c run at) (in_hand_hooked past.events w c at)

-- ---- it has given none before

none_there : {R : Type 0} (o : Option R) → (is_some o ≡ true → ⊥) → o ≡ None
none_there None not_there = refl
none_there (Some x) not_there = absurd (not_there refl)

-- of a task whose body runs, and that is plain
pub held_none : {B R : Type 0} (past : Past) (w t : ℕ) (bodies : Entries B) (results : Entries R) (ts : List ℕ) → IsStored past bodies results ts → is_in t (stack past.events w) ≡ true → is_completer past.events t ≡ false
    → results t ≡ None
held_none past w t bodies results ts is there plain =
    none_there (results t) (λ has. true≢false (sym (subst (λ b. IsGiven b past.events t) plain (is.results_given t has)) ∙ held_here past.events w t there))

-- of a completer whose completion action is in a hand
pub hook_none : {B R : Type 0} (past : Past) (w c : ℕ) (bodies : Entries B) (results : Entries R) (ts : List ℕ) → IsStored past bodies results ts → hand past.events w ≡ Some c → results c ≡ None
unfolding is_hooked
hook_none past w c bodies results ts is at =
    none_there (results c) (λ has. true≢false (sym (in_hand_hooked past.events w c at) ∙ (subst (λ b. IsGiven b past.events c) (hook_completer past w c is.run at) (is.results_given c has)).1))
