-- Results are kept, and taken out.
use Rattle.std.proofs.Common.{ℕ, ◌≡◌, ◌⊎◌, inl, inr, ◌≤◌, ◌<◌, Bool, true, false, List, [], ◌∷◌, ◌++◌, length, Some, None, refl, ap, sym, ◌∙◌, subst, arith, length-append, ⊎_elim}
use Rattle.std.specs.Prelude.{if◌then◌else◌, ◌==◌, is_some}
use Rattle.std.proofs.lemmas.Bool.{eq-eqb, eqb-true, or_cases, true≢false}
use Rattle.fj_rules.specs.declared.event.Event.{Event}
use Rattle.fj_rules.specs.Lists.{is_in}
use Rattle.fj_rules.specs.Tasks.{is_kept}
use Rattle.fj_rules.specs.Epochs.{IsPast}
use Rattle.fj_rules.specs.Runs.{Past}
use Rattle.fj_rules.proofs.Lists.Members.{is_in_append, once_more}
use Rattle.fj_rules.proofs.Places.FewLive.{few_live}
use Rattle.fj_rules.proofs.Places.KeptPlaces.{few_kept}
use Rattle.fj_rules.proofs.Steps.AnswersAllowed.{history_allowed}
use Rattle.fj_slots.specs.Shelves.{Entries, Shelved, entries, with_entry, without_entry, AreFewer}
use Rattle.fj_body.specs.Results.{KeepsIn, Keeps, KeepsUnless}
use Rattle.fj_body.specs.Stores.{StoreState, AreKept, GivesNoMore, IsStored}
use Rattle.fj_body.proofs.Bodies.{fewer_kept}

-- ---- lists of kept tasks

pub few_are_kept : (past : Past) (ts : List ℕ) → IsPast past → AreKept past.events ts → length ts ≤ past.pool.limits.tasks
few_are_kept past ts run are =
    let so = history_allowed past run in
    omega (arith, few_live past.pool past.events so, few_kept past.pool past.events ts so are.once are.kept)

pub one_more_kept : (h : List Event) (ts : List ℕ) (t : ℕ) → AreKept h ts → is_kept h t ≡ true → is_in t ts ≡ false → AreKept h (ts ++ t ∷ [])
one_more_kept h ts t are kept new = record {
  kept = λ u there. ⊎_elim (are.kept u) (λ here. same u (⊎_elim (λ at. at) (λ none. absurd cc) (or_cases (t == u) false here))) (or_cases (is_in u ts) (is_in u (t ∷ [])) (rw is_in_append at there));
  once = once_more ts t new are.once;
}
  where
    same : (u : ℕ) → (t == u) ≡ true → is_kept h u ≡ true
    same u at = subst (λ v. is_kept h v ≡ true) (eqb-true t u at) kept

-- ---- a result more

pub result_stored : {B R : Type 0} (past : Past) (bodies : Entries B) (results results' : Entries R) (ts : List ℕ) (t : ℕ) (x : R) → IsStored past bodies results ts → is_kept past.events t ≡ true → GivesNoMore past.events t
    → is_in t ts ≡ false → results' ≡ with_entry results t x → IsStored past bodies results' ts
result_stored {B} {R} past bodies results results' ts t x is kept given free more = rw more (record {
  run = is.run;
  bodies_held = is.bodies_held;
  results_kept = λ u there. known u (t == u) refl there;
  results_given = λ u there. last u (t == u) refl there;
  taken_kept = is.taken_kept;
  apart = λ u there. none u (t == u) refl there;
  hooks_kept = is.hooks_kept;
})
  where
    known : (u : ℕ) (b : Bool) → (t == u) ≡ b → is_some (if b then Some x else results u) ≡ true → is_kept past.events u ≡ true
    known u true same there = subst (λ v. is_kept past.events v ≡ true) (eqb-true t u same) kept
    known u false same there = is.results_kept u there

    last : (u : ℕ) (b : Bool) → (t == u) ≡ b → is_some (if b then Some x else results u) ≡ true → GivesNoMore past.events u
    last u true same there = subst (GivesNoMore past.events) (eqb-true t u same) given
    last u false same there = is.results_given u there

    none : (u : ℕ) (b : Bool) → (t == u) ≡ b → is_in u ts ≡ true → (if b then Some x else results u) ≡ None
    none u true same there = absurd (true≢false (sym there ∙ ap (λ v. is_in v ts) (sym (eqb-true t u same)) ∙ free))
    none u false same there = is.apart u there

-- it is kept, unless it is marked
pub keeps_stored : {B R : Type 0} (past : Past) (bodies : Entries B) (results results' : Shelved R) (ts : List ℕ) (t : ℕ) (x : R) → IsStored past bodies (entries results) ts → is_kept past.events t ≡ true
    → GivesNoMore past.events t → KeepsIn (is_in t ts) results t x results' → IsStored past bodies (entries results') ts
keeps_stored {B} {R} past bodies results results' ts t x is kept given keeps = go (is_in t ts) refl keeps
  where
    go : (b : Bool) → is_in t ts ≡ b → KeepsIn b results t x results' → IsStored past bodies (entries results') ts
    go true at same = subst (λ (r : Shelved R). IsStored past bodies (entries r) ts) (sym same) is
    go false at more = result_stored past bodies (entries results) (entries results') ts t x is kept given at more.0

pub keeps_room : {R : Type 0} (b : Bool) (results results' : Shelved R) (t : ℕ) (x : R) → KeepsIn b results t x results' → results'.room ≡ results.room
keeps_room {R} true results results' t x same = ap (λ (r : Shelved R). r.room) same
keeps_room {R} false results results' t x more = more.1

pub result_room : {B R : Type 0} (past : Past) (bodies : Entries B) (results : Entries R) (ts : List ℕ) (t room : ℕ) → IsStored past bodies results ts → is_kept past.events t ≡ true → results t ≡ None
    → past.pool.limits.tasks ≤ room → AreFewer results room
result_room past bodies results ts t room is kept free within = fewer_kept past.pool past.events results t room (history_allowed past is.run) is.results_kept kept free within

-- ---- a result is taken out

pub in_one_more : (u t : ℕ) (ts : List ℕ) → is_in u (ts ++ t ∷ []) ≡ true → (is_in u ts ≡ true) ⊎ (t ≡ u)
in_one_more u t ts there =
    ⊎_elim (λ old. inl old) (λ new. inr (eqb-true t u (⊎_elim (λ here. here) (λ none. absurd cc) (or_cases (t == u) false new)))) (or_cases (is_in u ts) (is_in u (t ∷ [])) (rw is_in_append at there))

-- there is none any more, and the others stand as before
pub none_left : {R : Type 0} (results results' : Entries R) (t : ℕ) → results' ≡ without_entry results t → results' t ≡ None
none_left results results' t less = rw (less, eq-eqb t t refl) refl

pub less_stored : {B R : Type 0} (past : Past) (bodies : Entries B) (results results' : Entries R) (ts : List ℕ) (t : ℕ) → IsStored past bodies results ts → results' ≡ without_entry results t → IsStored past bodies results' ts
less_stored {B} {R} past bodies results results' ts t is less = rw less (record {
  run = is.run;
  bodies_held = is.bodies_held;
  results_kept = λ u there. is.results_kept u (before u (t == u) there);
  results_given = λ u there. is.results_given u (before u (t == u) there);
  taken_kept = is.taken_kept;
  apart = λ u there. none u (t == u) (is.apart u there);
  hooks_kept = is.hooks_kept;
})
  where
    before : (u : ℕ) (b : Bool) → is_some (if b then None else results u) ≡ true → is_some (results u) ≡ true
    before u true there = absurd cc
    before u false there = there

    none : (u : ℕ) (b : Bool) → results u ≡ None → (if b then None else results u) ≡ None
    none u true at = refl
    none u false at = at

-- a task that has no result is marked
pub marked_stored : {B R : Type 0} (past : Past) (bodies : Entries B) (results : Entries R) (ts : List ℕ) (t : ℕ) → IsStored past bodies results ts → is_kept past.events t ≡ true → is_in t ts ≡ false → results t ≡ None
    → IsStored past bodies results (ts ++ t ∷ [])
marked_stored past bodies results ts t is kept free none = record {
  run = is.run;
  bodies_held = is.bodies_held;
  results_kept = is.results_kept;
  results_given = is.results_given;
  taken_kept = one_more_kept past.events ts t is.taken_kept kept free;
  apart = λ u there. ⊎_elim (is.apart u) (λ same. ap results (sym same) ∙ none) (in_one_more u t ts there);
  hooks_kept = is.hooks_kept;
}

pub marked_room : {B R : Type 0} (past : Past) (bodies : Entries B) (results : Entries R) (ts : List ℕ) (t : ℕ) → IsStored past bodies results ts → is_kept past.events t ≡ true → is_in t ts ≡ false → length ts < past.pool.limits.tasks
marked_room past bodies results ts t is kept free =
    omega (arith, few_are_kept past (ts ++ t ∷ []) is.run (one_more_kept past.events ts t is.taken_kept kept free), length-append ts (t ∷ []))

-- ---- what the contracts say of it

module _ {B K O : Type 0} where
  pub keeps_store : (old : StoreState B K O) (t : ℕ) (kept : K × O) (results : Shelved (K × O)) → KeepsIn (is_in t old.taken) old.results t kept results → Keeps old t kept (record old { results = results })
  keeps_store old t kept results keeps = go (is_in t old.taken) keeps
    where
      go : (b : Bool) → KeepsIn b old.results t kept results → KeepsUnless b old t kept (record old { results = results })
      go true same = ap (λ (r : Shelved (K × O)). record old { results = r }) same
      go false more = (more.0, refl)
