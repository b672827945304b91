-- What holds of every store, step by step.
use Rattle.std.proofs.Common.{ℕ, suc, ◌≡◌, ◌≤◌, ◌||◌, not, Bool, true, false, List, [], ◌∷◌, ◌++◌, length, Some, None, refl, ap, sym, ◌∙◌, subst, arith}
use Rattle.std.specs.List.{filter_map}
use Rattle.std.proofs.lemmas.Bool.{and_parts}
use Rattle.std.proofs.lemmas.List.{append-nil, map-append}
use Rattle.std.proofs.lemmas.List.Elements.{filter_map-append}
use Rattle.fj_rules.specs.declared.event.Event.{Event}
use Rattle.fj_rules.specs.declared.event.Event.TheVariants.{Acc, Make}
use Rattle.fj_rules.specs.declared.owner.Owner.{Owner}
use Rattle.fj_rules.specs.declared.kind.Kind.{Kind}
use Rattle.fj_rules.specs.declared.step.Step.{Step}
use Rattle.fj_rules.specs.declared.mode.Mode.{Mode}
use Rattle.fj_rules.specs.Bounds.{Bounds}
use Rattle.fj_rules.specs.Lists.{is_in}
use Rattle.fj_rules.specs.Climbs.{climbed}
use Rattle.fj_rules.specs.Tasks.{tasks, accepted_by, released, released_by, is_kept}
use Rattle.fj_rules.specs.Allowed.{Allowed, AllowedFrom}
use Rattle.fj_rules.specs.Answers.{answer}
use Rattle.fj_rules.specs.Pasts.{Past, grown, fresh}
use Rattle.fj_rules.specs.Epochs.{IsPast}
use Rattle.fj_rules.proofs.Lists.Members.{is_in_append}
use Rattle.fj_rules.specs.Completers.{is_spent}
use Rattle.fj_rules.proofs.Events.KindsKept.{kept_known}
use Rattle.fj_rules.proofs.Events.Lawful.{is_new}
use Rattle.fj_rules.proofs.Completers.Unknown.{unknown_unspent}
use Rattle.fj_rules.proofs.Completers.Unfired.{climbs_unfired}
use Rattle.fj_rules.proofs.Events.Releasing.{new_kept}
use Rattle.fj_rules.proofs.Completers.Climbed.{climbed_append}
use Rattle.fj_rules.proofs.Steps.AnswersAllowed.{history_allowed, answer_allowed, climbed_completer}
use Rattle.fj_slots.specs.Aside.{numbers}
use Rattle.fj_slots.specs.Shelves.{Entries, no_entries, with_entry, AreFewer}
use Rattle.fj_body.specs.Stores.{has_body, HoldsBodies, AreKept, NoneReleased, IsStored}
use Rattle.fj_rules.proofs.Steps.RunsGrow.{history_more}
use Rattle.fj_body.proofs.Bodies.{accept_bodies, make_bodies, new_free, has_kept, fewer_kept}
use Rattle.fj_body.proofs.Given.{given_on}
use Rattle.fj_body.proofs.InHands.{unreleased_on}

-- ---- lists of things under numbers

pub numbers_more : {T : Type 0} (items : List (ℕ × T)) (n : ℕ) (x : T) → numbers (items ++ (n, x) ∷ []) ≡ numbers items ++ n ∷ []
numbers_more items n x = map-append (λ i. i.0) items ((n, x) ∷ [])

pub numbers_long : {T : Type 0} (items : List (ℕ × T)) → length (numbers items) ≡ length items
numbers_long [] = refl
numbers_long (x ∷ items) = ap suc (numbers_long items)

-- ---- kept tasks

pub kept_on : (h es : List Event) (t : ℕ) → released es ≡ [] → is_kept h t ≡ true → is_kept (h ++ es) t ≡ true
unfolding is_kept tasks released
kept_on h es t none kept =
    let parts = and_parts (is_in t (filter_map accepted_by h)) (not (is_in t (filter_map released_by h))) kept in
    rw (filter_map-append accepted_by h es, filter_map-append released_by h es, none, append-nil (filter_map released_by h), is_in_append t (filter_map accepted_by h) (filter_map accepted_by es), parts.0, parts.1) refl

pub are_kept_on : (h es : List Event) (ts : List ℕ) → released es ≡ [] → AreKept h ts → AreKept (h ++ es) ts
are_kept_on h es ts none are = record { kept = λ t there. kept_on h es t none (are.kept t there); once = are.once }

-- ---- a step

-- a store after a step that releases nothing, where its bodies are again those of the queued and open tasks
pub stored_on : {B R : Type 0} (past new : Past) (asked : Step) (es : List Event) (bodies bodies' : Entries B) (results : Entries R) (ts : List ℕ) → IsStored past bodies results ts
    → new ≡ grown past (answer past asked).1 → (answer past asked).1 ≡ es → released es ≡ [] → HoldsBodies (past.events ++ es) bodies' → IsStored new bodies' results ts
stored_on {B} {R} past new asked es bodies bodies' results ts is grew made none held =
    subst (λ (p : Past). IsStored p bodies' results ts) (sym (grew ∙ ap (grown past) made)) (record {
      run = run;
      bodies_held = held;
      results_kept = λ t there. kept_on past.events es t none (is.results_kept t there);
      results_given = λ t there.
          given_on past.pool past.events es t (history_allowed past is.run) (rw made at (answer_allowed past asked is.run)) (kept_known past.events t (is.results_kept t there)) (is.results_given t there);
      taken_kept = are_kept_on past.events es ts none is.taken_kept;
      apart = is.apart;
      hooks_kept =
          unreleased_on past.pool past.events es (history_allowed past is.run) (rw made at (answer_allowed past asked is.run)) none
          (λ c there. climbed_completer (grown past es) c run (ap (is_in c) (climbed_append past.events es) ∙ is_in_append c (climbed past.events) (climbed es) ∙ rw there (or_true (is_in c (climbed past.events))))) is.hooks_kept;
    })
  where
    run : IsPast (grown past es)
    run = subst (λ (es : List Event). IsPast (grown past es)) made (history_more past asked is.run)

    or_true : (b : Bool) → (b || true) ≡ true
    or_true true = refl
    or_true false = refl

-- a step without events
pub same_stored : {B R : Type 0} (past new : Past) (asked : Step) (bodies : Entries B) (results : Entries R) (ts : List ℕ) → IsStored past bodies results ts
    → new ≡ grown past (answer past asked).1 → (answer past asked).1 ≡ [] → IsStored new bodies results ts
same_stored past new asked bodies results ts is grew none =
    subst (λ (p : Past). IsStored p bodies results ts) (sym (grew ∙ rw (none, append-nil past.events) refl)) is

-- ---- a task is accepted

pub none_released_acc : (t : ℕ) (o : Owner) (k : Kind) → released (Acc t o k ∷ []) ≡ []
unfolding released
none_released_acc t o k = refl

pub none_released_make : (t : ℕ) (k : Kind) → released (Make t k ∷ []) ≡ []
unfolding released
none_released_make t k = refl

pub accept_stored : {B R : Type 0} (past new : Past) (asked : Step) (t : ℕ) (o : Owner) (k : Kind) (bodies bodies' : Entries B) (x : B) (results : Entries R) (ts : List ℕ) → IsStored past bodies results ts
    → new ≡ grown past (answer past asked).1 → (answer past asked).1 ≡ Acc t o k ∷ [] → bodies' ≡ with_entry bodies t x → IsStored new bodies' results ts
accept_stored past new asked t o k bodies bodies' x results ts is grew made more =
    stored_on past new asked (Acc t o k ∷ []) bodies bodies' results ts is grew made (none_released_acc t o k)
    (rw more (accept_bodies past.pool past.events t o k bodies x (history_allowed past is.run) (rw made at (answer_allowed past asked is.run)).0 is.bodies_held))

pub make_stored : {B R : Type 0} (past new : Past) (asked : Step) (t : ℕ) (k : Kind) (bodies bodies' : Entries B) (x : B) (results : Entries R) (ts : List ℕ) → IsStored past bodies results ts
    → new ≡ grown past (answer past asked).1 → (answer past asked).1 ≡ Make t k ∷ [] → bodies' ≡ with_entry bodies t x → IsStored new bodies' results ts
make_stored past new asked t k bodies bodies' x results ts is grew made more =
    stored_on past new asked (Make t k ∷ []) bodies bodies' results ts is grew made (none_released_make t k)
    (rw more (make_bodies past.pool past.events t k bodies x so may unspent is.bodies_held))
  where
    so : AllowedFrom past.pool [] past.events
    so = history_allowed past is.run

    may : Allowed past.pool past.events (Make t k)
    may = (rw made at (answer_allowed past asked is.run)).0

    unspent : is_spent past.events t ≡ false
    unspent = unknown_unspent past.pool past.events t so (climbs_unfired past.events (λ c there. climbed_completer past c is.run there)) (is_new past.pool past.events (Make t k) t so may refl)

-- nothing stands under its number before
pub accept_free : {B R : Type 0} (past : Past) (asked : Step) (e : Event) (t : ℕ) (bodies : Entries B) (results : Entries R) (ts : List ℕ) → IsStored past bodies results ts
    → (answer past asked).1 ≡ e ∷ [] → accepted_by e ≡ Some t → bodies t ≡ None
accept_free past asked e t bodies results ts is made by = new_free past.pool past.events e t bodies (history_allowed past is.run) (rw made at (answer_allowed past asked is.run)).0 by is.bodies_held

-- and there is room for its body
pub accept_room : {B R : Type 0} (past : Past) (asked : Step) (e : Event) (t room : ℕ) (bodies : Entries B) (results : Entries R) (ts : List ℕ) → IsStored past bodies results ts
    → (answer past asked).1 ≡ e ∷ [] → accepted_by e ≡ Some t → released (e ∷ []) ≡ [] → past.pool.limits.tasks ≤ room → AreFewer bodies room
accept_room past asked e t room bodies results ts is made by none within =
    let so = history_allowed past is.run in
    let may : Allowed past.pool past.events e = (rw made at (answer_allowed past asked is.run)).0 in
    let run : IsPast (grown past (e ∷ [])) = subst (λ (es : List Event). IsPast (grown past es)) made (history_more past asked is.run) in
    fewer_kept past.pool (past.events ++ e ∷ []) bodies t room (history_allowed (grown past (e ∷ [])) run)
    (λ u there. kept_on past.events (e ∷ []) u none (has_kept past.pool past.events u so (sym (is.bodies_held u) ∙ there)))
    (new_kept past.pool past.events e t so may by) (accept_free past asked e t bodies results ts is made by) within

-- ---- a new store

nothing_held : (B : Type 0) → HoldsBodies {B = B} [] no_entries
unfolding has_body tasks
nothing_held B t = refl

none_kept : AreKept [] []
none_kept = record { kept = λ t there. absurd cc; once = λ t. omega arith }

none_hooked : NoneReleased []
unfolding released
none_hooked c there gone = absurd cc

pub fresh_stored : {B R : Type 0} (mode : Mode) (limits : Bounds) (bodies : Entries B) (results : Entries R) → bodies ≡ no_entries → results ≡ no_entries → IsStored (fresh mode limits) bodies results []
fresh_stored {B} {R} mode limits bodies results none none' =
    subst (λ (all : Entries B). IsStored (fresh mode limits) all results []) (sym none) (subst (λ (all : Entries R). IsStored {B = B} (fresh mode limits) no_entries all []) (sym none') (record {
      run = ([], [], refl);
      bodies_held = nothing_held B;
      results_kept = λ t there. absurd cc;
      results_given = λ t there. absurd cc;
      taken_kept = none_kept;
      apart = λ t there. refl;
      hooks_kept = none_hooked;
    }))
