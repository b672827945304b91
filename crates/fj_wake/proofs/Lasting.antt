-- What has still to come after some events.
use Rattle.std.proofs.Common.{ℕ, ◌≡◌, Bool, true, false, ◌&&◌, List, [], ◌∷◌, ◌++◌, drop, length, Option, Some, None, inl, inr, refl, ap, sym, ◌∙◌, subst}
use Rattle.std.specs.Prelude.{not, IfNone, Result, Err}
use Rattle.std.specs.List.{list_any}
use Rattle.std.proofs.Math.Seq.{drop-append_seam}
use Rattle.std.proofs.lemmas.Bool.{and_parts, or_parts}
use Rattle.std.proofs.lemmas.List.{append_assoc, append-nil}
use Rattle.fj_rules.specs.declared.event.Event.{Event}
use Rattle.fj_rules.specs.declared.event.Event.TheVariants.{Acc, Make, Out, Skip, End, Add, Dec, Fire, Pass, Hooked, Settle, Close, Stop, Rel}
use Rattle.fj_rules.specs.Allowed.{is_stop}
use Rattle.fj_rules.specs.Epochs.{IsPast}
use Rattle.fj_rules.specs.Lists.{is_in}
use Rattle.fj_rules.specs.Pasts.{Past, present}
use Rattle.fj_rules.specs.Statuses.{status, is_undone}
use Rattle.fj_rules.specs.Tasks.{is_kept, released, released_by, tasks}
use Rattle.fj_rules.proofs.Events.Lawful.{known_more}
use Rattle.fj_rules.proofs.Events.Releasing.{released_same}
use Rattle.fj_rules.proofs.Events.Spending.{settled_by, status_kept}
use Rattle.fj_rules.proofs.Headline.Parting.{past_begins}
use Rattle.fj_rules.specs.declared.refusal.Refusal.{Refusal}
use Rattle.fj_rules.specs.declared.refusal.Refusal.TheVariants.{LogFull}
use Rattle.fj_body.specs.declared.outcomes.Outcome.{Outcome}
use Rattle.fj_body.specs.Stores.{StaysInside, StoreState}
use Rattle.fj_calls.specs.declared.taken_in.Intake.{Intake}
use Rattle.fj_calls.specs.declared.taken_in.Intake.TheVariants as intake
use Rattle.fj_calls.specs.Booked.{booked_under}
use Rattle.fj_calls.specs.Cancels.{CancelsTicket, CancelsUnless}
use Rattle.fj_calls.specs.Closings.{is_due}
use Rattle.fj_calls.specs.Cores.{ChangesStore, CollectsTicket, CollectsUnless, CoreState, is_awaited, is_pending, unless_due}
use Rattle.fj_calls.specs.Intakes.{Intakes, Readies}
use Rattle.fj_wake.specs.News.{ends_task, has_ended, takes}
use Rattle.fj_calls.specs.Joins.{is_joinable}
use Rattle.fj_wake.specs.Waiting.{StillToCome}

-- ---- one event that ends no task

unstopped : (e : Event) → ends_task e ≡ false → is_stop e ≡ false
unstopped Stop none = absurd cc
unstopped _ none = refl

unsettled : (e : Event) (t : ℕ) → ends_task e ≡ false → settled_by e ≡ Some t → ⊥
unsettled (Settle u s) t none is = cc
unsettled (Acc u o k) t none is = cc
unsettled (Make u k) t none is = cc
unsettled (Out u w) t none is = cc
unsettled (Skip u w) t none is = cc
unsettled (End u w) t none is = cc
unsettled (Add c n) t none is = cc
unsettled (Dec c) t none is = cc
unsettled (Fire c how) t none is = cc
unsettled (Pass c) t none is = cc
unsettled (Hooked c) t none is = cc
unsettled Close t none is = cc
unsettled Stop t none is = cc
unsettled (Rel u) t none is = cc

unreleased : (e : Event) → ends_task e ≡ false → released_by e ≡ None
unreleased (Rel u) none = absurd cc
unreleased _ none = refl

kept_on : (h : List Event) (e : Event) (t : ℕ) → ends_task e ≡ false → is_kept h t ≡ true → is_kept (h ++ e ∷ []) t ≡ true
unfolding is_kept
kept_on h e t none was =
    let parts = and_parts (is_in t (tasks h)) (not (is_in t (released h))) was in
    rw (known_more h e t parts.0, released_same h e (unreleased e none), parts.1) refl

-- ---- some

-- whether somebody may wait for the end of a task
abbrev is_underway : List Event → ℕ → Bool
is_underway h t = is_kept h t && is_undone (status h t)

pub underway_on : (h es : List Event) (t : ℕ) → list_any ends_task es ≡ false → is_underway h t ≡ true → is_underway (h ++ es) t ≡ true
underway_on h [] t none was = rw (append-nil h) was
underway_on h (e ∷ es) t none was =
    let each = or_parts (ends_task e) (list_any ends_task es) none in
    let parts = and_parts (is_kept h t) (is_undone (status h t)) was in
    let one : is_underway (h ++ e ∷ []) t ≡ true =
    rw (kept_on h e t each.0 parts.0, status_kept h e t (unstopped e each.0) (unsettled e t each.0), parts.1) refl in
    subst (λ g. is_underway g t ≡ true) (append_assoc h (e ∷ []) es) (underway_on (h ++ e ∷ []) es t each.1 one)

-- ---- a core

-- the events behind those of before
news : (old new : Past) (es : List Event) → IsPast old → new.sealed ≡ old.sealed → new.events ≡ old.events ++ es → drop (length (present old)) (present new) ≡ es
news old new es run sealed grows =
    let all : new.events ≡ old.sealed ++ (present old ++ es) =
    grows ∙ ap (λ (h : List Event). h ++ es) (past_begins old run) ∙ append_assoc old.sealed (present old) es in
    let behind : present new ≡ present old ++ es =
    ap (λ (s : List Event). drop (length s) new.events) sealed ∙ ap (drop (length old.sealed)) all ∙ drop-append_seam old.sealed (present old ++ es) in
    ap (drop (length (present old))) behind ∙ drop-append_seam (present old) es

both_true : (x y : Bool) → x ≡ true → y ≡ true → (x && y) ≡ true
both_true true true left right = refl
both_true true false left right = right
both_true false y left right = left

module _ {B K O : Type 0} where
  -- nothing has ended: what was underway is
  joinable_on : (old new : CoreState B K O) (t : ℕ) → ((u : ℕ) → is_underway old.store.past.events u ≡ true → is_underway new.store.past.events u ≡ true) → new.store.stuck ≡ false
      → is_joinable old t ≡ true → is_joinable new t ≡ true
  joinable_on old new t on free was = rw (free, on t (and_parts (not old.store.stuck) (is_underway old.store.past.events t) was).1) refl

  pending_on : (old new : CoreState B K O) (booked : Option ℕ) → ((u : ℕ) → is_underway old.store.past.events u ≡ true → is_underway new.store.past.events u ≡ true)
      → new.bookings ≡ old.bookings → new.closing ≡ old.closing → is_pending booked old ≡ true → is_pending booked new ≡ true
  pending_on old new (Some t) on bookings closing was = on t was
  pending_on old new None on bookings closing was = rw (bookings, closing) was

  awaited_on : (old new : CoreState B K O) (k : ℕ) → ((u : ℕ) → is_underway old.store.past.events u ≡ true → is_underway new.store.past.events u ≡ true) → new.store.stuck ≡ false
      → new.bookings ≡ old.bookings → new.closing ≡ old.closing → is_awaited old k ≡ true → is_awaited new k ≡ true
  awaited_on old new k on free bookings closing was =
      let parts = and_parts (not old.store.stuck) (is_pending (booked_under old.bookings k) old) was in
      both_true (not new.store.stuck) (is_pending (booked_under new.bookings k) new) (ap not free)
      (subst (λ bs. is_pending (booked_under bs k) new ≡ true) (sym bookings) (pending_on old new (booked_under old.bookings k) on bookings closing parts.1))

  lasts : (old new : CoreState B K O) → ((u : ℕ) → is_underway old.store.past.events u ≡ true → is_underway new.store.past.events u ≡ true) → new.store.stuck ≡ false
      → new.bookings ≡ old.bookings → new.closing ≡ old.closing → StillToCome (is_joinable old) (is_awaited old) new
  lasts old new on free bookings closing = record {
    tasks = λ t. joinable_on old new t on free;
    outcomes = λ k. awaited_on old new k on free bookings closing;
  }

  -- after a call that reaches only the store, where no event since has ended a task
  pub stays_to_come : (old new : CoreState B K O) (place : ℕ) → IsPast old.store.past → StaysInside old.store new.store → ChangesStore old new → place ≡ length (present old.store.past)
      → new.store.stuck ≡ false → has_ended place new ≡ false → StillToCome (is_joinable old) (is_awaited old) new
  stays_to_come old new place run stays others at free none =
      let grows = stays.grows in
      let is : drop place (present new.store.past) ≡ grows.0 =
      ap (λ n. drop n (present new.store.past)) at ∙ news old.store.past new.store.past grows.0 run stays.past.sealed grows.1 in
      let nothing : list_any ends_task grows.0 ≡ false = ap (list_any ends_task) (sym is) ∙ none in
      lasts old new
      (λ u was. subst (λ h. is_underway h u ≡ true) (sym grows.1) (underway_on old.store.past.events grows.0 u nothing was))
      free (ap (λ (c : CoreState B K O). c.bookings) others) (ap (λ (c : CoreState B K O). c.closing) others)

  -- where the history is the same
  pub same_to_come : (old new : CoreState B K O) → new.store.past.events ≡ old.store.past.events → new.store.stuck ≡ false → new.bookings ≡ old.bookings → new.closing ≡ old.closing
      → StillToCome (is_joinable old) (is_awaited old) new
  same_to_come old new events free bookings closing = lasts old new (λ u was. subst (λ h. is_underway h u ≡ true) (sym events) was) free bookings closing

  -- the same, as a call has read how long the history was
  pub call_to_come : (old new : CoreState B K O) (machine : Past) (history : List Event) (place : ℕ) → machine ≡ old.store.past → history ≡ present machine → IsPast machine → place ≡ length history
      → StaysInside old.store new.store → ChangesStore old new → new.store.stuck ≡ false → has_ended place new ≡ false → StillToCome (is_joinable old) (is_awaited old) new
  call_to_come old new machine history place is events run at stays others free none =
      stays_to_come old new place (subst IsPast is run) stays others (at ∙ ap length events ∙ ap (λ p. length (present p)) is) free none

  same_store : (old new : CoreState B K O) → new ≡ old → ChangesStore old new
  same_store old new same = subst (ChangesStore old) (sym same) refl

  -- an outcome is asked for
  pub collects_change : (old new : CoreState B K O) (ticket : ℕ) (answer : Option (Result (Outcome B K O) Refusal)) → CollectsTicket old ticket answer new → ChangesStore old new
  collects_change old new ticket answer is = go old.store.stuck (booked_under old.bookings ticket) is
    where
      go : (stuck : Bool) (booked : Option ℕ) → CollectsUnless stuck booked old answer new → ChangesStore old new
      go true booked was = same_store old new was.1
      go false (Some t) was = was.1
      go false None was = same_store old new was.1

  undue : (due : Bool) → None ≡ unless_due {B = B} {K = K} {O = O} due → (not false && not due) ≡ true
  undue true is = absurd cc
  undue false is = refl

  -- where it cannot be told yet, it has still to come
  collects_none : (old new : CoreState B K O) (ticket : ℕ) → CollectsTicket old ticket None new → is_awaited new ticket ≡ true
  collects_none old new ticket is = go old.store.stuck refl (booked_under old.bookings ticket) refl is
    where
      go : (stuck : Bool) → old.store.stuck ≡ stuck → (booked : Option ℕ) → booked_under old.bookings ticket ≡ booked → CollectsUnless stuck booked old None new → is_awaited new ticket ≡ true
      go true stuck booked under was = absurd (let no : None ≡ Some (Err LogFull) = was.0 in cc)
      go false free (Some t) under was =
          subst (λ c. is_awaited c ticket ≡ true) (sym (was.1 ∙ ap (λ s. record old { store = s }) was.0.3))
          (rw (free, under, was.0.0, was.0.2) refl)
      go false free None under was = subst (λ c. is_awaited c ticket ≡ true) (sym was.1) (rw (free, under) (undue (is_due old.closing.number (length old.bookings)) was.0))

  pub awaited_where : (old new : CoreState B K O) (ticket : ℕ) (answer : Option (Result (Outcome B K O) Refusal)) → CollectsTicket old ticket answer new → IfNone answer (is_awaited new ticket ≡ true)
  awaited_where old new ticket (Some told) is = tt
  awaited_where old new ticket None is = collects_none old new ticket is

  -- a submission is cancelled
  pub cancels_change : (old new : CoreState B K O) (ticket : ℕ) (answer : Result Bool Refusal) → CancelsTicket old ticket answer new → ChangesStore old new
  cancels_change old new ticket answer is = go old.store.stuck (booked_under old.bookings ticket) is
    where
      go : (stuck : Bool) (booked : Option ℕ) → CancelsUnless stuck booked old answer new → ChangesStore old new
      go true booked was = same_store old new was.1
      go false (Some t) was = was.1
      go false None was = same_store old new was.1

  -- an intake that took nothing
  pub intakes_to_come : (rooted_as : B → Option ℕ) (old new : CoreState B K O) (s : ℕ) (answer : Intake) → Intakes rooted_as old s answer new → new.store.stuck ≡ false → takes answer ≡ false
      → StillToCome (is_joinable old) (is_awaited old) new
  intakes_to_come rooted_as old new s (intake.Full r) is free none =
      same_to_come old new (full is.0) free (ap (λ (c : CoreState B K O). c.bookings) is.1) (ap (λ (c : CoreState B K O). c.closing) is.1)
    where
      full : Readies old.store s (Some (intake.Full r)) new.store → new.store.past.events ≡ old.store.past.events
      full (inl was) = ap (λ (st : StoreState B K O). st.past.events) was.2
      full (inr now) = ap (λ (st : StoreState B K O). st.past.events) now.sticks
  intakes_to_come rooted_as old new s intake.Empty (inl was) free none =
      same_to_come old new (ap (λ (c : CoreState B K O). c.store.past.events) was.2) free (ap (λ (c : CoreState B K O). c.bookings) was.2) (ap (λ (c : CoreState B K O). c.closing) was.2)
  intakes_to_come rooted_as old new s intake.Empty (inr missed) free none =
      same_to_come old new (ap (λ (c : CoreState B K O). c.store.past.events) missed.missed) free (ap (λ (c : CoreState B K O). c.bookings) missed.missed) (ap (λ (c : CoreState B K O). c.closing) missed.missed)
  intakes_to_come rooted_as old new s (intake.Took serial) is free none = absurd cc
