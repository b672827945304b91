-- What each call leaves: the core after it continues the one before it. And what stays true of a core that is continued.
use Rattle.std.proofs.Common.{ℕ, ◌≡◌, ◌+◌, zero, suc, Bool, true, false, ◌||◌, inl, inr, List, [], ◌∷◌, ◌++◌, get_or, length, Option, Some, None, option_map, refl, ap, sym, ◌∙◌, subst, append_assoc}
use Rattle.std.specs.Prelude.{⊤, Contains, Result, Ok, Err, IfNone, IfOk, IfSome}
use Rattle.std.specs.List.{find}
use Rattle.std.specs.Option.{option_or}
use Rattle.std.proofs.lemmas.List.{append-nil}
use Rattle.std.proofs.lemmas.List.Elements.{All-contains, All-push, Contains-append_left, Contains-push}
use Rattle.std.proofs.lemmas.List.Folds.{find-append, list_any-append}
use mathlib.Core.List.{IsPrefix}
use Rattle.fj_rules.specs.declared.event.Event.{Event}
use Rattle.fj_rules.specs.declared.refusal.Refusal.{Refusal}
use Rattle.fj_rules.specs.declared.refusal.Refusal.TheVariants.{LogFull}
use Rattle.fj_rules.specs.declared.status.Status.{Status}
use Rattle.fj_rules.specs.declared.status.Status.TheVariants.{Undone, Normal, Exceptional, Cancelled}
use Rattle.fj_rules.specs.declared.step.Step.{Step}
use Rattle.fj_rules.specs.declared.step.Step.TheVariants as ask
use Rattle.fj_rules.specs.declared.said.Said.{Said}
use Rattle.fj_rules.specs.declared.said.Said.TheVariants as says
use Rattle.fj_rules.specs.Allowed.{is_close, is_closed, is_stop, is_stopped}
use Rattle.fj_rules.specs.Answers.{answer}
use Rattle.fj_rules.specs.Lists.{or_else}
use Rattle.fj_rules.specs.Pasts.{Past}
use Rattle.fj_rules.specs.Runs.{Steps}
use Rattle.fj_rules.specs.Statuses.{accepts, is_undone, or_undone, status, status_by, status_from}
use Rattle.fj_slots.specs.Hands.{HandState, newest_note}
use Rattle.fj_slots.specs.Shelves.{entries}
use Rattle.fj_body.specs.declared.body.Ask.{Ask}
use Rattle.fj_body.specs.declared.body.Ask.TheVariants as asks
use Rattle.fj_body.specs.declared.body.Told.{Told}
use Rattle.fj_body.specs.declared.body.Told.TheVariants as told
use Rattle.fj_body.specs.declared.outcomes.Outcome.{Outcome}
use Rattle.fj_body.specs.declared.outcomes.Outcome.TheVariants as outcomes
use Rattle.fj_body.specs.Asking.{Drops}
use Rattle.fj_body.specs.Results.{outcome_of, status_in}
use Rattle.fj_body.specs.Stores.{StoreState, StaysInside}
use Rattle.fj_body.proofs.Frames.{collects_stay, polls_stay, releases_stay, same_past_stays}
use Rattle.fj_body.proofs.Acts.{acts_stay}
use Rattle.fj_calls.specs.declared.booking.Booking.{Booking}
use Rattle.fj_calls.specs.declared.cutoff.Cutoff.{Cutoff}
use Rattle.fj_calls.specs.declared.taken_in.Intake.{Intake}
use Rattle.fj_calls.specs.declared.taken_in.Intake.TheVariants as intake
use Rattle.fj_calls.specs.Booked.{booked_under, is_under}
use Rattle.fj_calls.specs.Cancels.{CancelsTask, CancelsTicket, CancelsUnless}
use Rattle.fj_calls.specs.Closes.{Dues, ShutsAt, shut_step}
use Rattle.fj_calls.specs.Closings.{first_set, is_due, is_over}
use Rattle.fj_calls.specs.Cores.{ChangesStore, CollectsTicket, CollectsUnless, CoreState, unless_due}
use Rattle.fj_calls.specs.Intakes.{Intakes, Readies, kind_rooted}
use Rattle.fj_calls.specs.Sealing.{SealsCore, holds_back, may_be_sealed}
use Rattle.fj_guarded.specs.declared.guarded.outside.TakenIn.{TakenIn}
use Rattle.fj_guarded.specs.declared.next.Next.{Next}
use Rattle.fj_guarded.specs.Asked.{CancelsBehind, CollectsAny}
use Rattle.fj_guarded.specs.Continuing.{Continues, ContinuesAll, ContinuesStore, EndsIn, EndsWith, IsNow, IsTold, IsToldNow}
use Rattle.fj_guarded.specs.Looking.{IsQuietBehind, LooksAtLanes, SealsWhere, TakesEach, TakesFrom, TakesUnless, so_far_behind}
use Rattle.fj_guarded.specs.Working.{GoesOn, JoinsOnce, LooksForWork, MayLook, NextOf, NextOfJoin, PollsOnce, Resumes, Serves, Skips, SkipsOnce, Waits, WithoutTask, joined_of, noted}

-- ---- beginnings

module _ {A : Type 0} where
  prefix_same : (xs ys : List A) → ys ≡ xs → IsPrefix xs ys
  prefix_same xs ys same = ([], append-nil xs ∙ sym same)

  pub prefix_then : (xs ys zs : List A) → IsPrefix xs ys → IsPrefix ys zs → IsPrefix xs zs
  prefix_then xs ys zs p q = (p.0 ++ q.0, sym (append_assoc xs p.0 q.0) ∙ (ap (λ (l : List A). l ++ q.0) p.1 ∙ q.1))

module _ {B K O : Type 0} where
  -- ---- the store

  pub store_same : (old new : StoreState B K O) → new ≡ old → ContinuesStore old new
  store_same old new same = record {
    pool = ap (λ (s : StoreState B K O). s.past.pool) same;
    events = prefix_same old.past.events new.past.events (ap (λ (s : StoreState B K O). s.past.events) same);
    stuck = λ is. sym (ap (λ (s : StoreState B K O). s.stuck) same) ∙ is;
  }

  store_then : (a b c : StoreState B K O) → ContinuesStore a b → ContinuesStore b c → ContinuesStore a c
  store_then a b c ab bc = record {
    pool = bc.pool ∙ ab.pool;
    events = prefix_then a.past.events b.past.events c.past.events ab.events bc.events;
    stuck = λ is. ab.stuck (bc.stuck is);
  }

  -- what no step from outside has changed
  stays_on : (old new : StoreState B K O) → StaysInside old new → ContinuesStore old new
  stays_on old new stays = record { pool = stays.past.pool; events = (stays.grows.0, sym stays.grows.1); stuck = stays.stuck }

  -- a step of the machine, by which the store does not get stuck
  step_on : (old new : StoreState B K O) (asked : Step) (reply : Said) → Steps old.past asked reply new.past → new.stuck ≡ old.stuck → ContinuesStore old new
  step_on old new asked reply made same = record {
    pool = ap (λ (p : Past). p.pool) made.1;
    events = ((answer old.past asked).1, sym (ap (λ (p : Past). p.events) made.1));
    stuck = λ is. sym same ∙ is;
  }

  drops_on : (old new : StoreState B K O) (asked : Step) (reply : Said) → Drops old asked reply new → ContinuesStore old new
  drops_on old new asked reply is =
      store_then old is.mid new (step_on old is.mid asked reply is.step (ap (λ (s : StoreState B K O). s.stuck) is.others)) (stays_on is.mid new (releases_stay is.mid new is.releases))

  -- what is due is made
  dues_on : (due stopping : Bool) (old new : StoreState B K O) → Dues due stopping old new → ContinuesStore old new
  dues_on false stopping old new is = store_same old new is
  dues_on true stopping old new (inl was) = store_same old new was.1
  dues_on true stopping old new (inr (free, (true, shuts))) = drops_on old new (shut_step stopping) says.Done shuts
  dues_on true stopping old new (inr (free, (false, shuts))) = stays_on old new (same_past_stays old new (ap (λ (s : StoreState B K O). s.past) shuts.1) (λ is. free))

  readies_on : (old new : StoreState B K O) (s : ℕ) (r : Refusal) → Readies old s (Some (intake.Full r)) new → ContinuesStore old new
  readies_on old new s r (inl was) = store_same old new was.2
  readies_on old new s r (inr now) = stays_on old new (same_past_stays old new (ap (λ (st : StoreState B K O). st.past) now.sticks) (λ is. now.free))

  cancels_on : (old new : StoreState B K O) (t : ℕ) (answer : Result Bool Refusal) → CancelsTask old t answer new → ContinuesStore old new
  cancels_on old new t (Ok true) is = drops_on old new (ask.Cancel t) says.Yes is
  cancels_on old new t (Ok false) is = drops_on old new (ask.Cancel t) says.No is
  cancels_on old new t (Err r) is = store_same old new is.1

  -- ---- the core

  pub core_same : (old new : CoreState B K O) → new ≡ old → Continues old new
  core_same old new same = record {
    store = store_same old.store new.store (ap (λ (c : CoreState B K O). c.store) same);
    bookings = prefix_same old.bookings new.bookings (ap (λ (c : CoreState B K O). c.bookings) same);
    parts = prefix_same (old.handed ++ old.parts) (new.handed ++ new.parts) (ap (λ (c : CoreState B K O). c.handed ++ c.parts) same);
    number = λ n is. ap (λ (c : CoreState B K O). c.closing.number) same ∙ is;
  }

  pub core_then : (a b c : CoreState B K O) → Continues a b → Continues b c → Continues a c
  core_then a b c ab bc = record {
    store = store_then a.store b.store c.store ab.store bc.store;
    bookings = prefix_then a.bookings b.bookings c.bookings ab.bookings bc.bookings;
    parts = prefix_then (a.handed ++ a.parts) (b.handed ++ b.parts) (c.handed ++ c.parts) ab.parts bc.parts;
    number = λ n is. bc.number n (ab.number n is);
  }

  -- nothing but the store has changed
  changes_on : (old new : CoreState B K O) → ContinuesStore old.store new.store → ChangesStore old new → Continues old new
  changes_on old new on others = record {
    store = on;
    bookings = prefix_same old.bookings new.bookings (ap (λ (c : CoreState B K O). c.bookings) others);
    parts = prefix_same (old.handed ++ old.parts) (new.handed ++ new.parts) (ap (λ (c : CoreState B K O). c.handed ++ c.parts) others);
    number = λ n is. ap (λ (c : CoreState B K O). c.closing.number) others ∙ is;
  }

  -- the closing number is set: `close_at`, `stop_at`
  pub shuts_on : (old new : CoreState B K O) (closing : Cutoff) (number : ℕ) → closing.number ≡ first_set old.closing.number number → ShutsAt old closing new → Continues old new
  shuts_on old new closing number first is = record {
    store = dues_on (is_due closing.number (length old.bookings)) closing.stopping old.store new.store is.due;
    bookings = prefix_same old.bookings new.bookings (ap (λ (c : CoreState B K O). c.bookings) is.sets);
    parts = prefix_same (old.handed ++ old.parts) (new.handed ++ new.parts) (ap (λ (c : CoreState B K O). c.handed ++ c.parts) is.sets);
    number = λ n was. ap (λ (c : CoreState B K O). c.closing.number) is.sets ∙ first ∙ ap (λ (o : Option ℕ). first_set o number) was;
  }

  -- an intake
  intakes_on : (rooted_as : B → Option ℕ) (old new : CoreState B K O) (s : ℕ) (answer : Intake) → Intakes rooted_as old s answer new → Continues old new
  intakes_on rooted_as old new s (intake.Full r) (readies, others) = changes_on old new (readies_on old.store new.store s r readies) others
  intakes_on rooted_as old new s intake.Empty (inl over) = core_same old new over.2
  intakes_on rooted_as old new s intake.Empty (inr misses) = record {
    store = store_same old.store new.store (ap (λ (c : CoreState B K O). c.store) misses.missed);
    bookings = prefix_same old.bookings new.bookings (ap (λ (c : CoreState B K O). c.bookings) misses.missed);
    parts = prefix_same (old.handed ++ old.parts) (new.handed ++ new.parts) (ap (λ (c : CoreState B K O). c.handed ++ c.parts) misses.missed);
    number = λ n is. ap (λ (c : CoreState B K O). c.closing.number) misses.missed ∙ is;
  }
  intakes_on rooted_as old new s (intake.Took serial) takes = record {
    store = store_then old.store takes.mid new.store
        (step_on old.store takes.mid (ask.Submit s (kind_rooted (rooted_as takes.parcel.body))) (says.Task serial) takes.submits.step (ap (λ (st : StoreState B K O). st.stuck) takes.submits.others))
        (dues_on (is_due old.closing.number (length old.bookings + 1)) old.closing.stopping takes.mid new.store takes.due);
    bookings = (record { ticket = takes.parcel.ticket; serial = serial; by = s } ∷ [], sym (ap (λ (c : CoreState B K O). c.bookings) takes.others));
    parts = prefix_same (old.handed ++ old.parts) (new.handed ++ new.parts) (ap (λ (c : CoreState B K O). c.handed ++ c.parts) takes.others);
    number = λ n is. ap (λ (c : CoreState B K O). c.closing.number) takes.others ∙ is;
  }

  takes_on : (rooted_as : B → Option ℕ) (submitters first n : ℕ) (old new : CoreState B K O) (taken : TakenIn) → TakesFrom rooted_as submitters first n old taken new → Continues old new
  takes_on rooted_as submitters first zero old new taken is = core_same old new is.1
  takes_on rooted_as submitters first (suc n) old new taken (mid, before, answer, earlier, last, is) =
      core_then old mid new (takes_on rooted_as submitters first n old mid before earlier) (intakes_on rooted_as mid new (so_far_behind submitters first n) answer last)

  each_on : (rooted_as : B → Option ℕ) (old new : CoreState B K O) (taken : TakenIn) → TakesEach rooted_as old taken new → Continues old new
  each_on rooted_as old new taken (first, takes) = let submitters = old.store.past.pool.limits.submitters in takes_on rooted_as submitters first submitters old new taken takes

  -- a seal: no event is lost, and the part is appended
  seals_on : (old new : CoreState B K O) (answer : Result ⊤ Refusal) → SealsCore old answer new → Continues old new
  seals_on old new (Ok done) is = record {
    store = stays_or_seals;
    bookings = prefix_same old.bookings new.bookings (ap (λ (c : CoreState B K O). c.bookings) is.others);
    parts = (is.part ∷ [], append_assoc old.handed old.parts (is.part ∷ []) ∙ sym (ap (λ (c : CoreState B K O). c.handed ++ c.parts) is.others));
    number = λ n was. ap (λ (c : CoreState B K O). c.closing.number) is.others ∙ was;
  }
    where
      stays_or_seals : ContinuesStore old.store new.store
      stays_or_seals = record {
        pool = ap (λ (s : StoreState B K O). s.past.pool) is.hands.others;
        events = prefix_same old.store.past.events new.store.past.events (ap (λ (s : StoreState B K O). s.past.events) is.hands.others);
        stuck = λ free. sym (ap (λ (s : StoreState B K O). s.stuck) is.hands.others) ∙ free;
      }
  seals_on old new (Err r) is = record {
    store = store_same old.store new.store (ap (λ (c : CoreState B K O). c.store) is.1);
    bookings = prefix_same old.bookings new.bookings (ap (λ (c : CoreState B K O). c.bookings) is.1);
    parts = prefix_same (old.handed ++ old.parts) (new.handed ++ new.parts) (ap (λ (c : CoreState B K O). c.handed ++ c.parts) is.1);
    number = λ n was. ap (λ (c : CoreState B K O). c.closing.number) is.1 ∙ was;
  }

  where_on : (due : Bool) (old new : CoreState B K O) → SealsWhere due old new → Continues old new
  where_on true old new (answer, is) = seals_on old new answer is
  where_on false old new is = core_same old new is

  unless_on : (held_back : Bool) (rooted_as : B → Option ℕ) (old new : CoreState B K O) (taken : TakenIn) → TakesUnless held_back rooted_as old taken new → Continues old new
  unless_on true rooted_as old new taken is = core_same old new is.1
  unless_on false rooted_as old new taken is = each_on rooted_as old new taken is

  looks_on : (rooted_as : B → Option ℕ) (old new : CoreState B K O) (taken : TakenIn) → LooksAtLanes rooted_as old taken new → Continues old new
  looks_on rooted_as old new taken is = core_then old is.mid new (where_on (may_be_sealed old.store.past) old is.mid is.seals) (unless_on (holds_back is.mid) rooted_as is.mid new taken is.takes)

  -- it is asked whether all is quiet
  pub quiet_on : (rooted_as : B → Option ℕ) (old new : CoreState B K O) (quiet : Bool) → IsQuietBehind rooted_as old quiet new → Continues old new
  quiet_on rooted_as old new quiet is = core_then old is.mid new (where_on (may_be_sealed old.store.past) old is.mid is.seals) (each_on rooted_as is.mid new is.taken is.takes)

  -- the kept parts are handed out
  pub parts_on : (old new : CoreState B K O) → new ≡ record old { handed = old.handed ++ old.parts; parts = [] } → Continues old new
  parts_on old new is = record {
    store = store_same old.store new.store (ap (λ (c : CoreState B K O). c.store) is);
    bookings = prefix_same old.bookings new.bookings (ap (λ (c : CoreState B K O). c.bookings) is);
    parts = prefix_same (old.handed ++ old.parts) (new.handed ++ new.parts) (ap (λ (c : CoreState B K O). c.handed ++ c.parts) is ∙ append-nil (old.handed ++ old.parts));
    number = λ n was. ap (λ (c : CoreState B K O). c.closing.number) is ∙ was;
  }

  -- ---- calls by a ticket

  -- an outcome is asked for
  pub collects_on : (old new : CoreState B K O) (ticket : ℕ) (answer : Option (Result (Outcome B K O) Refusal)) → CollectsTicket old ticket answer new → Continues old new
  collects_on old new ticket answer is = go old.store.stuck (booked_under old.bookings ticket) is
    where
      go : (stuck : Bool) (booked : Option ℕ) → CollectsUnless stuck booked old answer new → Continues old new
      go true booked is = core_same old new is.1
      go false (Some t) is = changes_on old new (stays_on old.store new.store (collects_stay old.store new.store t answer is.0)) is.1
      go false None is = core_same old new is.1

  -- the first of several outcomes is asked for
  pub any_on : (tickets : List ℕ) (old new : CoreState B K O) (told : Option (ℕ × Result (Outcome B K O) Refusal)) → CollectsAny tickets old told new → Continues old new
  any_on tickets old new (Some (place, answer)) is = collects_on old new is.ticket (Some answer) is.collects
  any_on tickets old new None is = core_same old new is.1

  cancelled_on : (old new : CoreState B K O) (ticket : ℕ) (answer : Result Bool Refusal) → CancelsTicket old ticket answer new → Continues old new
  cancelled_on old new ticket answer is = go old.store.stuck (booked_under old.bookings ticket) is
    where
      go : (stuck : Bool) (booked : Option ℕ) → CancelsUnless stuck booked old answer new → Continues old new
      go true booked is = core_same old new is.1
      go false (Some t) is = changes_on old new (cancels_on old.store new.store t answer is.0) is.1
      go false None is = core_same old new is.1

  -- a submission is cancelled
  pub behind_on : (rooted_as : B → Option ℕ) (old new : CoreState B K O) (ticket : ℕ) (answer : Result Bool Refusal) → CancelsBehind rooted_as old ticket answer new → Continues old new
  behind_on rooted_as old new ticket answer is = core_then old is.mid new (looks_on rooted_as old is.mid is.taken is.looks) (cancelled_on is.mid new ticket answer is.cancels)

  -- ---- a worker

  may_look_on : (rooted_as : B → Option ℕ) (old new : CoreState B K O) (looked : Option TakenIn) → MayLook rooted_as old looked new → Continues old new
  may_look_on rooted_as old new (Some taken) is = looks_on rooted_as old new taken is
  may_look_on rooted_as old new None is = core_same old new is

  waits_on : (rooted_as : B → Option ℕ) (t : ℕ) (old new : CoreState B K O) (next : Next B K O) → Waits rooted_as t old next new → Continues old new
  waits_on rooted_as t old new next is = may_look_on rooted_as old new is.looked is.looks

  none_on : (rooted_as : B → Option ℕ) (joined : Option ℕ) (old new : CoreState B K O) (next : Next B K O) → WithoutTask rooted_as joined old next new → Continues old new
  none_on rooted_as (Some t) old new next waits = waits_on rooted_as t old new next waits
  none_on rooted_as None old new next helped = core_same old new helped.1

  polls_on : (old new : CoreState B K O) (hand hand' : HandState B) (next : Next B K O) → PollsOnce old hand next new hand' → Continues old new
  polls_on old new hand hand' next is = changes_on old new (stays_on old.store new.store (polls_stay old.store new.store hand hand' is.told is.polls)) is.others

  skips_once_on : (old new : CoreState B K O) (hand hand' : HandState B) → SkipsOnce old hand new hand' → Continues old new
  skips_once_on old new hand hand' is = changes_on old new (stays_on old.store new.store (polls_stay old.store new.store hand hand' (told.Skip is.task is.body) is.polls)) is.others

  skips_on : (n : ℕ) (old new : CoreState B K O) (hand hand' : HandState B) → Skips n old hand new hand' → Continues old new
  skips_on zero old new hand hand' is = core_same old new is.0
  skips_on (suc n) old new hand hand' (mid, between, earlier, last) = core_then old mid new (skips_on n old mid hand between earlier) (skips_once_on mid new between hand' last)

  work_on : (rooted_as : B → Option ℕ) (old new : CoreState B K O) (hand hand' : HandState B) (next : Next B K O) → LooksForWork rooted_as old hand next new hand' → Continues old new
  work_on rooted_as old new hand hand' next is =
      let polls = is.polls in
      core_then old is.mid new (looks_on rooted_as old is.mid is.taken is.looks)
      (core_then is.mid polls.mid new (skips_on polls.skipped is.mid polls.mid hand polls.between polls.skips) (polls_on polls.mid new polls.between hand' next polls.polls))

  joined_on : (rooted_as : B → Option ℕ) (t : ℕ) (answer : Told B K O) (old new : CoreState B K O) (next : Next B K O) → NextOfJoin rooted_as t answer old next new → Continues old new
  joined_on rooted_as t (told.Hear heard) old new next is = core_same old new is.1
  joined_on rooted_as t (told.Run u) old new next is = core_same old new is.1
  joined_on rooted_as t (told.Skip u body) old new next is = core_same old new is.1
  joined_on rooted_as t told.None old new next is = waits_on rooted_as t old new next is
  joined_on rooted_as t (told.Stuck body) old new next is = core_same old new is.1
  joined_on rooted_as t (told.Hook c caller) old new next is = absurd is
  joined_on rooted_as t (told.Over body) old new next is = absurd is

  joins_on : (key_of : B → K) (rooted_as : B → Option ℕ) (t : ℕ) (old new : CoreState B K O) (hand hand' : HandState B) (next : Next B K O) → JoinsOnce key_of rooted_as old hand t next new hand' → Continues old new
  joins_on key_of rooted_as t old new hand hand' next is =
      core_then old is.mid new (changes_on old is.mid (stays_on old.store is.mid.store (acts_stay key_of old.store is.mid.store hand hand' (asks.Join t) is.told is.acts)) is.others)
      (joined_on rooted_as t is.told is.mid new next is.goes_on)

  goes_on : (key_of : B → K) (rooted_as : B → Option ℕ) (note : Option ℕ) (old new : CoreState B K O) (hand hand' : HandState B) (next : Next B K O) → GoesOn key_of rooted_as note old hand next new hand' → Continues old new
  goes_on key_of rooted_as (Some t) old new hand hand' next is = joins_on key_of rooted_as t old new hand hand' next is
  goes_on key_of rooted_as None old new hand hand' next is = core_same old new is.0.1

  -- without an ask
  pub resumes_on : (key_of : B → K) (rooted_as : B → Option ℕ) (old new : CoreState B K O) (hand hand' : HandState B) (next : Next B K O) → Resumes key_of rooted_as old hand next new hand' → Continues old new
  resumes_on key_of rooted_as old new hand hand' next is = go hand.stack hand.hook refl refl
    where
      busy : ((hand.stack ≡ []) × (hand.hook ≡ None) → ⊥) → Continues old new
      busy has = goes_on key_of rooted_as (newest_note hand.joined) old new hand hand' next (is.busy has)

      go : (stack : List (ℕ × B)) (hook : Option (ℕ × B)) → hand.stack ≡ stack → hand.hook ≡ hook → Continues old new
      go [] None stacked hooked = work_on rooted_as old new hand hand' next (is.idle (stacked, hooked))
      go (b ∷ bs) hook stacked hooked = busy (λ none. absurd (let no : b ∷ bs ≡ [] = sym stacked ∙ none.0 in cc))
      go [] (Some h) stacked hooked = busy (λ none. absurd (let no : ◌≡◌ {A = Option (ℕ × B)} (Some h) None = sym hooked ∙ none.1 in cc))

  next_on : (key_of : B → K) (rooted_as : B → Option ℕ) (asked : Ask B K O) (answer : Told B K O) (old new : CoreState B K O) (hand hand' : HandState B) (next : Next B K O)
      → NextOf key_of rooted_as asked answer old hand next new hand' → Continues old new
  next_on key_of rooted_as asked (told.Hear heard) old new hand hand' next is = core_same old new is.0.1
  next_on key_of rooted_as asked (told.Run t) old new hand hand' next is = core_same old new is.0.1
  next_on key_of rooted_as asked (told.Skip t body) old new hand hand' next is = core_same old new is.0.1
  next_on key_of rooted_as asked told.None old new hand hand' next is = none_on rooted_as (joined_of asked) old new next is.0
  next_on key_of rooted_as asked (told.Hook c caller) old new hand hand' next is = core_same old new is.0.1
  next_on key_of rooted_as asked (told.Over body) old new hand hand' next is = resumes_on key_of rooted_as old new hand hand' next is
  next_on key_of rooted_as asked (told.Stuck body) old new hand hand' next is = core_same old new is.0.1

  -- with an ask
  pub serves_on : (key_of : B → K) (rooted_as : B → Option ℕ) (old new : CoreState B K O) (hand hand' : HandState B) (asked : Ask B K O) (next : Next B K O)
      → Serves key_of rooted_as old hand asked next new hand' → Continues old new
  serves_on key_of rooted_as old new hand hand' asked next is =
      core_then old is.mid new (changes_on old is.mid (stays_on old.store is.mid.store (acts_stay key_of old.store is.mid.store (noted hand asked) is.held asked is.told is.acts)) is.others)
      (next_on key_of rooted_as asked is.told is.mid new is.held hand' next is.goes_on)

  -- with an ask or without one
  pub asked_on : (key_of : B → K) (rooted_as : B → Option ℕ) (old new : CoreState B K O) (hand hand' : HandState B) (asked : Option (Ask B K O)) (next : Next B K O)
      → IfSome asked (λ a. Serves key_of rooted_as old hand a next new hand') → IfNone asked (Resumes key_of rooted_as old hand next new hand') → Continues old new
  asked_on key_of rooted_as old new hand hand' (Some a) next serves resumes = serves_on key_of rooted_as old new hand hand' a next serves
  asked_on key_of rooted_as old new hand hand' None next serves resumes = resumes_on key_of rooted_as old new hand hand' next resumes

  -- ---- a log of cores

  -- the core as it is now continues itself
  pub all_with : (earlier : List (CoreState B K O)) (core : CoreState B K O) → ContinuesAll earlier core → ContinuesAll (earlier ++ core ∷ []) core
  all_with earlier core all = All-push (λ c. Continues c core) earlier core all (core_same core core refl)

  -- what all of them are continued by is continued
  pub all_on : (earlier : List (CoreState B K O)) (old new : CoreState B K O) → ContinuesAll earlier old → Continues old new → ContinuesAll earlier new
  all_on earlier old new all next k d within = core_then (get_or earlier k d) old new (all k d within) next

  -- what the log has, and the core before a call, are continued by the core after it
  pub all_after : (earlier : List (CoreState B K O)) (old new : CoreState B K O) → ContinuesAll earlier old → Continues old new → ContinuesAll (earlier ++ old ∷ []) new
  all_after earlier old new all next = all_on (earlier ++ old ∷ []) old new (all_with earlier old all) next

  -- ---- what stays true

  -- a ticket stays booked for its task
  pub booked_stays : (old new : CoreState B K O) (ticket t : ℕ) → Continues old new → booked_under old.bookings ticket ≡ Some t → booked_under new.bookings ticket ≡ Some t
  booked_stays old new ticket t on is =
      ap (λ (bs : List Booking). booked_under bs ticket) (sym on.bookings.1) ∙ ap (λ (o : Option Booking). option_map (λ b. b.serial) o) (find-append (is_under ticket) old.bookings on.bookings.0)
      ∙ go (find (is_under ticket) old.bookings) (find (is_under ticket) on.bookings.0) is
    where
      go : (first second : Option Booking) → option_map (λ b. b.serial) first ≡ Some t → option_map (λ b. b.serial) (option_or first second) ≡ Some t
      go (Some b) second is = is
      go None second is = absurd (let no : ◌≡◌ {A = Option ℕ} None (Some t) = is in cc)

-- ---- what stays true of a history

-- the first status that a task got
status_found : (t : ℕ) (before : Bool) (h more : List Event) (s : Status) → status_from t before h ≡ Some s → status_from t before (h ++ more) ≡ Some s
unfolding status_from
status_found t before [] more s is = absurd (let no : ◌≡◌ {A = Option Status} None (Some s) = is in cc)
status_found t before (e ∷ h) more s is = go (status_by t before e) (λ later. status_found t (before || accepts t e) h more s later) is
  where
    go : (now : Option Status) → (status_from t (before || accepts t e) h ≡ Some s → status_from t (before || accepts t e) (h ++ more) ≡ Some s)
        → or_else now (status_from t (before || accepts t e) h) ≡ Some s → or_else now (status_from t (before || accepts t e) (h ++ more)) ≡ Some s
    go (Some x) found is = is
    go None found is = found is

-- a done task keeps its status
pub status_stays : (h more : List Event) (t : ℕ) → is_undone (status h t) ≡ false → status (h ++ more) t ≡ status h t
unfolding status
status_stays h more t done = go (status_from t false h) refl done
  where
    go : (s : Option Status) → status_from t false h ≡ s → is_undone (or_undone s) ≡ false → or_undone (status_from t false (h ++ more)) ≡ or_undone (status_from t false h)
    go (Some s) is done = ap or_undone (status_found t false h more s is ∙ sym is)
    go None is done = absurd (let no : true ≡ false = done in cc)

-- `Close` or `Stop` stays
pub over_stays : (h more : List Event) → is_over h ≡ true → is_over (h ++ more) ≡ true
unfolding is_closed is_stopped
over_stays h more is = rw (list_any-append is_close h more, list_any-append is_stop h more) (go (is_closed h) (is_stopped h) is)
  where
    go : (closed stopped : Bool) → (closed || stopped) ≡ true → ((closed || is_closed more) || (stopped || is_stopped more)) ≡ true
    go true stopped is = refl
    go false true is = go' (is_closed more)
      where
        go' : (b : Bool) → (b || true) ≡ true
        go' true = refl
        go' false = refl
    go false false is = absurd (let no : false ≡ true = is in cc)

-- an outcome has the status of its task
told_status : (B : Type 0) {K O : Type 0} (s : Status) (kept : Option (K × O)) → is_undone s ≡ false → status_in (outcome_of {B = B} s kept) ≡ s
told_status B Normal kept done = refl
told_status B (Exceptional code) kept done = refl
told_status B Cancelled kept done = refl
told_status B Undone kept done = absurd (let no : true ≡ false = done in cc)

module _ {B K O : Type 0} where
  -- an outcome that was told stands in the history after it: the ticket is booked for a task, and that task has its status
  pub told_stands : (old new : CoreState B K O) (ticket : ℕ) (outcome : Outcome B K O) → CollectsTicket old ticket (Some (Ok outcome)) new → IsTold new ticket outcome
  told_stands old new ticket outcome is = go old.store.stuck (booked_under old.bookings ticket) refl is
    where
      on : Continues old new
      on = collects_on old new ticket (Some (Ok outcome)) is

      undue : (due : Bool) → ◌≡◌ {A = Option (Result (Outcome B K O) Refusal)} (Some (Ok outcome)) (unless_due due) → ⊥
      undue true is = absurd cc
      undue false is = absurd cc

      go : (stuck : Bool) (booked : Option ℕ) → booked_under old.bookings ticket ≡ booked → CollectsUnless stuck booked old (Some (Ok outcome)) new → IsTold new ticket outcome
      go true booked at told = absurd (let no : ◌≡◌ {A = Option (Result (Outcome B K O) Refusal)} (Some (Ok outcome)) (Some (Err LogFull)) = told.0 in cc)
      go false (Some t) at told = (
        t,
        booked_stays old new ticket t on at,
        ap (λ (h : List Event). status h t) (sym on.store.events.1) ∙ status_stays old.store.past.events on.store.events.0 t told.0.done
            ∙ sym (ap (λ (o : Outcome B K O). status_in o) told.0.told_is ∙ told_status B (status old.store.past.events t) (entries old.store.results t) told.0.done),
      )
      go false None at told = absurd (undue (is_due old.closing.number (length old.bookings)) told.0)

  -- an outcome that was seen to be told stands in the last moment that was seen
  pub seen_told : (log : List (CoreState B K O)) (ticket : ℕ) (answer : Result (Outcome B K O) Refusal) → EndsWith log (λ old new. CollectsTicket old ticket (Some answer) new)
      → IfOk answer (λ outcome. IsToldNow log ticket outcome)
  seen_told log ticket (Ok outcome) (before, old, new, is, told) = (new, (before ++ old ∷ [], is ∙ sym (append_assoc before (old ∷ []) (new ∷ []))), told_stands old new ticket outcome told)
  seen_told log ticket (Err refusal) seen = tt

  -- a task with an outcome has ended
  ended : (outcome : Outcome B K O) → is_undone (status_in outcome) ≡ false
  ended (outcomes.Normal kept) = refl
  ended (outcomes.Exceptional code) = refl
  ended outcomes.Cancelled = refl

  -- what was told stands in each core that continues the one in which it was told
  pub told_on : (old new : CoreState B K O) (ticket : ℕ) (outcome : Outcome B K O) → Continues old new → IsTold old ticket outcome → IsTold new ticket outcome
  told_on old new ticket outcome on (t, at, is) = (
    t,
    booked_stays old new ticket t on at,
    ap (λ (h : List Event). status h t) (sym on.store.events.1) ∙ status_stays old.store.past.events on.store.events.0 t (ap is_undone is ∙ ended outcome) ∙ is,
  )

  -- the last moment that was seen is continued by the core with which the history ends
  at_last : (seen log : List (CoreState B K O)) (moment core : CoreState B K O) → IsPrefix seen log → IsNow seen moment → EndsIn log core → Continues moment core
  at_last seen log moment core begins now ends =
      All-contains (λ c. Continues c core) log moment ends.all
      (subst (λ (l : List (CoreState B K O)). Contains l moment) begins.1
      (Contains-append_left seen begins.0 moment (subst (λ (l : List (CoreState B K O)). Contains l moment) (sym now.1) (Contains-push now.0 moment))))

  -- what a caller was told stands in the core with which the history ends
  pub told_at_last : (seen log : List (CoreState B K O)) (core : CoreState B K O) (ticket : ℕ) (outcome : Outcome B K O) → IsPrefix seen log → EndsIn log core
      → IsToldNow seen ticket outcome → IsTold core ticket outcome
  told_at_last seen log core ticket outcome begins ends (moment, now, told) = told_on moment core ticket outcome (at_last seen log moment core begins now ends) told
