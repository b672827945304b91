-- What calls leave of what the workers hold.
use Rattle.std.proofs.Common.{ℕ, ◌≡◌, zero, suc, Bool, true, false, List, length, Option, Some, None, refl, ap, sym, ◌∙◌, subst}
use Rattle.std.specs.Prelude.{⊤, Result, Ok, Err}
use Rattle.fj_rules.specs.declared.refusal.Refusal.{Refusal}
use Rattle.fj_rules.specs.Pasts.{Past}
use Rattle.fj_slots.specs.Hands.{HandState}
use Rattle.fj_body.specs.declared.outcomes.Outcome.{Outcome}
use Rattle.fj_body.specs.Fitting.{Fits}
use Rattle.fj_body.specs.Results.{Collects}
use Rattle.fj_body.specs.Stores.{StoreState}
use Rattle.fj_calls.specs.declared.cutoff.Cutoff.{Cutoff}
use Rattle.fj_calls.specs.Booked.{booked_under}
use Rattle.fj_calls.specs.Closes.{ShutsAt}
use Rattle.fj_calls.specs.Closings.{is_due}
use Rattle.fj_calls.specs.Cancels.{CancelsTask, CancelsTicket, CancelsUnless}
use Rattle.fj_calls.specs.Cores.{CollectsTicket, CollectsUnless, CoreState}
use Rattle.fj_calls.specs.Hands.{KeepsHand}
use Rattle.fj_calls.specs.Sealing.{SealsCore, holds_back, may_be_sealed}
use Rattle.fj_calls.proofs.Others.{cancels_hands, collects_hands, intakes_hands, kept_fits, seals_hands, shuts_hands}
use Rattle.fj_guarded.specs.declared.guarded.outside.TakenIn.{TakenIn}
use Rattle.fj_guarded.specs.Keeping.{KeepsHands, KeepsOthers}
use Rattle.fj_guarded.specs.declared.next.Next.{Next}
use Rattle.fj_guarded.specs.Asked.{CancelsBehind, CollectsAny}
use Rattle.fj_guarded.specs.Looking.{IsQuietBehind, LooksAtLanes, SealsWhere, TakesEach, TakesFrom, TakesUnless, so_far_behind}
use Rattle.fj_guarded.specs.Working.{MayLook, Waits, WithoutTask}
use Rattle.fj_guarded.proofs.Looking.{dues_same, pool_of, takes_same}

-- ---- one call after another

-- nothing has changed
pub same_keeps : (old new : Past) → new ≡ old → KeepsHands old new
same_keeps old new same = subst (KeepsHands old) (sym same) (record { pool = refl; hands = λ w. record { bodies = refl; hook = refl } })

-- what leaves all hands leaves those of the others
pub keeps_others : (own : ℕ) (old new : Past) → KeepsHands old new → KeepsOthers own old new
keeps_others own old new keeps = record { pool = keeps.pool; hands = λ w other. keeps.hands w }

pub keeps_then : (a b c : Past) → KeepsHands a b → KeepsHands b c → KeepsHands a c
keeps_then a b c ab bc = record {
  pool = bc.pool ∙ ab.pool;
  hands = λ w. record { bodies = (bc.hands w).bodies ∙ (ab.hands w).bodies; hook = (bc.hands w).hook ∙ (ab.hands w).hook };
}

pub others_then : (own : ℕ) (a b c : Past) → KeepsOthers own a b → KeepsOthers own b c → KeepsOthers own a c
others_then own a b c ab bc = record {
  pool = bc.pool ∙ ab.pool;
  hands = λ w other. record { bodies = (bc.hands w other).bodies ∙ (ab.hands w other).bodies; hook = (bc.hands w other).hook ∙ (ab.hands w other).hook };
}

-- of the same worker
pub others_of : (own own' : ℕ) (a b : Past) → own' ≡ own → KeepsOthers own' a b → KeepsOthers own a b
others_of own own' a b same keeps = subst (λ w. KeepsOthers w a b) same keeps

-- a hand that fitted fits
pub keeps_fit : {B : Type 0} (old new : Past) (hand : HandState B) → KeepsHands old new → Fits old hand → Fits new hand
keeps_fit old new hand keeps fits = kept_fits old new hand (keeps.hands hand.worker) keeps.pool fits

-- what the lanes show is taken in
module _ {B K O : Type 0} where
  takes_hands : (rooted_as : B → Option ℕ) (submitters first n : ℕ) (old new : CoreState B K O) (taken : TakenIn) → TakesFrom rooted_as submitters first n old taken new
      → (w : ℕ) → KeepsHand w old.store.past new.store.past
  takes_hands rooted_as submitters first zero old new taken is w =
      subst (KeepsHand w old.store.past) (sym (ap (λ (c : CoreState B K O). c.store.past) is.1)) (record { bodies = refl; hook = refl })
  takes_hands rooted_as submitters first (suc n) old new taken (mid, before, answer, earlier, last, is) w =
      let so_far = takes_hands rooted_as submitters first n old mid before earlier w in
      let next = intakes_hands rooted_as mid new (so_far_behind submitters first n) answer last w in record { bodies = next.bodies ∙ so_far.bodies; hook = next.hook ∙ so_far.hook }

  pub takes_keep_hands : (rooted_as : B → Option ℕ) (old new : CoreState B K O) (taken : TakenIn) → TakesEach rooted_as old taken new → KeepsHands old.store.past new.store.past
  takes_keep_hands rooted_as old new taken (first, takes) =
      let submitters = old.store.past.pool.limits.submitters in
      record { pool = takes_same rooted_as submitters first submitters old new taken takes; hands = takes_hands rooted_as submitters first submitters old new taken takes }

  core_keeps : (old new : CoreState B K O) → new ≡ old → KeepsHands old.store.past new.store.past
  core_keeps old new same = same_keeps old.store.past new.store.past (ap (λ (c : CoreState B K O). c.store.past) same)

  seals_same : (old new : CoreState B K O) (answer : Result ⊤ Refusal) → SealsCore old answer new → new.store.past.pool ≡ old.store.past.pool
  seals_same old new (Ok done) is = ap pool_of is.hands.others
  seals_same old new (Err r) is = ap (λ (c : CoreState B K O). c.store.past.pool) is.1

  seals_keep : (due : Bool) (old new : CoreState B K O) → SealsWhere due old new → KeepsHands old.store.past new.store.past
  seals_keep true old new (answer, is) = record { pool = seals_same old new answer is; hands = seals_hands old new answer is }
  seals_keep false old new is = core_keeps old new is

  unless_keeps : (held_back : Bool) (rooted_as : B → Option ℕ) (old new : CoreState B K O) (taken : TakenIn) → TakesUnless held_back rooted_as old taken new → KeepsHands old.store.past new.store.past
  unless_keeps true rooted_as old new taken is = core_keeps old new is.1
  unless_keeps false rooted_as old new taken is = takes_keep_hands rooted_as old new taken is

  -- a look at the lanes
  pub looks_keep : (rooted_as : B → Option ℕ) (old new : CoreState B K O) (taken : TakenIn) → LooksAtLanes rooted_as old taken new → KeepsHands old.store.past new.store.past
  looks_keep rooted_as old new taken is =
      keeps_then old.store.past is.mid.store.past new.store.past (seals_keep (may_be_sealed old.store.past) old is.mid is.seals) (unless_keeps (holds_back is.mid) rooted_as is.mid new taken is.takes)

  -- a look at the lanes, and then a poll
  pub looks_then : (rooted_as : B → Option ℕ) (own : ℕ) (old mid new : CoreState B K O) (taken : TakenIn) → LooksAtLanes rooted_as old taken mid → KeepsOthers own mid.store.past new.store.past
      → KeepsOthers own old.store.past new.store.past
  looks_then rooted_as own old mid new taken looks keeps =
      others_then own old.store.past mid.store.past new.store.past (keeps_others own old.store.past mid.store.past (looks_keep rooted_as old mid taken looks)) keeps

  may_look_keep : (rooted_as : B → Option ℕ) (old new : CoreState B K O) (looked : Option TakenIn) → MayLook rooted_as old looked new → KeepsHands old.store.past new.store.past
  may_look_keep rooted_as old new (Some taken) is = looks_keep rooted_as old new taken is
  may_look_keep rooted_as old new None is = core_keeps old new is

  -- a worker waits
  pub waits_keep : (rooted_as : B → Option ℕ) (t : ℕ) (old new : CoreState B K O) (next : Next B K O) → Waits rooted_as t old next new → KeepsHands old.store.past new.store.past
  waits_keep rooted_as t old new next is = may_look_keep rooted_as old new is.looked is.looks

  -- no task was queued for a body that asked for one
  pub none_keeps : (rooted_as : B → Option ℕ) (joined : Option ℕ) (old new : CoreState B K O) (next : Next B K O) → WithoutTask rooted_as joined old next new → KeepsHands old.store.past new.store.past
  none_keeps rooted_as (Some t) old new next waits = waits_keep rooted_as t old new next waits
  none_keeps rooted_as None old new next helped = core_keeps old new helped.1

  -- it is asked whether all is quiet
  pub quiet_keeps : (rooted_as : B → Option ℕ) (old new : CoreState B K O) (quiet : Bool) → IsQuietBehind rooted_as old quiet new → KeepsHands old.store.past new.store.past
  quiet_keeps rooted_as old new quiet is =
      keeps_then old.store.past is.mid.store.past new.store.past (seals_keep (may_be_sealed old.store.past) old is.mid is.seals)
      (takes_keep_hands rooted_as is.mid new is.taken is.takes)

  -- the closing number is set
  pub shuts_keep : (old new : CoreState B K O) (closing : Cutoff) → ShutsAt old closing new → KeepsHands old.store.past new.store.past
  shuts_keep old new closing is =
      record { pool = dues_same (is_due closing.number (length old.bookings)) closing.stopping old.store new.store is.due; hands = shuts_hands old new closing is }

  collects_same : (old new : StoreState B K O) (t : ℕ) (answer : Option (Result (Outcome B K O) Refusal)) → Collects old t answer new → pool_of new ≡ pool_of old
  collects_same old new t None is = ap pool_of is.3
  collects_same old new t (Some (Err r)) is = ap pool_of is.2
  collects_same old new t (Some (Ok outcome)) is = ap pool_of is.releases.were ∙ ap pool_of is.marks.1

  ticket_same : (stuck : Bool) (booked : Option ℕ) (old new : CoreState B K O) (answer : Option (Result (Outcome B K O) Refusal)) → CollectsUnless stuck booked old answer new
      → new.store.past.pool ≡ old.store.past.pool
  ticket_same true booked old new answer is = ap (λ (c : CoreState B K O). c.store.past.pool) is.1
  ticket_same false (Some t) old new answer is = collects_same old.store new.store t answer is.0
  ticket_same false None old new answer is = ap (λ (c : CoreState B K O). c.store.past.pool) is.1

  -- an outcome is asked for
  pub collects_keep : (old new : CoreState B K O) (ticket : ℕ) (answer : Option (Result (Outcome B K O) Refusal)) → CollectsTicket old ticket answer new → KeepsHands old.store.past new.store.past
  collects_keep old new ticket answer is =
      record { pool = ticket_same old.store.stuck (booked_under old.bookings ticket) old new answer is; hands = collects_hands old new ticket answer is }

  -- the first of several outcomes is asked for
  pub any_keeps : (tickets : List ℕ) (old new : CoreState B K O) (told : Option (ℕ × Result (Outcome B K O) Refusal)) → CollectsAny tickets old told new → KeepsHands old.store.past new.store.past
  any_keeps tickets old new (Some (place, answer)) is = collects_keep old new is.ticket (Some answer) is.collects
  any_keeps tickets old new None is = core_keeps old new is.1

  cancels_same : (stuck : Bool) (booked : Option ℕ) (old new : CoreState B K O) (answer : Result Bool Refusal) → CancelsUnless stuck booked old answer new → new.store.past.pool ≡ old.store.past.pool
  cancels_same true booked old new answer is = ap (λ (c : CoreState B K O). c.store.past.pool) is.1
  cancels_same false None old new answer is = ap (λ (c : CoreState B K O). c.store.past.pool) is.1
  cancels_same false (Some t) old new answer is = task_same old.store new.store t answer is.0
    where
      task_same : (old new : StoreState B K O) (t : ℕ) (answer : Result Bool Refusal) → CancelsTask old t answer new → pool_of new ≡ pool_of old
      task_same old new t (Ok true) drops = ap pool_of drops.releases.were ∙ ap (λ (p : Past). p.pool) drops.step.1
      task_same old new t (Ok false) drops = ap pool_of drops.releases.were ∙ ap (λ (p : Past). p.pool) drops.step.1
      task_same old new t (Err r) refuses = ap pool_of refuses.1

  cancels_keep : (old new : CoreState B K O) (ticket : ℕ) (answer : Result Bool Refusal) → CancelsTicket old ticket answer new → KeepsHands old.store.past new.store.past
  cancels_keep old new ticket answer is =
      record { pool = cancels_same old.store.stuck (booked_under old.bookings ticket) old new answer is; hands = cancels_hands old new ticket answer is }

  -- a submission is cancelled
  pub behind_keeps : (rooted_as : B → Option ℕ) (old new : CoreState B K O) (ticket : ℕ) (answer : Result Bool Refusal) → CancelsBehind rooted_as old ticket answer new
      → KeepsHands old.store.past new.store.past
  behind_keeps rooted_as old new ticket answer is =
      keeps_then old.store.past is.mid.store.past new.store.past (looks_keep rooted_as old is.mid is.taken is.looks) (cancels_keep is.mid new ticket answer is.cancels)
