-- What the step that is due leaves.
use Rattle.std.proofs.Common.{ℕ, ◌≡◌, Bool, true, false, inl, inr, List, [], ◌∷◌, ◌++◌, length, refl, ap, sym, ◌∙◌, subst}
use Rattle.std.specs.Prelude.{if◌then◌else◌, ◌||◌}
use Rattle.std.proofs.lemmas.List.{append-nil}
use Rattle.fj_rules.specs.declared.event.Event.TheVariants as event
use Rattle.fj_rules.specs.declared.owner.Owner.TheVariants.{Sub}
use Rattle.fj_rules.specs.declared.said.Said.TheVariants as says
use Rattle.fj_rules.specs.Queues.{pushed}
use Rattle.fj_rules.specs.Allowed.{is_closed, is_stopped}
use Rattle.fj_rules.specs.Answers.{answer, events_of}
use Rattle.fj_rules.specs.Pasts.{Past, grown}
use Rattle.fj_rules.specs.Runs.{Steps}
use Rattle.fj_rules.proofs.Events.Growth.{pushed_more}
use Rattle.fj_rules.proofs.Events.Closing.{closed_more, stopped_more}
use Rattle.fj_lane.specs.Ends.{DrainState}
use Rattle.fj_body.specs.Stores.{StoreState}
use Rattle.fj_rules.proofs.Steps.Answered.{Answered, Refuses, Makes, answered}
use Rattle.fj_calls.specs.declared.booking.Booking.{Booking}
use Rattle.fj_calls.specs.declared.cutoff.Cutoff.{Cutoff}
use Rattle.fj_calls.specs.Closings.{IsClosing, first_set, is_due, is_over}
use Rattle.fj_calls.specs.Closes.{Dues, shut_step}
use Rattle.fj_calls.specs.Cores.{IsCore}
use Rattle.fj_rules.specs.Inside.{IsInside}
use Rattle.fj_body.proofs.Frames.{releases_stay}
use Rattle.fj_core.proofs.Lanes.{PushesNone, same_booked}
use Rattle.fj_core.proofs.Reached.{OnlyReached, due_there, due_reached, only_set}

-- ---- the step that shuts

or_all : (b : Bool) → (b || true) ≡ true
or_all true = refl
or_all false = refl

-- after it one of them stands, Stop where it was the step
record IsShutAfter (old new : Past) (stopping : Bool) : Type 0 where
  pub none : PushesNone old new
  pub over : is_over new.events ≡ true
  pub stop : stopping ≡ true → is_stopped new.events ≡ true

shut_events : (past : Past) (stopping : Bool) → IsShutAfter past (grown past (events_of past.pool past.events (shut_step stopping))) stopping
unfolding events_of
shut_events past true = go (is_stopped past.events) refl
  where
    go : (b : Bool) → is_stopped past.events ≡ b → IsShutAfter past (grown past (if b then [] else event.Stop ∷ [])) true
    go true is = record {
      none = record { pool = refl; pushes = λ s. ap (λ h. pushed h (Sub s)) (append-nil past.events) };
      over = ap is_over (append-nil past.events) ∙ rw is (or_all (is_closed past.events));
      stop = λ stops. ap is_stopped (append-nil past.events) ∙ is;
    }
    go false is = record {
      none = record { pool = refl; pushes = λ s. pushed_more past.events (Sub s) event.Stop ∙ append-nil (pushed past.events (Sub s)) };
      over = rw (stopped_more past.events event.Stop, or_all (is_stopped past.events)) (or_all (is_closed (past.events ++ event.Stop ∷ [])));
      stop = λ stops. stopped_more past.events event.Stop ∙ or_all (is_stopped past.events);
    }
shut_events past false = go (is_over past.events) refl
  where
    go : (b : Bool) → is_over past.events ≡ b → IsShutAfter past (grown past (if b then [] else event.Close ∷ [])) false
    go true is = record {
      none = record { pool = refl; pushes = λ s. ap (λ h. pushed h (Sub s)) (append-nil past.events) };
      over = ap is_over (append-nil past.events) ∙ is;
      stop = λ stops. absurd (let no : false ≡ true = stops in cc);
    }
    go false is = record {
      none = record { pool = refl; pushes = λ s. pushed_more past.events (Sub s) event.Close ∙ append-nil (pushed past.events (Sub s)) };
      over = rw (closed_more past.events event.Close, or_all (is_closed past.events)) refl;
      stop = λ stops. absurd (let no : false ≡ true = stops in cc);
    }

shut_makes : (old new : Past) (stopping : Bool) → Steps old (shut_step stopping) says.Done new → IsShutAfter old new stopping
shut_makes old new stopping step = go (answered old (shut_step stopping))
  where
    go : Answered old (shut_step stopping) (answer old (shut_step stopping)).0 (answer old (shut_step stopping)).1 → IsShutAfter old new stopping
    go (Refuses r said none) = absurd (let no : says.Done ≡ says.Refused r = step.0 ∙ said in cc)
    go (Makes stands said made) = subst (λ p. IsShutAfter old p stopping) (sym (step.1 ∙ ap (grown old) made)) (shut_events old stopping)

shut_on : (a b c : Past) (stopping : Bool) → IsShutAfter a b stopping → IsInside b c → IsShutAfter a c stopping
shut_on a b c stopping ab bc = record {
  none = record { pool = bc.pool ∙ ab.none.pool; pushes = λ s. bc.pushes s ∙ ab.none.pushes s };
  over = rw (bc.closed, bc.stopped) ab.over;
  stop = λ stops. bc.stopped ∙ ab.stop stops;
}

-- ---- what is due

both : (b : Bool) → b ≡ true → b ≡ false → ⊥
both b so not_so = let no : true ≡ false = sym so ∙ not_so in cc

-- the number of a closing that is this one
pub number_of : (closing same : Cutoff) → closing ≡ same → closing.number ≡ same.number
number_of closing same is = ap (λ c. c.number) is

nothing_pushed : (past : Past) → PushesNone past past
nothing_pushed past = record { pool = refl; pushes = λ s. refl }

module _ {B K O : Type 0} where
  pub due_pushes_none : (due stopping : Bool) (old new : StoreState B K O) → Dues due stopping old new → PushesNone old.past new.past
  due_pushes_none false stopping old new is = subst (λ s. PushesNone old.past s.past) (sym is) (nothing_pushed old.past)
  due_pushes_none true stopping old new (inl was) = subst (λ s. PushesNone old.past s.past) (sym was.1) (nothing_pushed old.past)
  due_pushes_none true stopping old new (inr (free, (true, shuts))) =
      (shut_on old.past shuts.mid.past new.past stopping (shut_makes old.past shuts.mid.past stopping shuts.step) (releases_stay shuts.mid new shuts.releases).past).none
  due_pushes_none true stopping old new (inr (free, (false, shuts))) = subst (λ s. PushesNone old.past s.past) (sym shuts.1) (nothing_pushed old.past)

  -- after what is due was made, the clauses on the close hold
  pub due_closes : (k : ℕ) (closing : Cutoff) (due : Bool) (old new : StoreState B K O) → is_due closing.number k ≡ due → OnlyReached old.past.events k closing.number → Dues due closing.stopping old new
      → IsClosing new.past.events k closing new.stuck
  due_closes k closing false old new at only is = record {
    only = subst (λ s. OnlyReached s.past.events k closing.number) (sym is) only;
    there = λ free reached. absurd (both (is_due closing.number k) (due_there closing.number k reached) at);
    stop = λ free stops reached. absurd (both (is_due closing.number k) (due_there closing.number k reached) at);
  }
  due_closes k closing true old new at only (inl was) =
      let stuck : new.stuck ≡ true = ap (λ s. s.stuck) was.1 ∙ was.0 in
      record {
        only = λ over. due_reached closing.number k at;
        there = λ free reached. absurd (both new.stuck stuck free);
        stop = λ free stops reached. absurd (both new.stuck stuck free);
      }
  due_closes k closing true old new at only (inr (free0, (true, shuts))) =
      let after = shut_on old.past shuts.mid.past new.past closing.stopping (shut_makes old.past shuts.mid.past closing.stopping shuts.step) (releases_stay shuts.mid new shuts.releases).past in
      record { only = λ over. due_reached closing.number k at; there = λ free reached. after.over; stop = λ free stops reached. after.stop stops }
  due_closes k closing true old new at only (inr (free0, (false, shuts))) =
      let stuck : new.stuck ≡ true = ap (λ s. s.stuck) shuts.1 in
      record {
        only = λ over. due_reached closing.number k at;
        there = λ free reached. absurd (both new.stuck stuck free);
        stop = λ free stops reached. absurd (both new.stuck stuck free);
      }

  -- ---- the core

  -- the number is set, and what is due is made
  pub shut_core : (old new : StoreState B K O) (lanes : List (DrainState B)) (bookings : List Booking) (closing closing' : Cutoff) (number k : ℕ) → closing'.number ≡ first_set closing.number number → k ≡ length bookings
      → Dues (is_due closing'.number k) closing'.stopping old new → IsCore old lanes bookings closing → IsCore new lanes bookings closing'
  shut_core old new lanes bookings closing closing' number k set all due is = record {
    booked = same_booked old.past new.past lanes bookings (due_pushes_none (is_due closing'.number k) closing'.stopping old new due) is.booked;
    closes =
        subst (λ n. IsClosing new.past.events n closing' new.stuck) all
        (due_closes k closing' (is_due closing'.number k) old new refl (rw (set, all) (only_set old.past.events (length bookings) number closing.number is.closes.only)) due);
  }
