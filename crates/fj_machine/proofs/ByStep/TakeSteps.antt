-- Steps that take their worker's choice.
use Rattle.std.proofs.Common.{ℕ, ◌≡◌, ◌+◌, ◌≤◌, List, [], length, Option, Some, None, true, false, refl, ap, sym, subst, ◌∙◌, arith, ⊎_elim}
use Rattle.std.proofs.lemmas.List.{append-nil}
use Rattle.std.proofs.lemmas.Bool.{cases_lt}
use Rattle.fj_rules.specs.declared.event.Event.{Event}
use Rattle.fj_rules.specs.declared.refusal.Refusal.TheVariants.{LogFull}
use Rattle.fj_rules.specs.declared.said.Said.{Said}
use Rattle.fj_rules.specs.declared.said.Said.TheVariants as says
use Rattle.fj_rules.specs.declared.step.Step.{Step}
use Rattle.fj_rules.specs.declared.step.Step.TheVariants.{Poll, Help, Join}
use Rattle.fj_rules.specs.Bounds.{Pool}
use Rattle.fj_rules.specs.Choices.{choice}
use Rattle.fj_rules.specs.Statuses.{status, is_undone}
use Rattle.fj_rules.specs.Allowed.{AllowedFrom}
use Rattle.fj_rules.specs.Answers.{first_that_stands, refusals_of, events_of, reply_of, taking, taking_says, status_says}
use Rattle.fj_rules.specs.Pasts.{limit}
use Rattle.fj_rules.specs.Runs.{Past, Steps, grown}
use Rattle.fj_ledger.specs.declared.queue_end.QueueEnd.{QueueEnd}
use Rattle.fj_ledger.specs.Holds.{IsLawful}
use Rattle.fj_ledger.specs.Sources.{IsChosenFrom, tasks_there, task_at}
use Rattle.fj_ledger.proofs.Lists.Choosing.{end_there}
use Rattle.fj_machine.specs.Outcomes.{TakesChoice}
use Rattle.fj_machine.proofs.Outcomes.Stepping.{steps_full, steps_made, may_step}

pub poll_takes : (pool : Pool) (h : List Event) (w r : ℕ)
    → (events_of pool h (Poll w r) ≡ taking h w (choice pool h w r)) × (reply_of pool h (Poll w r) ≡ taking_says h (choice pool h w r))
unfolding events_of reply_of
poll_takes pool h w r = (refl, refl)

pub help_takes : (pool : Pool) (h : List Event) (w r : ℕ)
    → (events_of pool h (Help w r) ≡ taking h w (choice pool h w r)) × (reply_of pool h (Help w r) ≡ taking_says h (choice pool h w r))
unfolding events_of reply_of
help_takes pool h w r = (refl, refl)

pub join_takes : (pool : Pool) (h : List Event) (w t r : ℕ) → is_undone (status h t) ≡ true
    → (events_of pool h (Join w t r) ≡ taking h w (choice pool h w r)) × (reply_of pool h (Join w t r) ≡ taking_says h (choice pool h w r))
unfolding events_of reply_of
join_takes pool h w t r undone = (rw undone refl, rw undone refl)

-- of a task that is done the status is told
pub join_tells : (pool : Pool) (h : List Event) (w t r : ℕ) → is_undone (status h t) ≡ false
    → (events_of pool h (Join w t r) ≡ []) × (reply_of pool h (Join w t r) ≡ status_says (status h t))
unfolding events_of reply_of
join_tells pool h w t r done = (rw done refl, rw done refl)

-- ---- what comes of a choice

-- one event takes a task
pub taking_one : (h : List Event) (w : ℕ) (t : Option ℕ) → (u : ℕ) → t ≡ Some u → length (taking h w t) ≡ 1
taking_one h w t u is = rw is refl

pub takes_none : (past : Past) (w r : ℕ) → length past.events ≤ limit past → choice past.pool past.events w r ≡ None → TakesChoice past w r says.None past
takes_none past w r fits is =
    let nothing_taken : taking past.events w (choice past.pool past.events w r) ≡ [] = rw is refl in
    record {
      full = λ over. absurd (omega (arith, over, ap length nothing_taken));
      fits = λ room. (rw is refl, rw nothing_taken (ap (λ (es : List Event). let p : Past = record past { events = es } in p) (sym (append-nil past.events))));
    }

pub takes_full : (past : Past) (w r : ℕ) (source : QueueEnd) → limit past ≤ length past.events → IsChosenFrom past w r source → TakesChoice past w r (says.Refused LogFull) past
takes_full past w r source full from =
    let t = end_there source (tasks_there past source) from.filled in
    record {
      full = λ over. (refl, refl);
      fits = λ room. absurd (omega (arith, room, full, taking_one past.events w (choice past.pool past.events w r) t.0 (from.chosen ∙ t.1)));
    }

-- the one task that stands at the end of a filled queue is taken
pub takes_one : (past : Past) (w r : ℕ) (source : QueueEnd) → IsChosenFrom past w r source → length (taking past.events w (choice past.pool past.events w r)) ≡ 1
takes_one past w r source from =
    let t = end_there source (tasks_there past source) from.filled in
    taking_one past.events w (choice past.pool past.events w r) t.0 (from.chosen ∙ t.1)

pub takes_it : (past new : Past) (w r : ℕ) (source : QueueEnd) (reply : Said) → length past.events + 1 ≤ limit past → IsChosenFrom past w r source
    → reply ≡ taking_says past.events (task_at past source) → new ≡ grown past (taking past.events w (task_at past source)) → TakesChoice past w r reply new
takes_it past new w r source reply room from said events = record {
  full = λ over. absurd (omega (arith, over, room, takes_one past w r source from));
  fits = λ fits. (said ∙ ap (taking_says past.events) (sym from.chosen), events ∙ ap (λ t. grown past (taking past.events w t)) (sym from.chosen));
}

-- a step that takes its worker's choice, and is refused for a full history at most
pub choice_steps : (old new : Past) (asked : Step) (w r : ℕ) (reply : Said) → TakesChoice old w r reply new
    → first_that_stands (refusals_of old.pool old.events asked) ≡ None
    → events_of old.pool old.events asked ≡ taking old.events w (choice old.pool old.events w r)
    → reply_of old.pool old.events asked ≡ taking_says old.events (choice old.pool old.events w r)
    → Steps old asked reply new
choice_steps old new asked w r reply takes stands events replies = ⊎_elim
    (λ over. rw ((takes.full over).0, (takes.full over).1) (steps_full old asked stands (rw events over)))
    (λ room. steps_made old new asked reply stands (rw events room) ((takes.fits room).0 ∙ sym replies) ((takes.fits room).1 ∙ ap (grown old) (sym events)))
    (cases_lt (limit old) (length old.events + length (taking old.events w (choice old.pool old.events w r))))

-- the choice of such a step may be taken where there is room
pub choice_may : (now : Past) (asked : Step) (w r : ℕ) → IsLawful now.pool (limit now) now.events
    → first_that_stands (refusals_of now.pool now.events asked) ≡ None
    → events_of now.pool now.events asked ≡ taking now.events w (choice now.pool now.events w r)
    → AllowedFrom now.pool now.events (taking now.events w (choice now.pool now.events w r))
choice_may now asked w r law stands events =
    subst (AllowedFrom now.pool now.events) events (may_step now.pool now.events asked law stands)
