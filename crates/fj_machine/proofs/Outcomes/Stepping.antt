-- What every step answers: it is refused, or its events do not fit, or it is made.
use Rattle.std.proofs.Common.{ℕ, ◌≡◌, ◌+◌, ◌≤◌, ◌<◌, List, [], length, Some, None, refl, ap, sym}
use Rattle.std.proofs.lemmas.List.{append-nil}
use Rattle.std.proofs.lemmas.Bool.{le-ltb, lt-ltb}
use Rattle.fj_rules.specs.Pasts.{limit}
use Rattle.fj_rules.specs.declared.event.Event.{Event}
use Rattle.fj_rules.specs.declared.step.Step.{Step}
use Rattle.fj_rules.specs.declared.refusal.Refusal.{Refusal}
use Rattle.fj_rules.specs.declared.refusal.Refusal.TheVariants.{LogFull}
use Rattle.fj_rules.specs.declared.said.Said.{Said}
use Rattle.fj_rules.specs.declared.said.Said.TheVariants as says
use Rattle.fj_rules.specs.Bounds.{Pool}
use Rattle.fj_rules.specs.Allowed.{AllowedFrom}
use Rattle.fj_rules.specs.Answers.{answer, refusal_of, refusals_of, first_that_stands, events_of, reply_of}
use Rattle.fj_rules.specs.Runs.{Past, Steps, grown}
use Rattle.fj_rules.proofs.Steps.Standing.{all_fail}
use Rattle.fj_rules.proofs.Steps.StepsAllowed.{step_allowed}
use Rattle.fj_ledger.specs.Holds.{IsLawful}

-- a step that appends nothing leaves everything as it was
pub told : (now : Past) (asked : Step) (reply : Said) → answer now asked ≡ (reply, []) → Steps now asked reply now
told now asked reply is = rw is (refl, ap (λ (es : List Event). let p : Past = record now { events = es } in p) (sym (append-nil now.events)))

refused : (past : Past) (asked : Step) (r : Refusal) → refusal_of past asked ≡ Some r → answer past asked ≡ (says.Refused r, [])
unfolding answer
refused past asked r is = rw is refl

pub allowed : (past : Past) (asked : Step) → refusal_of past asked ≡ None → answer past asked ≡ (reply_of past.pool past.events asked, events_of past.pool past.events asked)
unfolding answer
allowed past asked is = rw is refl

standing : (past : Past) (asked : Step) (r : Refusal) → first_that_stands (refusals_of past.pool past.events asked) ≡ Some r → refusal_of past asked ≡ Some r
unfolding refusal_of
standing past asked r is = rw is refl

full : (past : Past) (asked : Step) → first_that_stands (refusals_of past.pool past.events asked) ≡ None
    → limit past < length past.events + length (events_of past.pool past.events asked) → refusal_of past asked ≡ Some LogFull
unfolding refusal_of
full past asked is over = rw (is, lt-ltb (limit past) (length past.events + length (events_of past.pool past.events asked)) over) refl

pub none_stands : (past : Past) (asked : Step) → first_that_stands (refusals_of past.pool past.events asked) ≡ None
    → length past.events + length (events_of past.pool past.events asked) ≤ limit past → refusal_of past asked ≡ None
unfolding refusal_of
none_stands past asked is fits = rw (is, le-ltb (limit past) (length past.events + length (events_of past.pool past.events asked)) fits) refl

-- ---- for each step

-- the step is refused, by the first cause that stands
pub steps_refused : (now : Past) (asked : Step) (r : Refusal) → first_that_stands (refusals_of now.pool now.events asked) ≡ Some r → Steps now asked (says.Refused r) now
steps_refused now asked r is = told now asked (says.Refused r) (refused now asked r (standing now asked r is))

-- its events do not fit
pub steps_full : (now : Past) (asked : Step) → first_that_stands (refusals_of now.pool now.events asked) ≡ None
    → limit now < length now.events + length (events_of now.pool now.events asked) → Steps now asked (says.Refused LogFull) now
steps_full now asked is over = told now asked (says.Refused LogFull) (refused now asked LogFull (full now asked is over))

-- it is made
pub steps_made : (old new : Past) (asked : Step) (reply : Said) → first_that_stands (refusals_of old.pool old.events asked) ≡ None
    → length old.events + length (events_of old.pool old.events asked) ≤ limit old
    → reply ≡ reply_of old.pool old.events asked → new ≡ grown old (events_of old.pool old.events asked) → Steps old asked reply new
steps_made old new asked reply is fits said events = rw (allowed old asked (none_stands old asked is fits)) (said, events)

-- each of its events may follow those before it
pub may_step : {most : ℕ} (pool : Pool) (h : List Event) (asked : Step) → IsLawful pool most h → first_that_stands (refusals_of pool h asked) ≡ None → AllowedFrom pool h (events_of pool h asked)
may_step pool h asked law is = step_allowed pool h asked law.allowed law.climbs (record { tests = all_fail (refusals_of pool h asked) is })
