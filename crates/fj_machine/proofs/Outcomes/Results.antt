-- What a check and a step come to.
use Rattle.std.proofs.Common.{◌≡◌, ◌+◌, ◌≤◌, ◌<◌, [], ◌∷◌, length, Some, Result, sym, ap, ◌∙◌, arith, subst}
use Rattle.std.specs.Result.{IsErrAnd}
use Rattle.std.proofs.lemmas.Result.{err_from_is_err_and}
use Rattle.fj_rules.specs.declared.event.Event.{Event}
use Rattle.fj_rules.specs.declared.refusal.Refusal.{Refusal}
use Rattle.fj_rules.specs.declared.refusal.Refusal.TheVariants.{LogFull}
use Rattle.fj_rules.specs.declared.said.Said.{Said}
use Rattle.fj_rules.specs.declared.said.Said.TheVariants as says
use Rattle.fj_rules.specs.declared.step.Step.{Step}
use Rattle.fj_rules.specs.Allowed.{Allowed, AllowedFrom}
use Rattle.fj_rules.specs.Answers.{refusals_of, first_that_stands, events_of, reply_of}
use Rattle.fj_rules.specs.Pasts.{limit}
use Rattle.fj_rules.specs.Runs.{Past, Steps, grown}
use Rattle.fj_ledger.specs.Holds.{IsLawful}
use Rattle.fj_machine.specs.Outcomes.{Makes}
use Rattle.fj_machine.proofs.Outcomes.Stepping.{steps_refused, steps_full, steps_made, may_step}
use Rattle.fj_machine.proofs.Outcomes.OneEvent.{IsOf}

-- at the exit of a `?` the step is refused for what the check says
pub exits : (now : Past) (asked : Step) (result : Result Said Refusal) (r : Refusal) → IsErrAnd result (λ e. e ≡ r)
    → first_that_stands (refusals_of now.pool now.events asked) ≡ Some r → Makes now asked result now
exits now asked result r is stands =
    let p = err_from_is_err_and result is in
    rw (p.1, p.2) (steps_refused now asked r stands)

-- and where the check is for room
pub exits_full : (now : Past) (asked : Step) (result : Result Said Refusal) (r : Refusal) → IsErrAnd result (λ e. e ≡ r)
    → r ≡ LogFull → Steps now asked (says.Refused LogFull) now → Makes now asked result now
exits_full now asked result r is full steps =
    let p = err_from_is_err_and result is in
    rw (p.1, p.2, full) steps

-- ---- steps of one event

one : (now : Past) (asked : Step) (e : Event) → IsOf now asked e → length (events_of now.pool now.events asked) ≡ 1
one now asked e is = ap length is.event

pub full_of_one : (now : Past) (asked : Step) (e : Event) (result : Result Said Refusal) (r : Refusal) → IsErrAnd result (λ e. e ≡ r) → IsOf now asked e
    → (r ≡ LogFull) × (limit now < length now.events + 1) → Makes now asked result now
full_of_one now asked e result r is of full = exits_full now asked result r is full.0 (steps_full now asked of.stands (omega (arith, one now asked e of, full.1)))

pub may_one : (now : Past) (asked : Step) (e : Event) → IsLawful now.pool (limit now) now.events → IsOf now asked e → Allowed now.pool now.events e
may_one now asked e law of =
    (subst (AllowedFrom now.pool now.events) of.event (may_step now.pool now.events asked law of.stands)).0

pub made_one : (old new : Past) (asked : Step) (e : Event) (reply : Said) → IsOf old asked e → length old.events + 1 ≤ limit old
    → reply ≡ reply_of old.pool old.events asked → new ≡ grown old (e ∷ []) → Steps old asked reply new
made_one old new asked e reply of room said event =
    steps_made old new asked reply of.stands (omega (arith, one old asked e of, room)) said (event ∙ ap (grown old) (sym of.event))
