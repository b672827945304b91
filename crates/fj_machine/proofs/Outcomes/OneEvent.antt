-- Steps of one event, or of none.
use Rattle.std.proofs.Common.{◌≡◌, ◌+◌, ◌≤◌, [], ◌∷◌, length, None, refl, ap, ◌∙◌, arith}
use Rattle.fj_rules.specs.Pasts.{limit}
use Rattle.fj_rules.specs.declared.event.Event.{Event}
use Rattle.fj_rules.specs.declared.step.Step.{Step}
use Rattle.fj_rules.specs.declared.said.Said.{Said}
use Rattle.fj_rules.specs.Answers.{answer, refusals_of, first_that_stands, events_of, reply_of}
use Rattle.fj_rules.specs.Runs.{Past}
use Rattle.fj_ledger.specs.Holds.{IsLawful}
use Rattle.fj_machine.proofs.Outcomes.Stepping.{allowed, none_stands}

-- the step needs exactly the event e
pub record IsOf (now : Past) (asked : Step) (e : Event) : Type 0 where
  pub stands : first_that_stands (refusals_of now.pool now.events asked) ≡ None
  pub event : events_of now.pool now.events asked ≡ e ∷ []

-- ---- without events

-- a step that is not refused and appends nothing only tells
pub only_tells : (now : Past) (asked : Step) (reply : Said) → IsLawful now.pool (limit now) now.events → first_that_stands (refusals_of now.pool now.events asked) ≡ None
    → events_of now.pool now.events asked ≡ [] → reply_of now.pool now.events asked ≡ reply → answer now asked ≡ (reply, [])
only_tells now asked reply law stands events says =
    let fits : length now.events + length (events_of now.pool now.events asked) ≤ limit now = omega (arith, ap length events, law.fits) in
    allowed now asked (none_stands now asked stands fits) ∙ rw (events, says) refl
