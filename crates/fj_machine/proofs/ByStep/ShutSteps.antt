-- Steps that shut the pool.
use Rattle.std.proofs.Common.{◌≡◌, true, false, refl}
use Rattle.std.specs.Prelude.{◌||◌}
use Rattle.fj_rules.specs.Pasts.{limit}
use Rattle.fj_rules.specs.declared.event.Event.TheVariants as event
use Rattle.fj_rules.specs.declared.said.Said.TheVariants as says
use Rattle.fj_rules.specs.declared.step.Step.TheVariants.{Shutdown, Stop}
use Rattle.fj_rules.specs.Allowed.{is_closed, is_stopped}
use Rattle.fj_rules.specs.Answers.{events_of, reply_of}
use Rattle.fj_rules.specs.Runs.{Past, Steps}
use Rattle.fj_ledger.specs.Holds.{IsLawful}
use Rattle.fj_machine.proofs.Outcomes.OneEvent.{IsOf, only_tells}
use Rattle.fj_machine.proofs.Outcomes.Stepping.{told}

pub closes : (now : Past) → (is_closed now.events || is_stopped now.events) ≡ false → IsOf now Shutdown event.Close
unfolding events_of
closes now open_yet = record { stands = refl; event = rw open_yet refl }

-- a second one, and one after a stop, changes nothing
pub closed_tells : (now : Past) → IsLawful now.pool (limit now) now.events → (is_closed now.events || is_stopped now.events) ≡ true → Steps now Shutdown says.Done now
unfolding events_of reply_of
closed_tells now law closed = told now Shutdown says.Done (only_tells now Shutdown says.Done law refl (rw closed refl) refl)

pub stops : (now : Past) → is_stopped now.events ≡ false → IsOf now Stop event.Stop
unfolding events_of
stops now open_yet = record { stands = refl; event = rw open_yet refl }

pub stopped_tells : (now : Past) → IsLawful now.pool (limit now) now.events → is_stopped now.events ≡ true → Steps now Stop says.Done now
unfolding events_of reply_of
stopped_tells now law stopped = told now Stop says.Done (only_tells now Stop says.Done law refl (rw stopped refl) refl)

pub done_says : (now : Past) → (says.Done ≡ reply_of now.pool now.events Shutdown) × (says.Done ≡ reply_of now.pool now.events Stop)
unfolding reply_of
done_says now = (refl, refl)
