-- What the steps of workers do not change.
use Rattle.std.specs.Prelude.{ℕ, ◌≡◌, Bool, true, false}
use Rattle.fj_rules.specs.declared.owner.Owner.TheVariants.{Sub}
use Rattle.fj_rules.specs.declared.step.Step.{Step}
use Rattle.fj_rules.specs.declared.step.Step.TheVariants as ask
use Rattle.fj_rules.specs.Queues.{pushed}
use Rattle.fj_rules.specs.Allowed.{is_closed, is_stopped}
use Rattle.fj_rules.specs.Pasts.{Past}

-- whether the step is a submission, a shutdown or a stop
abbrev pub is_outside_step : Step → Bool
is_outside_step (ask.Submit s k) = true
is_outside_step ask.Shutdown = true
is_outside_step ask.Stop = true
is_outside_step _ = false

-- no submitter has pushed a task, and nothing was closed, stopped or sealed
pub record IsInside (old new : Past) : Type 0 where
  pub pool : new.pool ≡ old.pool
  pub pushes : (s : ℕ) → pushed new.events (Sub s) ≡ pushed old.events (Sub s)
  pub closed : is_closed new.events ≡ is_closed old.events
  pub stopped : is_stopped new.events ≡ is_stopped old.events
  pub sealed : new.sealed ≡ old.sealed
  pub seals : new.seals ≡ old.seals
