-- The events of Shutdown and Stop are allowed.
use Rattle.std.proofs.Common.{◌≡◌, Bool, true, false, List, [], ◌∷◌, refl, ◌||◌}
use Rattle.std.specs.Prelude.{if◌then◌else◌}
use Rattle.std.proofs.lemmas.Bool.{or_parts}
use Rattle.fj_rules.specs.declared.event.Event.{Event}
use Rattle.fj_rules.specs.declared.event.Event.TheVariants as event
use Rattle.fj_rules.specs.declared.step.Step.TheVariants.{Shutdown, Stop}
use Rattle.fj_rules.specs.Bounds.{Pool}
use Rattle.fj_rules.specs.Allowed.{AllowedFrom, is_closed, is_stopped}
use Rattle.fj_rules.specs.Answers.{events_of}

pub shutdown_allowed : (pool : Pool) (h : List Event) → AllowedFrom pool h (events_of pool h Shutdown)
unfolding events_of
shutdown_allowed pool h = go (is_closed h || is_stopped h) refl
  where
    go : (b : Bool) → (is_closed h || is_stopped h) ≡ b → AllowedFrom pool h (if b then [] else event.Close ∷ [])
    go true is = tt
    go false is = (or_parts (is_closed h) (is_stopped h) is, tt)

pub stop_allowed : (pool : Pool) (h : List Event) → AllowedFrom pool h (events_of pool h Stop)
unfolding events_of
stop_allowed pool h = go (is_stopped h) refl
  where
    go : (b : Bool) → is_stopped h ≡ b → AllowedFrom pool h (if b then [] else event.Stop ∷ [])
    go true is = tt
    go false is = (is, tt)
