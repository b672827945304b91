-- The event of Release is allowed.
use Rattle.std.proofs.Common.{ℕ, ◌≡◌, true, List, refl, not}
use Rattle.std.proofs.lemmas.Bool.{not-false, or_parts}
use Rattle.fj_rules.specs.declared.event.Event.{Event}
use Rattle.fj_rules.specs.declared.step.Step.TheVariants.{Release}
use Rattle.fj_rules.specs.declared.place.Place.{Place}
use Rattle.fj_rules.specs.declared.place.Place.TheVariants.{Queued, Held, Open, Gone}
use Rattle.fj_rules.specs.Bounds.{Pool}
use Rattle.fj_rules.specs.Tasks.{is_kept}
use Rattle.fj_rules.specs.Allowed.{AllowedFrom, has_kept_child}
use Rattle.fj_rules.specs.Answers.{events_of}
use Rattle.fj_rules.specs.Places.{place, is_gone}
use Rattle.fj_rules.proofs.Steps.Standing.{Stands}

pub gone_is : (p : Place) → is_gone p ≡ true → p ≡ Gone
gone_is Gone is = refl
gone_is (Queued o) is = absurd cc
gone_is (Held w) is = absurd cc
gone_is Open is = absurd cc

pub release_allowed : (pool : Pool) (h : List Event) (t : ℕ) → Stands pool h (Release t) → AllowedFrom pool h (events_of pool h (Release t))
unfolding events_of
release_allowed pool h t st =
    let parts = or_parts (not (is_gone (place h t))) (has_kept_child h t) st.tests.1.0 in
    ((not-false (is_kept h t) st.tests.0, gone_is (place h t) (not-false (is_gone (place h t)) parts.0), parts.1), tt)
