-- The events of Add and QuietRoot are allowed.
use Rattle.std.proofs.Common.{ℕ, ◌≡◌, ◌+◌, List, [], length, ◌-◌, Option, Some, None, refl}
use Rattle.std.proofs.lemmas.Bool.{not-false, ltb-false}
use Rattle.fj_rules.specs.declared.limits.TheConstants.{MAX_PENDING}
use Rattle.fj_rules.specs.declared.event.Event.{Event}
use Rattle.fj_rules.specs.declared.step.Step.TheVariants.{Add, QuietRoot}
use Rattle.fj_rules.specs.Bounds.{Pool}
use Rattle.fj_rules.specs.Tasks.{is_completer, is_kept}
use Rattle.fj_rules.specs.Climbs.{path}
use Rattle.fj_rules.specs.Allowed.{AllowedFrom}
use Rattle.fj_rules.specs.Answers.{events_of, root_of, root_events}
use Rattle.fj_rules.specs.Completers.{pending}
use Rattle.fj_rules.proofs.Lists.Members.{get_is_in}
use Rattle.fj_rules.proofs.Completers.Parents.{path_completers, root_free}
use Rattle.fj_rules.proofs.Steps.Standing.{Stands}
use Rattle.fj_rules.proofs.Steps.ClimbsAllowed.{settling_free}

pub add_allowed : (pool : Pool) (h : List Event) (w c n : ℕ) → Stands pool h (Add w c n) → AllowedFrom pool h (events_of pool h (Add w c n))
unfolding events_of
add_allowed pool h w c n st =
    let later = st.tests.1.1.1 in
    ((not-false (is_kept h c) later.0, not-false (is_completer h c) later.1.0, ltb-false MAX_PENDING (pending h c + n) later.1.1.0), tt)

pub quiet_root_allowed : (pool : Pool) (h : List Event) (w t : ℕ) → AllowedFrom pool [] h → Stands pool h (QuietRoot w t) → AllowedFrom pool h (events_of pool h (QuietRoot w t))
unfolding events_of
quiet_root_allowed pool h w t so st = go (root_of (path h t)) refl
  where
    go : (r : Option ℕ) → root_of (path h t) ≡ r → AllowedFrom pool h (root_events h r)
    go None is = tt
    go (Some r) is =
        let completer = not-false (is_completer h t) st.tests.1.1.1.1.0 in
        settling_free pool h r (path_completers pool h t r so completer (get_is_in r (path h t) (length (path h t) - 1) is)) (root_free pool h t r so is)
