-- The events of every step against which nothing stands are allowed.
use Rattle.std.proofs.Common.{ℕ, ◌≡◌, List, [], refl}
use Rattle.fj_rules.specs.declared.event.Event.{Event}
use Rattle.fj_rules.specs.declared.step.Step.TheVariants.{Submit, Fork, Trigger, Poll, Help, Join, End, HookDone, Add, QuietRoot, Fault, Cancel, Shutdown, Stop, IsQuiescent, State, Release}
use Rattle.fj_rules.specs.declared.step.Step.{Step}
use Rattle.fj_rules.specs.Bounds.{Pool}
use Rattle.fj_rules.specs.Climbs.{ClimbsCompleters}
use Rattle.fj_rules.specs.Allowed.{AllowedFrom}
use Rattle.fj_rules.specs.Answers.{events_of}
use Rattle.fj_rules.proofs.Steps.Standing.{Stands}
use Rattle.fj_rules.proofs.Steps.AcceptsAllowed.{submit_allowed, fork_allowed, trigger_allowed}
use Rattle.fj_rules.proofs.Steps.TakesAllowed.{poll_allowed, help_allowed, join_allowed}
use Rattle.fj_rules.proofs.Steps.EndsAllowed.{end_allowed, hook_allowed}
use Rattle.fj_rules.proofs.Steps.CompletersAllowed.{add_allowed, quiet_root_allowed}
use Rattle.fj_rules.proofs.Steps.SettlesAllowed.{fault_allowed, cancel_allowed}
use Rattle.fj_rules.proofs.Steps.ShutsAllowed.{shutdown_allowed, stop_allowed}
use Rattle.fj_rules.proofs.Steps.ReleasesAllowed.{release_allowed}

no_events : (pool : Pool) (h : List Event) (t : ℕ) → (events_of pool h IsQuiescent ≡ []) × (events_of pool h (State t) ≡ [])
unfolding events_of
no_events pool h t = (refl, refl)

pub step_allowed : (pool : Pool) (h : List Event) (asked : Step) → AllowedFrom pool [] h → ClimbsCompleters h → Stands pool h asked → AllowedFrom pool h (events_of pool h asked)
step_allowed pool h (Submit s k) so climbs st = submit_allowed pool h s k so st
step_allowed pool h (Fork w k) so climbs st = fork_allowed pool h w k so st
step_allowed pool h (Trigger w count) so climbs st = trigger_allowed pool h w count so st
step_allowed pool h (Poll w r) so climbs st = poll_allowed pool h w r st
step_allowed pool h (Help w r) so climbs st = help_allowed pool h w r st
step_allowed pool h (Join w t r) so climbs st = join_allowed pool h w t r st
step_allowed pool h (End w ending) so climbs st = end_allowed pool h w ending so st
step_allowed pool h (HookDone w) so climbs st = hook_allowed pool h w so climbs
step_allowed pool h (Add w c n) so climbs st = add_allowed pool h w c n st
step_allowed pool h (QuietRoot w t) so climbs st = quiet_root_allowed pool h w t so st
step_allowed pool h (Fault t code) so climbs st = fault_allowed pool h t code so st
step_allowed pool h (Cancel t) so climbs st = cancel_allowed pool h t st
step_allowed pool h Shutdown so climbs st = shutdown_allowed pool h
step_allowed pool h Stop so climbs st = stop_allowed pool h
step_allowed pool h IsQuiescent so climbs st = rw (no_events pool h 0).0 tt
step_allowed pool h (State t) so climbs st = rw (no_events pool h t).1 tt
step_allowed pool h (Release t) so climbs st = release_allowed pool h t st
