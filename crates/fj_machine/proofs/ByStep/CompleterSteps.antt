-- Steps of running tasks that change other completers.
use Rattle.std.proofs.Common.{ℕ, ◌≡◌, ◌+◌, [], Some, None, true, false, refl}
use Rattle.fj_rules.specs.declared.event.Event.TheVariants as event
use Rattle.fj_rules.specs.declared.said.Said.TheVariants as says
use Rattle.fj_rules.specs.declared.status.Status.TheVariants.{Normal}
use Rattle.fj_rules.specs.declared.step.Step.TheVariants.{Add, QuietRoot}
use Rattle.fj_rules.specs.Climbs.{path}
use Rattle.fj_rules.specs.Completers.{pending}
use Rattle.fj_rules.specs.Statuses.{status, is_undone}
use Rattle.fj_rules.specs.Answers.{refusals_of, first_that_stands, events_of, reply_of, root_of}
use Rattle.fj_rules.specs.Runs.{Past}
use Rattle.fj_machine.proofs.Outcomes.OneEvent.{IsOf}

pub adds : (now : Past) (w c n : ℕ) → first_that_stands (refusals_of now.pool now.events (Add w c n)) ≡ None → IsOf now (Add w c n) (event.Add c n)
unfolding events_of
adds now w c n stands = record { stands = stands; event = refl }

pub add_says : (now : Past) (w c n : ℕ) → says.Count (pending now.events c + n) ≡ reply_of now.pool now.events (Add w c n)
unfolding reply_of
add_says now w c n = refl

pub settles_root : (now : Past) (w t r : ℕ) → first_that_stands (refusals_of now.pool now.events (QuietRoot w t)) ≡ None
    → root_of (path now.events t) ≡ Some r → is_undone (status now.events r) ≡ true → IsOf now (QuietRoot w t) (event.Settle r Normal)
unfolding events_of
settles_root now w t r stands root undone = record { stands = stands; event = rw (root, undone) refl }

pub root_says : (now : Past) (w t r : ℕ) → root_of (path now.events t) ≡ Some r → is_undone (status now.events r) ≡ true
    → says.Root r ≡ reply_of now.pool now.events (QuietRoot w t)
unfolding reply_of
root_says now w t r root undone = rw (root, undone) refl

-- a root that is done stays as it is
pub leaves_root : (now : Past) (w t r : ℕ) → root_of (path now.events t) ≡ Some r → is_undone (status now.events r) ≡ false
    → (events_of now.pool now.events (QuietRoot w t) ≡ []) × (reply_of now.pool now.events (QuietRoot w t) ≡ says.Spent r)
unfolding events_of reply_of
leaves_root now w t r root done = (rw (root, done) refl, rw (root, done) refl)
