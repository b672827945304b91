-- How one event changes each count.
use Rattle.std.specs.Prelude.{◌≡◌, ◌+◌, ◌^◌, ◌<◌, ℕ, Bool, if◌then◌else◌}
use Rattle.fj_rules.specs.declared.event.Event.{Event}
use Rattle.fj_tally.specs.declared.counts.Counts.{Counts}
use Rattle.fj_tally.specs.Tallies.{is_submission, is_fork, is_trigger, is_beginning, is_skip, is_failure, is_cancellation, is_release}

-- no count overflows by one more
pub record HasRoom (c : Counts) : Type 0 where
  pub submitted : c.submitted + 1 < 2 ^ 64
  pub forked : c.forked + 1 < 2 ^ 64
  pub triggers : c.triggers + 1 < 2 ^ 64
  pub begun : c.begun + 1 < 2 ^ 64
  pub skipped : c.skipped + 1 < 2 ^ 64
  pub failed : c.failed + 1 < 2 ^ 64
  pub cancelled : c.cancelled + 1 < 2 ^ 64
  pub released : c.released + 1 < 2 ^ 64

-- 1 if the event passes the test, and else 0
abbrev pub one_if : (Event → Bool) → Event → ℕ
one_if test e = if test e then 1 else 0

-- each count of this event is one higher, and the others stay
pub record CountsMore (old new : Counts) (e : Event) : Type 0 where
  pub submitted : new.submitted ≡ old.submitted + one_if is_submission e
  pub forked : new.forked ≡ old.forked + one_if is_fork e
  pub triggers : new.triggers ≡ old.triggers + one_if is_trigger e
  pub begun : new.begun ≡ old.begun + one_if is_beginning e
  pub skipped : new.skipped ≡ old.skipped + one_if is_skip e
  pub failed : new.failed ≡ old.failed + one_if is_failure e
  pub cancelled : new.cancelled ≡ old.cancelled + one_if is_cancellation e
  pub released : new.released ≡ old.released + one_if is_release e
