-- What has been counted so far.
use Rattle.std.proofs.Common.{◌≡◌, List, count_by}
use Rattle.fj_rules.specs.declared.event.Event.{Event}
use Rattle.fj_tally.specs.declared.counts.Counts.{Counts}
use Rattle.fj_tally.specs.Tallies.{is_submission, is_fork, is_trigger, is_beginning, is_skip, is_failure, is_cancellation, is_release}

-- each count is that of these events
pub record Counted (c : Counts) (h : List Event) : Type 0 where
  pub submitted : c.submitted ≡ count_by is_submission h
  pub forked : c.forked ≡ count_by is_fork h
  pub triggers : c.triggers ≡ count_by is_trigger h
  pub begun : c.begun ≡ count_by is_beginning h
  pub skipped : c.skipped ≡ count_by is_skip h
  pub failed : c.failed ≡ count_by is_failure h
  pub cancelled : c.cancelled ≡ count_by is_cancellation h
  pub released : c.released ≡ count_by is_release h
