-- All that is kept, after a seal.
use Rattle.std.proofs.Common.{ℕ, ◌≡◌, ◌≤◌, true, List, [], length, Option, sym, arith}
use Rattle.std.proofs.lemmas.List.{append-nil}
use Rattle.fj_rules.specs.declared.event.Event.{Event}
use Rattle.fj_rules.specs.Bounds.{Pool}
use Rattle.fj_rules.specs.Places.{gone}
use Rattle.fj_rules.specs.Answers.{is_quiet}
use Rattle.fj_rules.specs.declared.epoch.TheConstants.{MAX_EVENTS_AND_SEALS}
use Rattle.fj_rules.proofs.Headline.Sealing.{quiet_left}
use Rattle.fj_queues.specs.Queues.{Lists as Waiting}
use Rattle.fj_tree.specs.Records.{Records}
use Rattle.fj_queues.specs.Stacks.{StackLists}
use Rattle.fj_ledger.specs.InHands.{InHand}
use Rattle.fj_ledger.specs.Holds.{Holds}

pub sealed_holds : {sealed : List Event} (pool : Pool) (h : List Event) (queues : Waiting) (stacks : StackLists) (hands : List (Option InHand)) (tree : Records) (opens gones : List ℕ)
    → Holds pool sealed h queues stacks hands tree opens gones → is_quiet pool.limits h ≡ true → length h ≤ MAX_EVENTS_AND_SEALS
    → Holds pool h h queues stacks hands tree opens []
sealed_holds pool h queues stacks hands tree opens gones holds quiet few = record {
  within = holds.within;
  lawful = holds.lawful;
  climbs = holds.climbs;
  sealed_part = record { begins = ([], sym (append-nil h)); few = few; left = quiet_left pool h holds.lawful quiet };
  fits = omega arith;
  queues_kept = holds.queues_kept;
  stacks_kept = holds.stacks_kept;
  hands_kept = holds.hands_kept;
  tree_kept = holds.tree_kept;
  open_kept = holds.open_kept;
  gone_kept = append-nil (gone h);
}
