-- What holds of the history of each ledger.
use Rattle.std.proofs.Common.{ℕ, ◌+◌, List, length, Option}
use Rattle.fj_rules.specs.declared.event.Event.{Event}
use Rattle.fj_rules.specs.Bounds.{Pool}
use Rattle.fj_queues.specs.Queues.{Lists as Waiting}
use Rattle.fj_tree.specs.Records.{Records}
use Rattle.fj_queues.specs.Stacks.{StackLists}
use Rattle.fj_ledger.specs.InHands.{InHand}
use Rattle.fj_ledger.specs.Holds.{Holds, IsLawful}

pub lawful : {sealed : List Event} (pool : Pool) (h : List Event) (queues : Waiting) (stacks : StackLists) (hands : List (Option InHand)) (tree : Records) (opens gones : List ℕ)
    → Holds pool sealed h queues stacks hands tree opens gones → IsLawful pool (length sealed + pool.limits.events) h
lawful pool h queues stacks hands tree opens gones holds = record {
  within = holds.within;
  allowed = holds.lawful;
  climbs = holds.climbs;
  fits = holds.fits;
  one_each = holds.hands_kept.one_each;
  once = holds.hands_kept.once;
}
