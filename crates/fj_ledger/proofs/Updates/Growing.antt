-- All that is kept, after one event more.
use Rattle.std.proofs.Common.{ℕ, ◌≡◌, ◌<◌, true, List, [], ◌∷◌, ◌++◌, length, Option, Some, ap, ◌∙◌, ◌+◌, arith, append_assoc, length-append, ⊎_elim}
use Rattle.fj_rules.specs.declared.event.Event.{Event}
use Rattle.fj_rules.specs.Bounds.{Pool}
use Rattle.fj_rules.specs.Tasks.{is_completer}
use Rattle.fj_rules.specs.Climbs.{ClimbsCompleters, climbed, climbed_by}
use Rattle.fj_rules.specs.Places.{open_tasks, gone}
use Rattle.fj_rules.specs.Allowed.{Allowed}
use Rattle.fj_rules.proofs.Completers.Climbed.{climbs_more}
use Rattle.fj_rules.proofs.Events.Lawful.{allowed_more, front_cases}
use Rattle.fj_queues.specs.Queues.{Lists as Waiting}
use Rattle.fj_tree.specs.Records.{Records}
use Rattle.fj_queues.specs.Stacks.{StackLists}
use Rattle.fj_ledger.specs.InHands.{InHand}
use Rattle.fj_ledger.specs.Holds.{Holds, KeepsQueues, KeepsStacks, KeepsHands, KeepsTree}

-- each part after the event
pub record Parts (pool : Pool) (sealed h : List Event) (queues : Waiting) (stacks : StackLists) (hands : List (Option InHand)) (tree : Records) (opens gones : List ℕ) : Type 0 where
  pub queues_kept : KeepsQueues pool.limits h queues
  pub stacks_kept : KeepsStacks pool.limits h stacks
  pub hands_kept : KeepsHands pool.limits h hands
  pub tree_kept : KeepsTree pool.limits h tree
  pub open_kept : opens ≡ open_tasks h
  pub gone_kept : gone sealed ++ gones ≡ gone h

climbs_one : (h : List Event) (e : Event) → ClimbsCompleters h → ((c : ℕ) → climbed_by e ≡ Some c → is_completer h c ≡ true) → ClimbsCompleters (h ++ e ∷ [])
unfolding climbed
climbs_one h e climbs at_completers = climbs_more h (e ∷ []) climbs (λ c there. ⊎_elim (at_completers c) (λ none. absurd cc) (front_cases c (climbed_by e) [] there))

pub grown_holds : {sealed : List Event} (pool : Pool) (h : List Event) (e : Event) (queues queues2 : Waiting) (stacks stacks2 : StackLists) (hands hands2 : List (Option InHand)) (tree tree2 : Records) (opens opens2 gones gones2 : List ℕ)
    → Holds pool sealed h queues stacks hands tree opens gones → Allowed pool h e → length h < length sealed + pool.limits.events
    → ((c : ℕ) → climbed_by e ≡ Some c → is_completer h c ≡ true)
    → Parts pool sealed (h ++ e ∷ []) queues2 stacks2 hands2 tree2 opens2 gones2
    → Holds pool sealed (h ++ e ∷ []) queues2 stacks2 hands2 tree2 opens2 gones2
grown_holds {sealed} pool h e queues queues2 stacks stacks2 hands hands2 tree tree2 opens opens2 gones gones2 holds may fits at_completers parts = record {
  within = holds.within;
  lawful = allowed_more pool [] h e holds.lawful may;
  climbs = climbs_one h e holds.climbs at_completers;
  sealed_part = record {
    begins = (holds.sealed_part.begins.0 ++ e ∷ [], ap (λ (es : List Event). es ++ e ∷ []) holds.sealed_part.begins.1 ∙ append_assoc sealed holds.sealed_part.begins.0 (e ∷ []));
    few = holds.sealed_part.few;
    left = holds.sealed_part.left;
  };
  fits = omega (arith, length-append h (e ∷ []));
  queues_kept = parts.queues_kept;
  stacks_kept = parts.stacks_kept;
  hands_kept = parts.hands_kept;
  tree_kept = parts.tree_kept;
  open_kept = parts.open_kept;
  gone_kept = parts.gone_kept;
}
