-- All that is kept, after a hook has ended.
use Rattle.std.proofs.Common.{◌+◌, ℕ, ◌≡◌, ◌<◌, List, [], ◌∷◌, ◌++◌, length, Option, Some, None, refl, sym, ◌∙◌}
use Rattle.std.proofs.Math.ListN.{set}
use Rattle.fj_rules.specs.declared.event.Event.{Event}
use Rattle.fj_rules.specs.declared.event.Event.TheVariants.{Hooked}
use Rattle.fj_rules.specs.Bounds.{Pool}
use Rattle.fj_rules.specs.Hooks.{hand}
use Rattle.fj_rules.specs.Allowed.{Allowed}
use Rattle.fj_rules.proofs.Places.PlaceLaws.{unmoved_queue, unmoved_stack}
use Rattle.fj_rules.proofs.Events.Calm.{calm_open, calm_gone}
use Rattle.fj_queues.specs.Queues.{Lists as Waiting}
use Rattle.fj_tree.specs.Records.{Records}
use Rattle.fj_queues.specs.Stacks.{StackLists}
use Rattle.fj_ledger.specs.InHands.{InHand}
use Rattle.fj_ledger.specs.Holds.{Holds}
use Rattle.fj_ledger.proofs.Updates.Growing.{grown_holds}
use Rattle.fj_ledger.proofs.Lists.HandParts.{hands_ended}
use Rattle.fj_ledger.proofs.Updates.Parts.{queues_same, stacks_same}
use Rattle.fj_ledger.proofs.Recorded.Records.{tree_same}

pub hook_end_holds : {sealed : List Event} (pool : Pool) (h : List Event) (c w : ℕ) (queues : Waiting) (stacks : StackLists) (hands : List (Option InHand)) (tree : Records) (opens gones : List ℕ)
    → Holds pool sealed h queues stacks hands tree opens gones → w < pool.limits.workers → hand h w ≡ Some c → length h < length sealed + pool.limits.events
    → Holds pool sealed (h ++ Hooked c ∷ []) queues stacks (set hands w None) tree opens gones
hook_end_holds pool h c w queues stacks hands tree opens gones holds within is fits =
    let e = Hooked c in
    let may : Allowed pool h e = (w, is) in
    let so = holds.lawful in
    grown_holds pool h e queues queues stacks stacks hands (set hands w None) tree tree opens opens gones gones holds may fits (λ d none. absurd cc) (record {
      queues_kept = queues_same pool.limits h (h ++ e ∷ []) queues (λ o. unmoved_queue h e o refl) holds.queues_kept;
      stacks_kept = stacks_same pool.limits h (h ++ e ∷ []) stacks (λ v. unmoved_stack h e v refl) holds.stacks_kept;
      hands_kept = hands_ended pool h c w hands so may within is holds.hands_kept;
      tree_kept = tree_same pool h e tree so may refl refl refl holds.tree_kept;
      open_kept = holds.open_kept ∙ sym (calm_open pool h e so may refl);
      gone_kept = holds.gone_kept ∙ sym (calm_gone pool h e so may refl);
    })
