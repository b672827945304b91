-- A task that was released is settled; if its completion action is in a hand, what stands with that tells the status.
use Rattle.std.proofs.Common.{ℕ, ◌≡◌, ◌+◌, ◌<◌, Bool, true, false, cond, List, [], ◌∷◌, ◌++◌, length, map, Option, Some, refl, ap, sym, ◌∙◌}
use Rattle.std.specs.Prelude.{◌==◌, option_map}
use Rattle.std.proofs.lemmas.Bool.{eqb-true, eq-eqb, true≢false}
use Rattle.std.proofs.lemmas.Option.{same_Some}
use Rattle.fj_rules.specs.declared.event.Event.{Event}
use Rattle.fj_rules.specs.declared.event.Event.TheVariants.{Settle}
use Rattle.fj_rules.specs.declared.status.Status.{Status}
use Rattle.fj_rules.specs.Bounds.{Pool}
use Rattle.fj_rules.specs.Tasks.{is_kept}
use Rattle.fj_rules.specs.Statuses.{status}
use Rattle.fj_rules.specs.Places.{place, is_open}
use Rattle.fj_rules.specs.Allowed.{Allowed, AllowedFrom, is_fired_by_complete, fires_by_complete}
use Rattle.fj_rules.proofs.Events.Ends.{status_settle}
use Rattle.fj_rules.proofs.Events.KindsKept.{parent_still}
use Rattle.fj_rules.proofs.Events.Lawful.{known_more, not_new}
use Rattle.fj_rules.proofs.Events.Spending.{spending_open, spending_gone}
use Rattle.fj_rules.proofs.Places.PlaceLaws.{unmoved_queue, unmoved_stack}
use Rattle.fj_queues.specs.Queues.{Lists as Waiting}
use Rattle.fj_tree.specs.Records.{Records}
use Rattle.fj_queues.specs.Stacks.{StackLists}
use Rattle.fj_ledger.specs.InHands.{InHand, released_with}
use Rattle.fj_ledger.specs.Holds.{Holds, TellsHook}
use Rattle.fj_ledger.proofs.Updates.Growing.{grown_holds}
use Rattle.fj_ledger.proofs.Lists.HandParts.{any_same, left_out, hands_mapped, tells_hook}
use Rattle.fj_ledger.proofs.Updates.Parts.{queues_same, stacks_same}
use Rattle.fj_ledger.proofs.Recorded.Records.{tree_other}
use Rattle.fj_ledger.proofs.Updates.Spent.{open_after, gone_after}
use Rattle.fj_ledger.proofs.Updates.Settled.{left_shut}

settled_hook : (pool : Pool) (h : List Event) (t : ℕ) (s : Status) (k : InHand) → AllowedFrom pool [] h → Allowed pool h (Settle t s) → is_kept h t ≡ false → TellsHook h k → TellsHook (h ++ Settle t s ∷ []) (released_with t s k)
unfolding is_fired_by_complete
settled_hook pool h t s k so may none tells = go (k.completer == t) refl
  where
    h2 : List Event
    h2 = h ++ Settle t s ∷ []

    go : (b : Bool) → (k.completer == t) ≡ b → TellsHook h2 (cond (k.completer == t) (record k { released = Some s }) k)
    go true same = rw same (record {
      known = known_more h (Settle t s) k.completer tells.known;
      parent = parent_still h (Settle t s) k.completer (not_new pool h (Settle t s) k.completer so may tells.known) ∙ tells.parent;
      how = any_same (fires_by_complete k.completer) h (Settle t s) refl ∙ tells.how;
      released = (left_out pool h (Settle t s) k.completer so may tells.known (ap (is_kept h) (eqb-true k.completer t same) ∙ none), ap (status h2) (eqb-true k.completer t same) ∙ status_settle pool h t s so may.1);
    })
    go false differs = rw differs (tells_hook pool h (Settle t s) k so may refl refl (λ said. absurd (true≢false (sym (eq-eqb k.completer t (sym (same_Some t k.completer said))) ∙ differs))) tells)

pub settle_hand_holds : {sealed : List Event} (pool : Pool) (h : List Event) (t : ℕ) (s : Status) (queues : Waiting) (stacks : StackLists) (hands : List (Option InHand)) (tree : Records) (opens gones : List ℕ)
    → Holds pool sealed h queues stacks hands tree opens gones → Allowed pool h (Settle t s) → length h < length sealed + pool.limits.events → is_kept h t ≡ false
    → Holds pool sealed (h ++ Settle t s ∷ []) queues stacks (map (option_map (released_with t s)) hands) tree opens gones
settle_hand_holds pool h t s queues stacks hands tree opens gones holds may fits none =
    let e = Settle t s in
    let so = holds.lawful in
    let shut : is_open (place h t) ≡ false = left_shut pool h t so may.0 none in
    grown_holds pool h e queues queues stacks stacks hands _ tree tree opens opens gones gones holds may fits (λ d said. absurd cc) (record {
      queues_kept = queues_same pool.limits h (h ++ e ∷ []) queues (λ o. unmoved_queue h e o refl) holds.queues_kept;
      stacks_kept = stacks_same pool.limits h (h ++ e ∷ []) stacks (λ w. unmoved_stack h e w refl) holds.stacks_kept;
      hands_kept = hands_mapped pool.limits h e (released_with t s) hands refl whose (λ k tells. settled_hook pool h t s k so may none tells) holds.hands_kept;
      tree_kept = tree_other pool h e tree so may refl refl (λ r tells said. true≢false (sym tells.kept ∙ ap (is_kept h) (same_Some r.serial t (sym said)) ∙ none)) holds.tree_kept;
      open_kept = open_after h opens t false holds.open_kept shut ∙ sym (spending_open pool h e t so may refl);
      gone_kept = gone_after _ h gones t false holds.gone_kept shut ∙ sym (spending_gone pool h e t so may refl may.0);
    })
  where
    whose : (k : InHand) → (released_with t s k).completer ≡ k.completer
    whose k = go (k.completer == t)
      where
        go : (b : Bool) → (cond b (record k { released = Some s }) k).completer ≡ k.completer
        go true = refl
        go false = refl
