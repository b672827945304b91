-- All that is kept, after a task was accepted.
use Rattle.std.proofs.Common.{ℕ, ◌≡◌, ◌≢◌, ◌+◌, ◌<◌, true, false, List, [], ◌∷◌, ◌++◌, length, Option, Some, None, refl, ap, sym, ◌∙◌, arith, subst, ⊎_elim}
use Rattle.std.specs.Prelude.{IsSome, IfSome, option_map}
use Rattle.std.specs.List.{list_any}
use Rattle.std.proofs.Math.ListN.{length-set}
use Rattle.std.proofs.lemmas.List.{get_or-set_other}
use Rattle.std.proofs.lemmas.Bool.{cases_eq}
use Rattle.fj_rules.specs.declared.event.Event.{Event}
use Rattle.fj_rules.specs.declared.event.Event.TheVariants.{Acc, Make}
use Rattle.fj_rules.specs.declared.kind.Kind.{Kind}
use Rattle.fj_rules.specs.declared.owner.Owner.{Owner}
use Rattle.fj_rules.specs.declared.place.Place.{Place}
use Rattle.fj_rules.specs.declared.place.Place.TheVariants.{Queued, Open}
use Rattle.fj_rules.specs.Bounds.{Bounds, Pool, IsOwner, queue_number, owner_at}
use Rattle.fj_rules.specs.Tasks.{accepted_by, is_kept, is_completer, parent_in}
use Rattle.fj_rules.specs.Queues.{queue, is_same}
use Rattle.fj_rules.specs.Completers.{is_spent, fires_or_passes}
use Rattle.fj_rules.specs.Places.{place}
use Rattle.fj_rules.specs.Allowed.{Allowed, AllowedFrom}
use Rattle.fj_rules.proofs.Events.Growth.{stack_same}
use Rattle.fj_rules.proofs.Events.Lawful.{is_new, same_owner}
use Rattle.fj_rules.proofs.Events.NewTasks.{kind_given, new_kind, new_count, new_undone, submitted_place, submitted_open, submitted_gone, made_place, made_open, made_gone, same_as_itself}
use Rattle.fj_rules.proofs.Places.OnePlace.{never, number_owner}
use Rattle.fj_rules.proofs.Lists.Owners.{owners_apart}
use Rattle.fj_rules.proofs.Events.Queues.{queue_same, queue_push}
use Rattle.fj_rules.proofs.Events.Releasing.{new_kept}
use Rattle.fj_rules.proofs.Completers.Unfired.{climbs_unfired}
use Rattle.fj_rules.proofs.Completers.Unknown.{unknown_unspent}
use Rattle.fj_queues.specs.Queues.{Lists as Waiting, queue_at, with_queue}
use Rattle.fj_tree.specs.Handles.{Handle}
use Rattle.fj_tree.specs.Records.{Records, IsCompleter, count, record_at, handle_of}
use Rattle.fj_tree.specs.Makes.{fresh, with_child_of}
use Rattle.fj_tree.proofs.Index.Numbers.{good_found}
use Rattle.fj_queues.specs.Stacks.{StackLists}
use Rattle.fj_ledger.specs.InHands.{InHand}
use Rattle.fj_ledger.specs.Holds.{Holds, KeepsQueues, KeepsTree, Tells}
use Rattle.fj_ledger.proofs.Updates.Growing.{grown_holds}
use Rattle.fj_ledger.proofs.Lists.HandParts.{hands_same}
use Rattle.fj_ledger.proofs.Recorded.Located.{located, completer_at}
use Rattle.fj_ledger.proofs.Updates.Parts.{new_row, queues_same, stacks_same}
use Rattle.fj_ledger.proofs.Recorded.Records.{IsMade, tree_made}
use Rattle.fj_ledger.proofs.Recorded.Telling.{fired_same}

-- ---- the record is put in

-- the parent is there
pub parent_there : (h : List Event) (tree : Records) (l : Bounds) (named : Option ℕ) (p : Option Handle) → KeepsTree l h tree
    → IfSome named (λ n. (is_kept h n ≡ true) × (is_completer h n ≡ true)) → option_map (λ (x : Handle). x.serial) p ≡ named → IfSome p (λ (x : Handle). IsSome (handle_of tree x.serial))
parent_there h tree l named None keeps under is = tt
parent_there h tree l named (Some x) keeps under is = keeps.all x.serial (subst (λ (o : Option ℕ). IfSome o (λ n. (is_kept h n ≡ true) × (is_completer h n ≡ true))) (sym is) under).0

-- and it is a completer
pub parent_is : (h : List Event) (tree : Records) (l : Bounds) (named : Option ℕ) (p : Option Handle) → KeepsTree l h tree
    → IfSome named (λ n. (is_kept h n ≡ true) × (is_completer h n ≡ true)) → option_map (λ (x : Handle). x.serial) p ≡ named
    → IfSome p (λ (x : Handle). handle_of tree x.serial ≡ Some x) → IfSome p (IsCompleter tree)
parent_is h tree l named None keeps under is found = tt
parent_is h tree l named (Some x) keeps under is found =
    let at = located tree x.serial (Some x) x (sym found) (good_found tree x.serial x found) refl in
    completer_at h tree x.serial x at (keeps.each x.key at.found at.at) (subst (λ (o : Option ℕ). IfSome o (λ n. (is_kept h n ≡ true) × (is_completer h n ≡ true))) (sym is) under).1

-- what it leaves
pub made_is : (old new : Records) (x : Handle) (k : Kind) (p : Place) → x.serial ≡ old.made → new.made ≡ old.made + 1 → new.room ≡ old.room
    → record_at old x.key ≡ None → record_at new x.key ≡ Some (fresh old.made k p)
    → ((key : ℕ) → key ≢ x.key → record_at new key ≡ option_map (with_child_of (parent_in (Some k))) (record_at old key)) → count new ≡ count old + 1
    → IsMade old new x.key x.serial k p
made_is old new x k p number made room vacant found others kept = record {
  made = made;
  room = room;
  number = number;
  vacant = vacant;
  fresh = found ∙ ap (λ (n : ℕ). Some (fresh n k p)) (sym number);
  others = others;
  count = kept;
}

-- ---- the record

-- what the new record says
fresh_tells : (pool : Pool) (h : List Event) (e : Event) (t : ℕ) (k : Kind) (p : Place) → AllowedFrom pool [] h → Allowed pool h e → accepted_by e ≡ Some t → kind_given e ≡ Some k
    → fires_or_passes t e ≡ false → list_any (fires_or_passes t) h ≡ false → place (h ++ e ∷ []) t ≡ p → Tells (h ++ e ∷ []) (fresh t k p)
fresh_tells pool h e t k p so may new given unfired before placed = record {
  kept = new_kept pool h e t so may new;
  kind = new_kind pool h e t k so may new given;
  place = placed;
  status = new_undone pool h e t so may new;
  pending = new_count pool h e t k so may new given;
  fired = fired_same h e t unfired ∙ before;
}

-- and no other one is
other_owner : (l : Bounds) (i : ℕ) (o : Owner) → IsOwner l o → i ≢ queue_number l o → is_same (owner_at l i) o ≡ false
other_owner l i o within other =
    never (is_same (owner_at l i) o) (λ same. other (owners_apart l i (queue_number l o) (same_owner (owner_at l i) o same ∙ sym ((number_owner l o within).1))))

queues_after_accept : (pool : Pool) (h : List Event) (queues : Waiting) (o : Owner) (t : ℕ) (k : Kind) → AllowedFrom pool [] h → Allowed pool h (Acc t o k) → IsOwner pool.limits o
    → KeepsQueues pool.limits h queues
    → KeepsQueues pool.limits (h ++ Acc t o k ∷ []) (with_queue queues (queue_number pool.limits o) (queue_at queues (queue_number pool.limits o) ++ t ∷ []))
queues_after_accept pool h queues o t k so may within keeps =
    let e = Acc t o k in
    let q = queue_number pool.limits o in
    let at = number_owner pool.limits o within in
    let new = queue_at queues q ++ t ∷ [] in
    let inside : q < length queues.lists = omega (arith, keeps.count, at.0) in
    record {
      count = length-set queues.lists q new ∙ keeps.count;
      room = keeps.room;
      each = λ i below. ⊎_elim
          (λ here. new_row queues.lists i q new inside here
          ∙ ap (λ ts. ts ++ t ∷ []) (keeps.each q at.0 ∙ ap (queue h) at.1)
          ∙ sym (queue_push pool h e o t so may (rw (same_as_itself o) refl) refl)
          ∙ ap (queue (h ++ e ∷ [])) (sym at.1 ∙ ap (owner_at pool.limits) (sym here)))
          (λ other. get_or-set_other queues.lists q i new [] other ∙ keeps.each i below
          ∙ sym (queue_same h e (owner_at pool.limits i) (rw (other_owner pool.limits i o within other) refl) refl))
          (cases_eq i q);
    }

-- ---- all

unspent_new : {sealed : List Event} (pool : Pool) (h : List Event) (e : Event) (t : ℕ) (queues : Waiting) (stacks : StackLists) (hands : List (Option InHand)) (tree : Records) (opens gones : List ℕ)
    → Holds pool sealed h queues stacks hands tree opens gones → Allowed pool h e → accepted_by e ≡ Some t → list_any (fires_or_passes t) h ≡ false
unspent_new pool h e t queues stacks hands tree opens gones holds may new = climbs_unfired h holds.climbs t (is_new pool h e t holds.lawful may new)

pub accept_holds : {sealed : List Event} (pool : Pool) (h : List Event) (t : ℕ) (o : Owner) (k : Kind) (queues : Waiting) (stacks : StackLists) (hands : List (Option InHand)) (tree new : Records) (opens gones : List ℕ) (key : ℕ)
    → Holds pool sealed h queues stacks hands tree opens gones → Allowed pool h (Acc t o k) → length h < length sealed + pool.limits.events → IsMade tree new key t k (Queued o)
    → Holds pool sealed (h ++ Acc t o k ∷ []) (with_queue queues (queue_number pool.limits o) (queue_at queues (queue_number pool.limits o) ++ t ∷ [])) stacks hands new opens gones
accept_holds pool h t o k queues stacks hands tree new opens gones key holds may fits made =
    let e = Acc t o k in
    let so = holds.lawful in
    let tells = fresh_tells pool h e t k (Queued o) so may refl refl refl (unspent_new pool h e t queues stacks hands tree opens gones holds may refl) (submitted_place pool h t o k so may) in
    grown_holds pool h e queues _ stacks stacks hands hands tree new opens opens gones gones holds may fits (λ d none. absurd cc) (record {
      queues_kept = queues_after_accept pool h queues o t k so may may.1 holds.queues_kept;
      stacks_kept = stacks_same pool.limits h (h ++ e ∷ []) stacks (λ w. stack_same h w e refl refl) holds.stacks_kept;
      hands_kept = hands_same pool h e hands so may refl refl (λ c said there. absurd cc) holds.hands_kept;
      tree_kept = tree_made pool h e tree new key t k (Queued o) so may refl refl refl made tells holds.tree_kept;
      open_kept = holds.open_kept ∙ sym (submitted_open pool h t o k so may);
      gone_kept = holds.gone_kept ∙ sym (submitted_gone pool h t o k so may);
    })

pub trigger_holds : {sealed : List Event} (pool : Pool) (h : List Event) (t : ℕ) (k : Kind) (queues : Waiting) (stacks : StackLists) (hands : List (Option InHand)) (tree new : Records) (opens gones : List ℕ) (key : ℕ)
    → Holds pool sealed h queues stacks hands tree opens gones → Allowed pool h (Make t k) → length h < length sealed + pool.limits.events → IsMade tree new key t k Open
    → Holds pool sealed (h ++ Make t k ∷ []) queues stacks hands new (opens ++ t ∷ []) gones
trigger_holds pool h t k queues stacks hands tree new opens gones key holds may fits made =
    let e = Make t k in
    let so = holds.lawful in
    let absent = is_new pool h e t so may refl in
    let unspent : is_spent h t ≡ false = unknown_unspent pool h t so (climbs_unfired h holds.climbs) absent in
    let tells = fresh_tells pool h e t k Open so may refl refl refl (climbs_unfired h holds.climbs t absent) (made_place pool h t k so may unspent) in
    grown_holds pool h e queues queues stacks stacks hands hands tree new opens (opens ++ t ∷ []) gones gones holds may fits (λ d none. absurd cc) (record {
      queues_kept = queues_same pool.limits h (h ++ e ∷ []) queues (λ o. queue_same h e o refl refl) holds.queues_kept;
      stacks_kept = stacks_same pool.limits h (h ++ e ∷ []) stacks (λ w. stack_same h w e refl refl) holds.stacks_kept;
      hands_kept = hands_same pool h e hands so may refl refl (λ c said there. absurd cc) holds.hands_kept;
      tree_kept = tree_made pool h e tree new key t k Open so may refl refl refl made tells holds.tree_kept;
      open_kept = ap (λ (ts : List ℕ). ts ++ t ∷ []) holds.open_kept ∙ sym (made_open pool h t k so may unspent);
      gone_kept = holds.gone_kept ∙ sym (made_gone pool h t k so may unspent);
    })
