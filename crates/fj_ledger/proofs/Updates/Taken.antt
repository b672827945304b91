-- All that is kept, after a task was taken from a queue.
use Rattle.std.proofs.Common.{append_assoc, ◌+◌, ℕ, ◌≡◌, ◌-◌, ◌<◌, true, false, List, [], ◌∷◌, ◌++◌, length, Option, Some, None, refl, ap, sym, ◌∙◌, arith, ⊎_elim}
use Rattle.std.proofs.Math.ListN.{length-set}
use Rattle.std.proofs.lemmas.Bool.{cases_eq, eq-eqb, ne_eqb}
use Rattle.std.proofs.lemmas.List.{get_or-set_other}
use Rattle.fj_rules.specs.declared.event.Event.{Event}
use Rattle.fj_rules.specs.declared.event.Event.TheVariants.{Out, Skip}
use Rattle.fj_rules.specs.declared.event.Event.TheVariants as event
use Rattle.fj_rules.specs.declared.owner.Owner.{Owner}
use Rattle.fj_rules.specs.declared.place.Place.{Place}
use Rattle.fj_rules.specs.declared.place.Place.TheVariants.{Held, Gone}
use Rattle.fj_rules.specs.Bounds.{Bounds, Pool, queues_in, owner_at}
use Rattle.fj_rules.specs.Lists.{is_in, without}
use Rattle.fj_rules.specs.Tasks.{accepted_by}
use Rattle.fj_rules.specs.Queues.{queue, taken_by, pushed_by}
use Rattle.fj_rules.specs.Stacks.{stack}
use Rattle.fj_rules.specs.Completers.{fires_or_passes, added_by, counted_by}
use Rattle.fj_rules.specs.Places.{place}
use Rattle.fj_rules.specs.Allowed.{Allowed, AllowedFrom}
use Rattle.fj_rules.proofs.Lists.Counting.{without_first_one, without_last_one}
use Rattle.fj_rules.proofs.Events.Growth.{stack_more, stack_same, without_none}
use Rattle.fj_rules.proofs.Events.Lawful.{queued_pushed}
use Rattle.fj_rules.proofs.Lists.Members.{Once, first_is_in, get_is_in}
use Rattle.fj_rules.proofs.Places.OnePlace.{queue_once}
use Rattle.fj_rules.proofs.Lists.Owners.{owners_apart}
use Rattle.fj_rules.proofs.Places.PlaceLaws.{moves}
use Rattle.fj_rules.proofs.Events.Queues.{queue_without, queue_other}
use Rattle.fj_rules.proofs.Events.Spending.{moved_status}
use Rattle.fj_rules.proofs.Events.Taking.{taking_open, handed_place, handed_gone, skipped_place, skipped_gone}
use Rattle.fj_queues.specs.Queues.{Lists as Waiting, queue_at, with_queue}
use Rattle.fj_tree.specs.declared.record.Record.{Record}
use Rattle.fj_tree.specs.Handles.{Handle}
use Rattle.fj_tree.specs.Records.{Records, IsSound, changed, with_place}
use Rattle.fj_tree.proofs.Index.Numbers.{written}
use Rattle.fj_ledger.specs.declared.queue_end.QueueEnd.{QueueEnd}
use Rattle.fj_ledger.specs.declared.queue_end.QueueEnd.TheVariants.{Oldest, Newest}
use Rattle.fj_queues.specs.Stacks.{StackLists, stack_at, with_stack}
use Rattle.fj_ledger.specs.InHands.{InHand}
use Rattle.fj_ledger.specs.Sources.{queue_of, end_of, rest_of}
use Rattle.fj_ledger.specs.Holds.{Holds, KeepsQueues, KeepsStacks, Tells}
use Rattle.fj_ledger.proofs.Updates.Growing.{grown_holds}
use Rattle.fj_ledger.proofs.Lists.HandParts.{hands_same}
use Rattle.fj_ledger.proofs.Recorded.Located.{IsLocated}
use Rattle.fj_ledger.proofs.Updates.Parts.{new_row, stacks_same}
use Rattle.fj_ledger.proofs.Recorded.Records.{tree_written}
use Rattle.fj_ledger.proofs.Recorded.Telling.{is_of_one, kept_more, pending_same, fired_same}
use Rattle.fj_rules.proofs.Events.KindsKept.{kind_still}

-- what is taken was there
pub in_end : (source : QueueEnd) (ts : List ℕ) (t : ℕ) → end_of source ts ≡ Some t → is_in t ts ≡ true
in_end (Oldest q) ts t at = first_is_in t ts at
in_end (Newest q) ts t at = get_is_in t ts (length ts - 1) at

-- a list that has each member once, without the one at an end
rest_is : (source : QueueEnd) (ts : List ℕ) (t : ℕ) → Once ts → end_of source ts ≡ Some t → without ts (t ∷ []) ≡ rest_of source ts
rest_is (Oldest q) ts t once at = without_first_one t ts once at
rest_is (Newest q) ts t once at = without_last_one t ts once at

queues_after_take : (pool : Pool) (h : List Event) (queues : Waiting) (source : QueueEnd) (t : ℕ) (e : Event) → AllowedFrom pool [] h → queue_of source < queues_in pool.limits
    → end_of source (queue h (owner_at pool.limits (queue_of source))) ≡ Some t → taken_by e ≡ Some t → ((p : Owner) → pushed_by p e ≡ None)
    → KeepsQueues pool.limits h queues → KeepsQueues pool.limits (h ++ e ∷ []) (with_queue queues (queue_of source) (rest_of source (queue_at queues (queue_of source))))
queues_after_take pool h queues source t e so within at takes pushes keeps =
    let q = queue_of source in
    let o = owner_at pool.limits (queue_of source) in
    let new = rest_of source (queue_at queues q) in
    let inside : q < length queues.lists = omega (arith, keeps.count) in
    record {
      count = length-set queues.lists q new ∙ keeps.count;
      room = keeps.room;
      each = λ i below. ⊎_elim
          (λ here. new_row queues.lists i q new inside here
          ∙ ap (rest_of source) (keeps.each q within)
          ∙ sym (queue_without h e o t (pushes o) takes ∙ rest_is source (queue h o) t (queue_once pool h o so) at)
          ∙ ap (queue (h ++ e ∷ [])) (ap (owner_at pool.limits) (sym here)))
          (λ other. get_or-set_other queues.lists q i new [] other ∙ keeps.each i below
          ∙ sym (queue_other pool h e (owner_at pool.limits i) o t so (pushes (owner_at pool.limits i)) takes
          (queued_pushed h o t (in_end source (queue h o) t at)) (λ is. other (owners_apart pool.limits i q is))))
          (cases_eq i q);
    }

-- a task that is handed out stands on top of the worker's stack
stack_out : (h : List Event) (w t : ℕ) → stack (h ++ event.Out t w ∷ []) w ≡ stack h w ++ t ∷ []
stack_out h w t = stack_more h w (event.Out t w) ∙ rw (eq-eqb w w refl, without_none) refl

-- and the other stacks stay
stacks_after_out : (l : Bounds) (h : List Event) (stacks : StackLists) (w t : ℕ) → w < l.workers → KeepsStacks l h stacks → KeepsStacks l (h ++ event.Out t w ∷ []) (with_stack stacks w (stack_at stacks w ++ t ∷ []))
stacks_after_out l h stacks w t within keeps = record {
  count = length-set stacks.lists w (stack_at stacks w ++ t ∷ []) ∙ keeps.count;
  room = keeps.room;
  each = λ v inside. ⊎_elim
      (λ here. new_row stacks.lists v w (stack_at stacks w ++ t ∷ []) (omega (arith, keeps.count)) here
      ∙ ap (λ ts. ts ++ t ∷ []) (keeps.each w within)
      ∙ sym (ap (stack (h ++ event.Out t w ∷ [])) here ∙ stack_out h w t))
      (λ other. get_or-set_other stacks.lists w v (stack_at stacks w ++ t ∷ []) [] other ∙ keeps.each v inside
      ∙ sym (stack_same h v (event.Out t w) refl (rw (ne_eqb v w other) refl)))
      (cases_eq v w);
}

-- what the record says then
place_tells : (h : List Event) (e : Event) (r : Record) (p : Place) → is_of_one e ≡ true → moves e ≡ true → accepted_by e ≡ None → fires_or_passes r.serial e ≡ false → added_by r.serial e ≡ None → counted_by r.serial e ≡ None
    → Tells h r → place (h ++ e ∷ []) r.serial ≡ p → Tells (h ++ e ∷ []) (with_place p r)
place_tells h e r p is moved none unfired added counted tells placed = record {
  kept = kept_more h e r.serial is tells.kept;
  kind = kind_still h e r.serial (λ said. some_none none said) ∙ tells.kind;
  place = placed;
  status = moved_status h e r.serial moved ∙ tells.status;
  pending = pending_same h e r.serial (kind_still h e r.serial (λ said. some_none none said)) added counted ∙ tells.pending;
  fired = fired_same h e r.serial unfired ∙ tells.fired;
}
  where
    some_none : {t : ℕ} → accepted_by e ≡ None → accepted_by e ≡ Some t → ⊥
    some_none none said = absurd cc

-- a task was skipped
pub skipped_holds : {sealed : List Event} (pool : Pool) (h : List Event) (t w : ℕ) (source : QueueEnd) (queues : Waiting) (stacks : StackLists) (hands : List (Option InHand)) (tree : Records) (opens gones : List ℕ) (at : Handle)
    → Holds pool sealed h queues stacks hands tree opens gones → IsSound tree → IsLocated tree t at → Allowed pool h (Skip t w) → length h < length sealed + pool.limits.events
    → queue_of source < queues_in pool.limits → end_of source (queue h (owner_at pool.limits (queue_of source))) ≡ Some t
    → Holds pool sealed (h ++ Skip t w ∷ []) (with_queue queues (queue_of source) (rest_of source (queue_at queues (queue_of source)))) stacks hands (changed tree at.key (with_place Gone)) opens (gones ++ t ∷ [])
skipped_holds pool h t w source queues stacks hands tree opens gones at holds sound l may fits within first =
    let e = Skip t w in
    let r = l.found in
    let so = holds.lawful in
    let number : r.serial ≡ t = l.serial ∙ l.number in
    let tells = holds.tree_kept.each at.key r l.at in
    let new = place_tells h e r Gone refl refl refl refl refl refl tells (ap (place (h ++ e ∷ [])) number ∙ skipped_place pool h t w so may) in
    grown_holds pool h e queues _ stacks stacks hands hands tree _ opens opens gones _ holds may fits (λ d none. absurd cc) (record {
      queues_kept = queues_after_take pool h queues source t e so within first refl (λ o. refl) holds.queues_kept;
      stacks_kept = stacks_same pool.limits h (h ++ e ∷ []) stacks (λ v. stack_same h v e refl refl) holds.stacks_kept;
      hands_kept = hands_same pool h e hands so may refl refl (λ c said there. absurd cc) holds.hands_kept;
      tree_kept = tree_written pool h e tree (changed tree at.key (with_place Gone)) at.key r (with_place Gone r) so may refl refl (ap Some (sym number)) sound (written tree at.key r (with_place Gone) l.at) refl new holds.tree_kept;
      open_kept = holds.open_kept ∙ sym (taking_open pool h e t so may refl);
      gone_kept = sym (append_assoc _ gones (t ∷ [])) ∙ ap (λ (ts : List ℕ). ts ++ t ∷ []) holds.gone_kept ∙ sym (skipped_gone pool h t w so may);
    })

-- a task was handed out
pub handed_holds : {sealed : List Event} (pool : Pool) (h : List Event) (t w : ℕ) (source : QueueEnd) (queues : Waiting) (stacks : StackLists) (hands : List (Option InHand)) (tree : Records) (opens gones : List ℕ) (at : Handle)
    → Holds pool sealed h queues stacks hands tree opens gones → IsSound tree → IsLocated tree t at → Allowed pool h (Out t w) → length h < length sealed + pool.limits.events → w < pool.limits.workers
    → queue_of source < queues_in pool.limits → end_of source (queue h (owner_at pool.limits (queue_of source))) ≡ Some t
    → Holds pool sealed (h ++ Out t w ∷ []) (with_queue queues (queue_of source) (rest_of source (queue_at queues (queue_of source)))) (with_stack stacks w (stack_at stacks w ++ t ∷ [])) hands (changed tree at.key (with_place (Held w))) opens gones
handed_holds pool h t w source queues stacks hands tree opens gones at holds sound l may fits worker within first =
    let e = Out t w in
    let r = l.found in
    let so = holds.lawful in
    let number : r.serial ≡ t = l.serial ∙ l.number in
    let tells = holds.tree_kept.each at.key r l.at in
    let new = place_tells h e r (Held w) refl refl refl refl refl refl tells (ap (place (h ++ e ∷ [])) number ∙ handed_place pool h t w so may) in
    grown_holds pool h e queues _ stacks _ hands hands tree _ opens opens gones gones holds may fits (λ d none. absurd cc) (record {
      queues_kept = queues_after_take pool h queues source t e so within first refl (λ o. refl) holds.queues_kept;
      stacks_kept = stacks_after_out pool.limits h stacks w t worker holds.stacks_kept;
      hands_kept = hands_same pool h e hands so may refl refl (λ c said there. absurd cc) holds.hands_kept;
      tree_kept = tree_written pool h e tree (changed tree at.key (with_place (Held w))) at.key r (with_place (Held w) r) so may refl refl (ap Some (sym number)) sound (written tree at.key r (with_place (Held w)) l.at) refl new holds.tree_kept;
      open_kept = holds.open_kept ∙ sym (taking_open pool h e t so may refl);
      gone_kept = holds.gone_kept ∙ sym (handed_gone pool h t w so may);
    })
