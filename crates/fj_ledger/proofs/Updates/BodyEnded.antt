-- All that is kept, after a body has ended.
use Rattle.std.proofs.Common.{append_assoc, ◌+◌, ℕ, ◌≡◌, ◌-◌, ◌<◌, Bool, true, not, List, [], ◌∷◌, ◌++◌, length, take, Option, Some, refl, ap, sym, ◌∙◌, arith, ⊎_elim}
use Rattle.std.specs.Prelude.{◌&&◌, if◌then◌else◌}
use Rattle.std.proofs.Math.ListN.{length-set}
use Rattle.std.proofs.lemmas.Bool.{cases_eq}
use Rattle.std.proofs.lemmas.List.{get_or-set_other}
use Rattle.fj_rules.specs.declared.event.Event.{Event}
use Rattle.fj_rules.specs.declared.event.Event.TheVariants.{End}
use Rattle.fj_rules.specs.declared.place.Place.{Place}
use Rattle.fj_rules.specs.declared.place.Place.TheVariants.{Open, Gone}
use Rattle.fj_rules.specs.Bounds.{Pool}
use Rattle.fj_rules.specs.Lists.{is_in, last_of}
use Rattle.fj_rules.specs.Tasks.{tasks, is_completer, is_completer_kind}
use Rattle.fj_rules.specs.Stacks.{stack}
use Rattle.fj_rules.specs.Places.{gone, place}
use Rattle.fj_rules.specs.Allowed.{Allowed, AllowedFrom}
use Rattle.fj_rules.proofs.Events.Ends.{stack_end, stack_end_other}
use Rattle.fj_rules.proofs.Events.Opening.{opens, ended_accepted, ended_place, ended_open, ended_gone}
use Rattle.fj_rules.proofs.Events.Queues.{queue_same}
use Rattle.fj_rules.proofs.Events.Spending.{moved_status}
use Rattle.fj_queues.specs.Queues.{Lists as Waiting}
use Rattle.fj_tree.specs.declared.record.Record.{Record}
use Rattle.fj_tree.specs.Arrivals as record_is
use Rattle.fj_tree.specs.Handles.{Handle}
use Rattle.fj_tree.specs.Records.{Records, IsSound, changed, with_place}
use Rattle.fj_tree.proofs.Index.Numbers.{written}
use Rattle.fj_queues.specs.Stacks.{StackLists, stack_at, with_stack}
use Rattle.fj_ledger.specs.InHands.{InHand}
use Rattle.fj_ledger.specs.Holds.{Holds, KeepsStacks, Tells}
use Rattle.fj_ledger.proofs.Recorded.ArrivalsTold.{spent_told}
use Rattle.fj_ledger.proofs.Updates.Growing.{grown_holds}
use Rattle.fj_ledger.proofs.Lists.HandParts.{hands_same}
use Rattle.fj_ledger.proofs.Recorded.Located.{IsLocated}
use Rattle.fj_ledger.proofs.Updates.Parts.{new_row, queues_same}
use Rattle.fj_ledger.proofs.Recorded.Records.{tree_written}
use Rattle.fj_ledger.proofs.Recorded.Telling.{kept_more, pending_same, fired_same}
use Rattle.fj_rules.proofs.Events.KindsKept.{kind_still}

-- the last task of a stack leaves it, and the other stacks stay
stacks_after_end : (pool : Pool) (h : List Event) (stacks : StackLists) (w t : ℕ) → AllowedFrom pool [] h → w < pool.limits.workers → last_of (stack h w) ≡ Some t
    → KeepsStacks pool.limits h stacks → KeepsStacks pool.limits (h ++ End t w ∷ []) (with_stack stacks w (take (length (stack_at stacks w) - 1) (stack_at stacks w)))
stacks_after_end pool h stacks w t so within last keeps =
    let row = take (length (stack_at stacks w) - 1) (stack_at stacks w) in
    record {
      count = length-set stacks.lists w row ∙ keeps.count;
      room = keeps.room;
      each = λ v inside. ⊎_elim
          (λ here. new_row stacks.lists v w row (omega (arith, keeps.count)) here
          ∙ ap (λ (ts : List ℕ). take (length ts - 1) ts) (keeps.each w within)
          ∙ sym (ap (stack (h ++ End t w ∷ [])) here ∙ stack_end pool h w t so last))
          (λ other. get_or-set_other stacks.lists w v row [] other ∙ keeps.each v inside ∙ sym (stack_end_other h v w t other))
          (cases_eq v w);
    }

-- whether the task is open then, as the record says it
pub stays_told : (h : List Event) (r : Record) → Tells h r → (is_completer_kind (Some r.kind) && not (record_is.is_spent r)) ≡ opens h r.serial
unfolding is_completer
stays_told h r tells = rw (tells.kind, spent_told h r tells) refl

pub ended_holds : {sealed : List Event} (pool : Pool) (h : List Event) (t w : ℕ) (b : Bool) (p : Place) (queues : Waiting) (stacks : StackLists) (hands : List (Option InHand)) (tree : Records) (opened gones opened2 gones2 : List ℕ) (at : Handle)
    → Holds pool sealed h queues stacks hands tree opened gones → IsSound tree → IsLocated tree t at → Allowed pool h (End t w) → w < pool.limits.workers → length h < length sealed + pool.limits.events
    → opens h t ≡ b → p ≡ (if b then Open else Gone) → opened2 ≡ opened ++ (if b then t ∷ [] else []) → gones2 ≡ gones ++ (if b then [] else t ∷ [])
    → Holds pool sealed (h ++ End t w ∷ []) queues (with_stack stacks w (take (length (stack_at stacks w) - 1) (stack_at stacks w))) hands (changed tree at.key (with_place p)) opened2 gones2
ended_holds {sealed} pool h t w b p queues stacks hands tree opened gones opened2 gones2 at holds sound l may within fits is placed open_is gone_is =
    let e = End t w in
    let r = l.found in
    let so = holds.lawful in
    let number : r.serial ≡ t = l.serial ∙ l.number in
    let tells = holds.tree_kept.each at.key r l.at in
    let known : is_in t (tasks h) ≡ true = ended_accepted pool h t w so may in
    let new : Tells (h ++ e ∷ []) (with_place p r) = record {
      kept = kept_more h e r.serial refl tells.kept;
      kind = kind_still h e r.serial (λ said. absurd cc) ∙ tells.kind;
      place = ap (place (h ++ e ∷ [])) number ∙ ended_place pool h t w so may ∙ rw is (sym placed);
      status = moved_status h e r.serial refl ∙ tells.status;
      pending = pending_same h e r.serial (kind_still h e r.serial (λ said. absurd cc)) refl refl ∙ tells.pending;
      fired = fired_same h e r.serial refl ∙ tells.fired;
    } in
    grown_holds pool h e queues queues stacks _ hands hands tree _ opened opened2 gones gones2 holds may fits (λ d none. absurd cc) (record {
      queues_kept = queues_same pool.limits h (h ++ e ∷ []) queues (λ o. queue_same h e o refl refl) holds.queues_kept;
      stacks_kept = stacks_after_end pool h stacks w t so within may.0 holds.stacks_kept;
      hands_kept = hands_same pool h e hands so may refl refl (λ c said there. absurd cc) holds.hands_kept;
      tree_kept = tree_written pool h e tree (changed tree at.key (with_place p)) at.key r (with_place p r) so may refl refl (ap Some (sym number)) sound (written tree at.key r (with_place p) l.at) refl new holds.tree_kept;
      open_kept = open_is ∙ ap (λ (ts : List ℕ). ts ++ (if b then t ∷ [] else [])) holds.open_kept ∙ sym (ended_open pool h t w so may ∙ rw is refl);
      gone_kept = ap (λ (ts : List ℕ). gone sealed ++ ts) gone_is ∙ sym (append_assoc (gone sealed) gones (if b then [] else t ∷ [])) ∙ ap (λ (ts : List ℕ). ts ++ (if b then [] else t ∷ [])) holds.gone_kept ∙ sym (ended_gone pool h t w so may ∙ rw is refl);
    })
