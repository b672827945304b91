-- All that is kept, after a pending count was raised or has fallen.
use Rattle.std.proofs.Common.{ℕ, ◌≡◌, ◌+◌, ◌-◌, ◌<◌, true, false, List, [], ◌∷◌, ◌++◌, length, Option, Some, None, refl, ap, sym, ◌∙◌, subst, arith}
use Rattle.std.specs.Prelude.{option_map}
use Rattle.std.proofs.lemmas.Bool.{eq-eqb, le-ltb}
use Rattle.std.proofs.lemmas.Option.{same_Some}
use Rattle.fj_rules.specs.declared.limits.TheConstants.{MAX_PENDING}
use Rattle.fj_rules.specs.declared.event.Event.{Event}
use Rattle.fj_rules.specs.declared.event.Event.TheVariants.{Add, Dec}
use Rattle.fj_rules.specs.Bounds.{Pool}
use Rattle.fj_rules.specs.Tasks.{is_kept, is_completer, is_completer_kind}
use Rattle.fj_rules.specs.Completers.{pending, fires_or_passes}
use Rattle.fj_rules.specs.Climbs.{climbed_by}
use Rattle.fj_rules.specs.Allowed.{Allowed, AllowedFrom}
use Rattle.fj_rules.specs.Tasks.{accepted_by}
use Rattle.fj_rules.specs.Climbs.{arrival}
use Rattle.fj_rules.specs.Climbs as climb
use Rattle.fj_rules.proofs.Places.PlaceLaws.{none_accepted, unmoved_queue, unmoved_stack}
use Rattle.fj_rules.proofs.Events.Calm.{is_calm, calm_unmoved, calm_status, calm_place, calm_open, calm_gone}
use Rattle.fj_rules.proofs.Events.Spending.{settled_by}
use Rattle.fj_rules.proofs.Events.Pending.{pending_added, pending_counted}
use Rattle.fj_queues.specs.Queues.{Lists as Waiting}
use Rattle.fj_tree.specs.declared.record.Record.{Record}
use Rattle.fj_tree.specs.declared.arrive.Arrived.{Arrived}
use Rattle.fj_tree.specs.declared.arrive.Arrived.TheVariants.{Counted}
use Rattle.fj_tree.specs.declared.arrive.Arrived.TheVariants as arrive
use Rattle.fj_tree.specs.Arrivals.{arrived, arrival_at}
use Rattle.fj_tree.specs.Makes.{add_refusal}
use Rattle.fj_tree.specs.Handles.{Handle}
use Rattle.fj_tree.specs.Records.{Records, IsSound, record_at, record_of, changed, with_added}
use Rattle.fj_tree.proofs.Index.Numbers.{written}
use Rattle.fj_ledger.specs.Arriving.{as_arrival}
use Rattle.fj_queues.specs.Stacks.{StackLists}
use Rattle.fj_ledger.specs.InHands.{InHand}
use Rattle.fj_ledger.specs.Holds.{Holds, Tells}
use Rattle.fj_ledger.proofs.Recorded.ArrivalsTold.{arrival_told}
use Rattle.fj_ledger.proofs.Updates.Growing.{grown_holds}
use Rattle.fj_rules.proofs.Events.Hands.{is_of_hook}
use Rattle.fj_ledger.proofs.Lists.HandParts.{hands_same}
use Rattle.fj_ledger.proofs.Recorded.Located.{IsLocated}
use Rattle.fj_ledger.proofs.Updates.Parts.{queues_same, stacks_same}
use Rattle.fj_ledger.proofs.Recorded.Records.{tree_written}
use Rattle.fj_ledger.proofs.Recorded.Telling.{touched, is_of_one, kept_more, fired_same}
use Rattle.fj_rules.proofs.Events.KindsKept.{kind_still, kept_known}
use Rattle.fj_rules.proofs.Events.Lawful.{not_new}

-- an event that changes the pending count of one task alone
record IsCount (e : Event) (t : ℕ) : Type 0 where
  calm : is_calm e ≡ true
  one : is_of_one e ≡ true
  about : touched e ≡ Some t
  other : is_of_hook e ≡ false
  unsettled : settled_by e ≡ None

count_holds : {sealed : List Event} (pool : Pool) (h : List Event) (e : Event) (queues : Waiting) (stacks : StackLists) (hands : List (Option InHand)) (tree : Records) (opens gones : List ℕ) (at : Handle) (r : Record) (change : Record → Record)
    → Holds pool sealed h queues stacks hands tree opens gones → Allowed pool h e → length h < length sealed + pool.limits.events → IsCount e r.serial
    → ((d : ℕ) → climbed_by e ≡ Some d → is_completer h d ≡ true) → IsSound tree → record_at tree at.key ≡ Some r → (change r).serial ≡ r.serial → Tells (h ++ e ∷ []) (change r)
    → Holds pool sealed (h ++ e ∷ []) queues stacks hands (changed tree at.key change) opens gones
count_holds pool h e queues stacks hands tree opens gones at r change holds may fits is at_completers sound found same tells =
    let so = holds.lawful in
    let unmoved = calm_unmoved e is.calm in
    grown_holds pool h e queues queues stacks stacks hands hands tree (changed tree at.key change) opens opens gones gones holds may fits at_completers (record {
      queues_kept = queues_same pool.limits h (h ++ e ∷ []) queues (λ o. unmoved_queue h e o unmoved) holds.queues_kept;
      stacks_kept = stacks_same pool.limits h (h ++ e ∷ []) stacks (λ w. unmoved_stack h e w unmoved) holds.stacks_kept;
      hands_kept = hands_same pool h e hands so may is.one is.other (λ c said there. settles_none is.unsettled said) holds.hands_kept;
      tree_kept = tree_written pool h e tree (changed tree at.key change) at.key r (change r) so may is.one (none e is.calm) is.about sound (written tree at.key r change found) same tells holds.tree_kept;
      open_kept = holds.open_kept ∙ sym (calm_open pool h e so may is.calm);
      gone_kept = holds.gone_kept ∙ sym (calm_gone pool h e so may is.calm);
    })
  where
    settles_none : {c : ℕ} → settled_by e ≡ None → settled_by e ≡ Some c → is_kept h c ≡ true
    settles_none none said = absurd cc

    none : (e : Event) → is_calm e ≡ true → accepted_by e ≡ None
    none e calm = none_accepted e (calm_unmoved e calm)

-- what the record says then
count_tells : (pool : Pool) (h : List Event) (e : Event) (r : Record) (n : ℕ) → AllowedFrom pool [] h → Allowed pool h e → IsCount e r.serial → fires_or_passes r.serial e ≡ false
    → Tells h r → pending (h ++ e ∷ []) r.serial ≡ n → Tells (h ++ e ∷ []) (record r { pending = n })
count_tells pool h e r n so may is unfired tells count =
    let known = kept_known h r.serial tells.kept in
    record {
      kept = kept_more h e r.serial is.one tells.kept;
      kind = kind_still h e r.serial (not_new pool h e r.serial so may known) ∙ tells.kind;
      place = calm_place pool h e r.serial so may is.calm known ∙ tells.place;
      status = calm_status h e r.serial is.calm ∙ tells.status;
      pending = count;
      fired = fired_same h e r.serial unfired ∙ tells.fired;
    }

pub raise_holds : {sealed : List Event} (pool : Pool) (h : List Event) (c n : ℕ) (queues : Waiting) (stacks : StackLists) (hands : List (Option InHand)) (tree : Records) (opens gones : List ℕ) (at : Handle)
    → Holds pool sealed h queues stacks hands tree opens gones → IsSound tree → IsLocated tree c at → Allowed pool h (Add c n) → length h < length sealed + pool.limits.events
    → Holds pool sealed (h ++ Add c n ∷ []) queues stacks hands (changed tree at.key (with_added n)) opens gones
raise_holds {sealed = sealed} pool h c n queues stacks hands tree opens gones at holds sound l may fits =
    let r = l.found in
    let e = Add r.serial n in
    let number : r.serial ≡ c = l.serial ∙ l.number in
    let may_r : Allowed pool h e = subst (λ (u : ℕ). Allowed pool h (Add u n)) (sym number) may in
    let tells = holds.tree_kept.each at.key r l.at in
    let is : IsCount e r.serial = record { calm = refl; one = refl; about = refl; other = refl; unsettled = refl } in
    subst (λ (u : ℕ). Holds pool sealed (h ++ Add u n ∷ []) queues stacks hands (changed tree at.key (with_added n)) opens gones) number
    (count_holds pool h e queues stacks hands tree opens gones at r (with_added n) holds may_r fits is (λ d none. absurd cc) sound l.at refl
    (count_tells pool h e r (r.pending + n) holds.lawful may_r is refl tells (pending_added pool h r.serial n holds.lawful ∙ ap (λ (m : ℕ). m + n) tells.pending)))

pub count_down_holds : {sealed : List Event} (pool : Pool) (h : List Event) (c : ℕ) (queues : Waiting) (stacks : StackLists) (hands : List (Option InHand)) (tree : Records) (opens gones : List ℕ) (at : Handle)
    → Holds pool sealed h queues stacks hands tree opens gones → IsSound tree → IsLocated tree c at → Allowed pool h (Dec c) → is_completer h c ≡ true → length h < length sealed + pool.limits.events
    → Holds pool sealed (h ++ Dec c ∷ []) queues stacks hands (changed tree at.key (arrived Counted)) opens gones
count_down_holds {sealed = sealed} pool h c queues stacks hands tree opens gones at holds sound l may completer fits =
    let r = l.found in
    let e = Dec r.serial in
    let number : r.serial ≡ c = l.serial ∙ l.number in
    let may_r : Allowed pool h e = subst (λ (u : ℕ). Allowed pool h (Dec u)) (sym number) may in
    let tells = holds.tree_kept.each at.key r l.at in
    let is : IsCount e r.serial = record { calm = refl; one = refl; about = refl; other = refl; unsettled = refl } in
    subst (λ (u : ℕ). Holds pool sealed (h ++ Dec u ∷ []) queues stacks hands (changed tree at.key (arrived Counted)) opens gones) number
    (count_holds pool h e queues stacks hands tree opens gones at r (arrived Counted) holds may_r fits is (λ d same. ap (is_completer h) (same_Some d c (sym same ∙ ap Some number)) ∙ completer) sound l.at refl
    (count_tells pool h e r (r.pending - 1) holds.lawful may_r is refl tells (pending_counted h r.serial ∙ ap (λ (m : ℕ). m - 1) tells.pending)))

-- the arrival that the record tells is the one of the event
pub counted_at : {sealed : List Event} (pool : Pool) (h : List Event) (c : ℕ) (queues : Waiting) (stacks : StackLists) (hands : List (Option InHand)) (tree : Records) (opens gones : List ℕ) (at : Handle) (a : Arrived)
    → Holds pool sealed h queues stacks hands tree opens gones → IsLocated tree c at → Allowed pool h (Dec c) → Some a ≡ option_map arrival_at (record_of tree at) → a ≡ Counted
counted_at pool h c queues stacks hands tree opens gones at a holds l may said =
    let r = l.found in
    let number : r.serial ≡ c = l.serial ∙ l.number in
    let there : record_of tree at ≡ Some r = rw (l.at, eq-eqb r.serial at.serial l.serial) refl in
    let is : a ≡ arrival_at r = same_Some a (arrival_at r) (said ∙ ap (option_map arrival_at) there) in
    let told : as_arrival (arrival_at r) ≡ climb.Counted = arrival_told h r (holds.tree_kept.each at.key r l.at) ∙ ap (arrival h) number ∙ may in
    is ∙ only (arrival_at r) told
  where
    only : (a : Arrived) → as_arrival a ≡ climb.Counted → a ≡ Counted
    only Counted is = refl
    only arrive.Spent is = absurd cc
    only arrive.Early is = absurd cc
    only arrive.Fire is = absurd cc

-- an addition that may be made is not refused
pub addable : {sealed : List Event} (pool : Pool) (h : List Event) (c n : ℕ) (queues : Waiting) (stacks : StackLists) (hands : List (Option InHand)) (tree : Records) (opens gones : List ℕ) (at : Handle)
    → Holds pool sealed h queues stacks hands tree opens gones → IsLocated tree c at → Allowed pool h (Add c n) → add_refusal tree at n ≡ None
unfolding is_completer
addable pool h c n queues stacks hands tree opens gones at holds l may =
    let r = l.found in
    let number : r.serial ≡ c = l.serial ∙ l.number in
    let there : record_of tree at ≡ Some r = rw (l.at, eq-eqb r.serial at.serial l.serial) refl in
    let tells = holds.tree_kept.each at.key r l.at in
    let completer : is_completer_kind (Some r.kind) ≡ true = ap is_completer_kind (sym tells.kind) ∙ ap (is_completer h) number ∙ may.1 in
    let count : r.pending ≡ pending h c = sym tells.pending ∙ ap (pending h) number in
    rw (there, completer, le-ltb MAX_PENDING (r.pending + n) (omega (arith, count, may.2))) refl
