-- All that is kept, after a task was released.
use Rattle.std.proofs.Common.{ℕ, ◌≡◌, ◌≢◌, ◌+◌, ◌<◌, Bool, true, false, cond, List, [], ◌∷◌, ◌++◌, length, map, Option, Some, None, refl, ap, sym, ◌∙◌, subst, arith, ⊎_elim}
use Rattle.std.specs.Prelude.{◌==◌, IsSome, option_map, Result, Ok, IsOk, OnOk}
use Rattle.std.proofs.lemmas.Bool.{cases_eq, eqb-true, eq-eqb, true≢false}
use Rattle.std.proofs.lemmas.Option.{same_Some, none-some}
use Rattle.fj_rules.specs.declared.event.Event.{Event}
use Rattle.fj_rules.specs.declared.event.Event.TheVariants.{Rel}
use Rattle.fj_rules.specs.declared.place.Place.TheVariants.{Gone}
use Rattle.fj_rules.specs.declared.refusal.Refusal.{Refusal}
use Rattle.fj_rules.specs.declared.status.Status.{Status}
use Rattle.fj_rules.specs.Bounds.{Pool}
use Rattle.fj_rules.specs.Lists.{is_in}
use Rattle.fj_rules.specs.Tasks.{is_kept, parent_in}
use Rattle.fj_rules.specs.Statuses.{status}
use Rattle.fj_rules.specs.Places.{place}
use Rattle.fj_rules.specs.Allowed.{Allowed, AllowedFrom, is_fired_by_complete, fires_by_complete}
use Rattle.fj_rules.proofs.Events.Releasing.{release_forgets, release_keeps, release_live, release_tasks, release_accepted, release_kind, release_parent, release_status, release_pending, release_queue, release_stack, release_place, release_open, release_gone}
use Rattle.fj_queues.specs.Queues.{Lists as Waiting}
use Rattle.fj_tree.specs.declared.record.Record.{Record}
use Rattle.fj_tree.specs.Records.{Records, IsSound, is_named, record_at, record_of, handle_of, count}
use Rattle.fj_tree.specs.Handles.{Handle}
use Rattle.fj_tree.specs.Releases.{without_child, without_child_of}
use Rattle.fj_tree.specs.Releases as record_is
use Rattle.fj_tree.proofs.Index.Numbers.{there, at_found}
use Rattle.fj_queues.specs.Stacks.{StackLists}
use Rattle.fj_ledger.specs.InHands.{InHand, released_with}
use Rattle.fj_ledger.specs.Holds.{Holds, Tells, TellsHook, TellsReleased, KeepsTree, KeepsHands}
use Rattle.fj_ledger.proofs.Updates.Growing.{grown_holds}
use Rattle.fj_ledger.proofs.Lists.HandParts.{any_same, left_out, hands_mapped}
use Rattle.fj_ledger.proofs.Recorded.KeptChildren.{children_told}
use Rattle.fj_ledger.proofs.Recorded.Located.{IsLocated}
use Rattle.fj_ledger.proofs.Updates.Parts.{queues_same, stacks_same}
use Rattle.fj_ledger.proofs.Recorded.Refused.{of_ok}
use Rattle.fj_ledger.proofs.Recorded.Telling.{fired_same}
use Rattle.fj_rules.proofs.Events.KindsKept.{kept_known}

-- what a release leaves: one record fewer, and the other ones as they were but for the count of children
pub record IsReleased (old new : Records) (key : ℕ) (r : Record) : Type 0 where
  pub before : record_at old key ≡ Some r
  pub removed : record_at new key ≡ None
  pub others : (other : ℕ) → other ≢ key → record_at new other ≡ option_map (without_child_of (parent_in (Some r.kind))) (record_at old other)
  pub count : count new + 1 ≡ count old
  pub made : new.made ≡ old.made
  pub room : new.room ≡ old.room

-- from what the release of a record ensures
pub released_is : (old new : Records) (r : Result (Unit {0}) Refusal) (at : Handle) (x : Record) → r ≡ Ok tt → record_at old at.key ≡ Some x → x.serial ≡ at.serial
    → OnOk r (record_at new at.key ≡ None)
    → OnOk r ((key : ℕ) → key ≢ at.key → record_at new key ≡ option_map (without_child_of (parent_in (option_map (λ (y : Record). y.kind) (record_of old at)))) (record_at old key))
    → OnOk r (count new + 1 ≡ count old) → new.made ≡ old.made → new.room ≡ old.room → IsReleased old new at.key x
released_is old new r at x is there number removed others fewer made room =
    let ok : IsOk r = rw is refl in
    let here : record_of old at ≡ Some x = rw (there, eq-eqb x.serial at.serial number) refl in
    record {
      before = there;
      removed = of_ok r (record_at new at.key ≡ None) removed ok;
      others = λ key other. of_ok r ((key : ℕ) → key ≢ at.key → record_at new key ≡ option_map (without_child_of (parent_in (option_map (λ (y : Record). y.kind) (record_of old at)))) (record_at old key)) others ok key other
          ∙ ap (λ (o : Option Record). option_map (without_child_of (parent_in (option_map (λ (y : Record). y.kind) o))) (record_at old key)) here;
      count = of_ok r (count new + 1 ≡ count old) fewer ok;
      made = made;
      room = room;
    }

-- ---- whether it may be

-- what may be released is not refused
pub releasable : (pool : Pool) (h : List Event) (tree : Records) (t : ℕ) (at : Handle) (l : IsLocated tree t at) → KeepsTree pool.limits h tree → IsSound tree → Allowed pool h (Rel t)
    → record_is.release_refusal (record_of tree at) ≡ None
releasable pool h tree t at l keeps sound may =
    let r = l.found in
    let number : r.serial ≡ t = l.serial ∙ l.number in
    let here : record_of tree at ≡ Some r = rw (l.at, eq-eqb r.serial at.serial l.serial) refl in
    let gone : r.place ≡ Gone = sym (keeps.each at.key r l.at).place ∙ ap (place h) number ∙ may.1 in
    rw (here, gone, children_told pool.limits h tree t at.key r keeps sound l.at number, may.2) refl

-- ---- the records

released_tells : (pool : Pool) (h : List Event) (t : ℕ) (u : Record) (b : Bool) → AllowedFrom pool [] h → Allowed pool h (Rel t) → u.serial ≢ t → Tells h u → Tells (h ++ Rel t ∷ []) (cond b (without_child u) u)
released_tells pool h t u b so may other tells = go b
  where
    same : Tells (h ++ Rel t ∷ []) u
    same = record {
      kept = release_keeps h t u.serial other ∙ tells.kept;
      kind = release_kind h t u.serial ∙ tells.kind;
      place = release_place pool h t u.serial so may (kept_known h u.serial tells.kept) ∙ tells.place;
      status = release_status h t u.serial ∙ tells.status;
      pending = release_pending h t u.serial ∙ tells.pending;
      fired = fired_same h (Rel t) u.serial refl ∙ tells.fired;
    }

    go : (b : Bool) → Tells (h ++ Rel t ∷ []) (cond b (without_child u) u)
    go true = record { kept = same.kept; kind = same.kind; place = same.place; status = same.status; pending = same.pending; fired = same.fired }
    go false = same

-- a record that is there still
released_other : (old new : Records) (key other : ℕ) (r s : Record) → IsReleased old new key r → other ≢ key → record_at new other ≡ Some s
    → (u : Record) × (record_at old other ≡ Some u) × (s ≡ without_child_of (parent_in (Some r.kind)) u)
released_other old new key other r s released differs at = go (record_at old other) refl
  where
    f : Record → Record
    f = without_child_of (parent_in (Some r.kind))

    go : (o : Option Record) → record_at old other ≡ o → (u : Record) × (record_at old other ≡ Some u) × (s ≡ f u)
    go None none = absurd (none-some _ (sym (released.others other differs ∙ ap (option_map f) none) ∙ at))
    go (Some u) some = (u, some, sym (same_Some (f u) s (sym (released.others other differs ∙ ap (option_map f) some) ∙ at)))

-- each task that is kept still has a record still
released_there : (old new : Records) (key u : ℕ) (r : Record) → IsReleased old new key r → u ≢ r.serial → IsSome (handle_of old u) → IsSome (handle_of new u)
released_there old new key u r released other found =
    let a = at_found old u found in
    ⊎_elim
    (λ here. absurd (other (sym a.number ∙ ap (λ (x : Record). x.serial) (same_Some a.found r (sym a.at ∙ ap (record_at old) here ∙ released.before)))))
    (λ differs. there new u a.key (without_child_of (parent_in (Some r.kind)) a.found) (released.others a.key differs ∙ ap (option_map (without_child_of (parent_in (Some r.kind)))) a.at) (numbered (is_named (parent_in (Some r.kind)) a.found.serial) a.found a.number))
    (cases_eq a.key key)
  where
    numbered : (b : Bool) (x : Record) → x.serial ≡ u → (cond b (without_child x) x).serial ≡ u
    numbered true x is = is
    numbered false x is = is

tree_released : (pool : Pool) (h : List Event) (t : ℕ) (old new : Records) (key : ℕ) (r : Record) → AllowedFrom pool [] h → Allowed pool h (Rel t) → IsSound old → IsReleased old new key r → r.serial ≡ t
    → KeepsTree pool.limits h old → KeepsTree pool.limits (h ++ Rel t ∷ []) new
tree_released pool h t old new key r so may sound released number keeps = record {
  made = released.made ∙ keeps.made ∙ sym (release_accepted h t);
  room = released.room ∙ keeps.room;
  live = omega (arith, released.count, keeps.live, release_live pool h t so may);
  each = λ k s at. ⊎_elim
      (λ here. absurd (none-some s (sym (ap (record_at new) here ∙ released.removed) ∙ at)))
      (λ other.
      let was = released_other old new key k r s released other at in
      let apart : was.0.serial ≢ t = λ same. other (sound.once k key was.0 r was.1 released.before (same ∙ sym number)) in
      subst (Tells (h ++ Rel t ∷ [])) (sym was.2) (released_tells pool h t was.0 (is_named (parent_in (Some r.kind)) was.0.serial) so may apart (keeps.each k was.0 was.1)))
      (cases_eq k key);
  all = λ u kept.
      let other : u ≢ t = λ same. true≢false (sym kept ∙ ap (is_kept (h ++ Rel t ∷ [])) same ∙ release_forgets h t) in
      released_there old new key u r released (λ same. other (same ∙ number)) (keeps.all u (sym (release_keeps h t u other) ∙ kept));
}

-- ---- the hooks

released_hook : (pool : Pool) (h : List Event) (t : ℕ) (s : Status) (k : InHand) → AllowedFrom pool [] h → Allowed pool h (Rel t) → status h t ≡ s → TellsHook h k → TellsHook (h ++ Rel t ∷ []) (released_with t s k)
unfolding is_fired_by_complete
released_hook pool h t s k so may is tells = go (k.completer == t) refl
  where
    h2 : List Event
    h2 = h ++ Rel t ∷ []

    stays : (left : Option Status) → k.completer ≢ t → TellsReleased h k.completer left → TellsReleased h2 k.completer left
    stays None other left = release_keeps h t k.completer other ∙ left
    stays (Some u) other left = (left_out pool h (Rel t) k.completer so may tells.known left.0, release_status h t k.completer ∙ left.1)

    go : (b : Bool) → (k.completer == t) ≡ b → TellsHook h2 (cond (k.completer == t) (record k { released = Some s }) k)
    go true same = rw same (record {
      known = ap (λ (ts : List ℕ). is_in k.completer ts) (release_tasks h t) ∙ tells.known;
      parent = release_parent h t k.completer ∙ tells.parent;
      how = any_same (fires_by_complete k.completer) h (Rel t) refl ∙ tells.how;
      released = (ap (is_kept h2) (eqb-true k.completer t same) ∙ release_forgets h t, release_status h t k.completer ∙ ap (status h) (eqb-true k.completer t same) ∙ is);
    })
    go false differs = rw differs (record {
      known = ap (λ (ts : List ℕ). is_in k.completer ts) (release_tasks h t) ∙ tells.known;
      parent = release_parent h t k.completer ∙ tells.parent;
      how = any_same (fires_by_complete k.completer) h (Rel t) refl ∙ tells.how;
      released = stays k.released (λ same. true≢false (sym (eq-eqb k.completer t same) ∙ differs)) tells.released;
    })

hands_released : (pool : Pool) (h : List Event) (t : ℕ) (s : Status) (hands : List (Option InHand)) → AllowedFrom pool [] h → Allowed pool h (Rel t) → status h t ≡ s
    → KeepsHands pool.limits h hands → KeepsHands pool.limits (h ++ Rel t ∷ []) (map (option_map (released_with t s)) hands)
hands_released pool h t s hands so may is = hands_mapped pool.limits h (Rel t) (released_with t s) hands refl whose (λ k tells. released_hook pool h t s k so may is tells)
  where
    whose : (k : InHand) → (released_with t s k).completer ≡ k.completer
    whose k = go (k.completer == t)
      where
        go : (b : Bool) → (cond b (record k { released = Some s }) k).completer ≡ k.completer
        go true = refl
        go false = refl

-- ---- all

pub release_holds : {sealed : List Event} (pool : Pool) (h : List Event) (t : ℕ) (s : Status) (queues : Waiting) (stacks : StackLists) (hands : List (Option InHand)) (old new : Records) (opens gones : List ℕ) (key : ℕ) (r : Record)
    → Holds pool sealed h queues stacks hands old opens gones → IsSound old → IsReleased old new key r → r.serial ≡ t → Allowed pool h (Rel t) → length h < length sealed + pool.limits.events → status h t ≡ s
    → Holds pool sealed (h ++ Rel t ∷ []) queues stacks (map (option_map (released_with t s)) hands) new opens gones
release_holds pool h t s queues stacks hands old new opens gones key r holds sound released number may fits is =
    let e = Rel t in
    let so = holds.lawful in
    grown_holds pool h e queues queues stacks stacks hands _ old new opens opens gones gones holds may fits (λ d none. absurd cc) (record {
      queues_kept = queues_same pool.limits h (h ++ e ∷ []) queues (λ o. release_queue h t o) holds.queues_kept;
      stacks_kept = stacks_same pool.limits h (h ++ e ∷ []) stacks (λ w. release_stack h t w) holds.stacks_kept;
      hands_kept = hands_released pool h t s hands so may is holds.hands_kept;
      tree_kept = tree_released pool h t old new key r so may sound released number holds.tree_kept;
      open_kept = holds.open_kept ∙ sym (release_open pool h t so may);
      gone_kept = holds.gone_kept ∙ sym (release_gone pool h t so may);
    })
