-- All that is kept, after the pool was shut.
use Rattle.std.proofs.Common.{append_assoc, ◌+◌, ℕ, ◌≡◌, ◌<◌, Bool, true, false, cond, List, [], ◌∷◌, ◌++◌, length, map, Option, Some, None, refl, ap, sym, ◌∙◌, subst}
use Rattle.std.specs.Prelude.{option_map, IsPermutation}
use Rattle.std.specs.List.{list_any}
use Rattle.std.specs.List.Sorted.{IsNonDecreasing}
use Rattle.std.proofs.lemmas.Option.{same_Some, none-some}
use Rattle.fj_rules.specs.declared.event.Event.{Event}
use Rattle.fj_rules.specs.declared.event.Event.TheVariants.{Close, Stop}
use Rattle.fj_rules.specs.declared.place.Place.{Place}
use Rattle.fj_rules.specs.declared.place.Place.TheVariants.{Queued, Held, Open, Gone}
use Rattle.fj_rules.specs.declared.status.Status.{Status}
use Rattle.fj_rules.specs.declared.status.Status.TheVariants.{Cancelled}
use Rattle.fj_rules.specs.Bounds.{Pool}
use Rattle.fj_rules.specs.Lists.{is_in}
use Rattle.fj_rules.specs.Tasks.{is_kept, kind}
use Rattle.fj_rules.specs.Statuses.{status, is_undone}
use Rattle.fj_rules.specs.Completers.{pending, fires_or_passes}
use Rattle.fj_rules.specs.Places.{place, is_open}
use Rattle.fj_rules.specs.Allowed.{Allowed, AllowedFrom, is_fired_by_complete, fires_by_complete}
use Rattle.fj_rules.proofs.Events.Closing.{close_queue, close_stack, close_open, close_gone}
use Rattle.fj_rules.proofs.Events.Spending.{closed}
use Rattle.fj_rules.proofs.Events.Stopping.{stop_tasks, stop_queue, stop_stack, stop_accepted, stop_kept, stop_live, stop_kind, stop_parent, stop_pending, stop_cancels, stop_place, stop_open, stop_gone_sorted}
use Rattle.fj_queues.specs.Queues.{Lists as Waiting}
use Rattle.fj_tree.specs.declared.record.Record.{Record}
use Rattle.fj_tree.specs.Records.{Records, record_at, count, with_status, with_place}
use Rattle.fj_tree.specs.Cancels.{if_undone_cancelled}
use Rattle.fj_tree.specs.Closes.{if_open_gone}
use Rattle.fj_tree.proofs.Index.Numbers.{there, at_found}
use Rattle.fj_queues.specs.Stacks.{StackLists}
use Rattle.fj_ledger.specs.InHands.{InHand, if_cancelled, cancelled}
use Rattle.fj_ledger.specs.Holds.{Holds, Tells, TellsHook, TellsReleased, KeepsTree}
use Rattle.fj_ledger.proofs.Updates.Growing.{grown_holds}
use Rattle.fj_ledger.proofs.Lists.HandParts.{any_same, hands_same, hands_mapped}
use Rattle.fj_ledger.proofs.Updates.Parts.{queues_same, stacks_same}
use Rattle.fj_ledger.proofs.Recorded.Records.{tree_same}
use Rattle.fj_ledger.proofs.Recorded.Telling.{fired_same}
use Rattle.fj_rules.proofs.Events.KindsKept.{kept_known}

-- no submission is accepted from now on
pub close_holds : {sealed : List Event} (pool : Pool) (h : List Event) (queues : Waiting) (stacks : StackLists) (hands : List (Option InHand)) (tree : Records) (opens gones : List ℕ)
    → Holds pool sealed h queues stacks hands tree opens gones → Allowed pool h Close → length h < length sealed + pool.limits.events
    → Holds pool sealed (h ++ Close ∷ []) queues stacks hands tree opens gones
close_holds pool h queues stacks hands tree opens gones holds may fits =
    let e = Close in
    let so = holds.lawful in
    grown_holds pool h e queues queues stacks stacks hands hands tree tree opens opens gones gones holds may fits (λ d none. absurd cc) (record {
      queues_kept = queues_same pool.limits h (h ++ e ∷ []) queues (λ o. close_queue h o) holds.queues_kept;
      stacks_kept = stacks_same pool.limits h (h ++ e ∷ []) stacks (λ w. close_stack h w) holds.stacks_kept;
      hands_kept = hands_same pool h e hands so may refl refl (λ c said there. absurd cc) holds.hands_kept;
      tree_kept = tree_same pool h e tree so may refl refl refl holds.tree_kept;
      open_kept = holds.open_kept ∙ sym (close_open pool h so may);
      gone_kept = holds.gone_kept ∙ sym (close_gone pool h so may);
    })

-- ---- the records after a stop

-- every undone record is cancelled, and every open one is gone
abbrev pub stopped : Record → Record
stopped r = if_open_gone (if_undone_cancelled r)

pub record IsStopped (old new : Records) : Type 0 where
  pub each : (key : ℕ) → record_at new key ≡ option_map stopped (record_at old key)
  pub count : count new ≡ count old
  pub made : new.made ≡ old.made
  pub room : new.room ≡ old.room

-- from what the two sweeps leave
pub stopped_twice : (old mid new : Records) → ((key : ℕ) → record_at mid key ≡ option_map if_undone_cancelled (record_at old key)) → count mid ≡ count old → mid.made ≡ old.made → mid.room ≡ old.room
    → ((key : ℕ) → record_at new key ≡ option_map if_open_gone (record_at mid key)) → count new ≡ count mid → new.made ≡ mid.made → new.room ≡ mid.room → IsStopped old new
stopped_twice old mid new cancels few made room closes few2 made2 room2 = record {
  each = λ key. closes key ∙ ap (option_map if_open_gone) (cancels key) ∙ both (record_at old key);
  count = few2 ∙ few;
  made = made2 ∙ made;
  room = room2 ∙ room;
}
  where
    both : (o : Option Record) → option_map if_open_gone (option_map if_undone_cancelled o) ≡ option_map stopped o
    both None = refl
    both (Some r) = refl

-- the parts of a record after a stop
record IsStoppedRecord (r s : Record) : Type 0 where
  serial : s.serial ≡ r.serial
  kind : s.kind ≡ r.kind
  place : s.place ≡ closed r.place
  status : s.status ≡ cancelled r.status
  pending : s.pending ≡ r.pending
  fired : s.fired ≡ r.fired

open_is : (p : Place) → is_open p ≡ true → p ≡ Open
open_is Open is = refl
open_is (Queued o) is = absurd cc
open_is (Held w) is = absurd cc
open_is Gone is = absurd cc

shut_closed : (p : Place) → is_open p ≡ false → closed p ≡ p
shut_closed Open is = absurd cc
shut_closed (Queued o) is = refl
shut_closed (Held w) is = refl
shut_closed Gone is = refl

stopped_record : (r : Record) → IsStoppedRecord r (stopped r)
stopped_record r = cancels (is_undone r.status) refl
  where
    closes : (s : Record) (b : Bool) → is_open s.place ≡ b → s.serial ≡ r.serial → s.kind ≡ r.kind → s.place ≡ r.place → s.status ≡ cancelled r.status → s.pending ≡ r.pending → s.fired ≡ r.fired → IsStoppedRecord r (cond (is_open s.place) (with_place Gone s) s)
    closes s true is numbers kinds places statuses counts fires =
        rw is (record { serial = numbers; kind = kinds; place = sym (ap closed (sym places ∙ open_is s.place is)); status = statuses; pending = counts; fired = fires })
    closes s false is numbers kinds places statuses counts fires =
        rw is (record { serial = numbers; kind = kinds; place = sym (ap closed (sym places) ∙ shut_closed s.place is); status = statuses; pending = counts; fired = fires })

    cancels : (b : Bool) → is_undone r.status ≡ b → IsStoppedRecord r (if_open_gone (cond (is_undone r.status) (with_status Cancelled r) r))
    cancels true is = rw is (closes (with_status Cancelled r) (is_open r.place) refl refl refl refl (rw is refl) refl refl)
    cancels false is = rw is (closes r (is_open r.place) refl refl refl refl (rw is refl) refl refl)

stopped_tells : (pool : Pool) (h : List Event) (r s : Record) → AllowedFrom pool [] h → Allowed pool h Stop → Tells h r → IsStoppedRecord r s → Tells (h ++ Stop ∷ []) s
stopped_tells pool h r s so may tells is =
    let h2 = h ++ Stop ∷ [] in
    let t = r.serial in
    let known = kept_known h t tells.kept in
    record {
      kept = ap (is_kept h2) is.serial ∙ stop_kept h t ∙ tells.kept;
      kind = ap (kind h2) is.serial ∙ stop_kind h t ∙ tells.kind ∙ ap Some (sym is.kind);
      place = ap (place h2) is.serial ∙ stop_place pool h t so may known ∙ ap closed tells.place ∙ sym is.place;
      status = ap (status h2) is.serial ∙ stop_cancels pool h t so known ∙ ap cancelled tells.status ∙ sym is.status;
      pending = ap (pending h2) is.serial ∙ stop_pending h t ∙ tells.pending ∙ sym is.pending;
      fired = ap (λ (u : ℕ). list_any (fires_or_passes u) h2) is.serial ∙ fired_same h Stop t refl ∙ tells.fired ∙ sym is.fired;
    }

tree_stopped : (pool : Pool) (h : List Event) (old new : Records) → AllowedFrom pool [] h → Allowed pool h Stop → IsStopped old new → KeepsTree pool.limits h old → KeepsTree pool.limits (h ++ Stop ∷ []) new
tree_stopped pool h old new so may is keeps = record {
  made = is.made ∙ keeps.made ∙ sym (stop_accepted h);
  room = is.room ∙ keeps.room;
  live = is.count ∙ keeps.live ∙ sym (stop_live h);
  each = λ key s at. go key s (record_at old key) refl (sym (is.each key) ∙ at);
  all = λ t kept.
      let a = at_found old t (keeps.all t (sym (stop_kept h t) ∙ kept)) in
      there new t a.key (stopped a.found) (is.each a.key ∙ ap (option_map stopped) a.at) ((stopped_record a.found).serial ∙ a.number);
}
  where
    go : (key : ℕ) (s : Record) (o : Option Record) → record_at old key ≡ o → option_map stopped o ≡ Some s → Tells (h ++ Stop ∷ []) s
    go key s None was now = absurd (none-some s now)
    go key s (Some r) was now = subst (Tells (h ++ Stop ∷ [])) (same_Some (stopped r) s now) (stopped_tells pool h r (stopped r) so may (keeps.each key r was) (stopped_record r))

-- ---- the hooks after a stop

stopped_hook : (pool : Pool) (h : List Event) (k : InHand) → AllowedFrom pool [] h → TellsHook h k → TellsHook (h ++ Stop ∷ []) (if_cancelled k)
unfolding is_fired_by_complete
stopped_hook pool h k so tells = record {
  known = ap (is_in k.completer) (stop_tasks h) ∙ tells.known;
  parent = stop_parent h k.completer ∙ tells.parent;
  how = any_same (fires_by_complete k.completer) h Stop refl ∙ tells.how;
  released = go k.released tells.released;
}
  where
    go : (left : Option Status) → TellsReleased h k.completer left → TellsReleased (h ++ Stop ∷ []) k.completer (option_map cancelled left)
    go None left = stop_kept h k.completer ∙ left
    go (Some s) left = (stop_kept h k.completer ∙ left.0, stop_cancels pool h k.completer so tells.known ∙ ap cancelled left.1)

-- ---- all

-- each undone task is cancelled, and no task is accepted from now on
pub stop_holds : {sealed : List Event} (pool : Pool) (h : List Event) (queues : Waiting) (stacks : StackLists) (hands : List (Option InHand)) (old new : Records) (opens gones sorted : List ℕ)
    → Holds pool sealed h queues stacks hands old opens gones → Allowed pool h Stop → length h < length sealed + pool.limits.events → IsStopped old new → IsPermutation opens sorted → IsNonDecreasing sorted
    → Holds pool sealed (h ++ Stop ∷ []) queues stacks (map (option_map if_cancelled) hands) new [] (gones ++ sorted)
stop_holds pool h queues stacks hands old new opens gones sorted holds may fits is moved up =
    let e = Stop in
    let so = holds.lawful in
    grown_holds pool h e queues queues stacks stacks hands _ old new opens [] gones _ holds may fits (λ d none. absurd cc) (record {
      queues_kept = queues_same pool.limits h (h ++ e ∷ []) queues (λ o. stop_queue h o) holds.queues_kept;
      stacks_kept = stacks_same pool.limits h (h ++ e ∷ []) stacks (λ w. stop_stack h w) holds.stacks_kept;
      hands_kept = hands_mapped pool.limits h e if_cancelled hands refl (λ k. refl) (λ k tells. stopped_hook pool h k so tells) holds.hands_kept;
      tree_kept = tree_stopped pool h old new so may is holds.tree_kept;
      open_kept = sym (stop_open pool h so may);
      gone_kept = sym (append_assoc _ gones sorted) ∙ ap (λ (ts : List ℕ). ts ++ sorted) holds.gone_kept ∙ sym (stop_gone_sorted pool h sorted so may (subst (λ (ts : List ℕ). IsPermutation ts sorted) holds.open_kept moved) up);
    })
