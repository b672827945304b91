-- All that is kept, after a task was fired, passed or settled.
use Rattle.std.proofs.Common.{ℕ, ◌≡◌, ◌<◌, ◌≤◌, Bool, true, false, cond, List, [], ◌∷◌, ◌++◌, length, Option, Some, None, ◌+◌, refl, ap, sym, subst, ◌∙◌, arith, append_assoc, length-append}
use Rattle.std.specs.Prelude.{if◌then◌else◌}
use Rattle.std.specs.List.{filter_map, list_any, cons_option}
use Rattle.std.proofs.lemmas.Bool.{eq-eqb}
use Rattle.std.proofs.lemmas.List.{append-nil}
use Rattle.std.proofs.lemmas.List.Elements.{filter_map-append}
use Rattle.fj_rules.specs.declared.event.Event.{Event}
use Rattle.fj_rules.specs.declared.event.Event.TheVariants.{Fire, Pass, Settle}
use Rattle.fj_rules.specs.declared.place.Place.{Place}
use Rattle.fj_rules.specs.declared.place.Place.TheVariants.{Queued, Held, Open, Gone}
use Rattle.fj_rules.specs.Bounds.{Pool}
use Rattle.fj_rules.specs.Lists.{is_in, times_in, without}
use Rattle.fj_rules.specs.Tasks.{tasks, accepted, accepted_by, is_kept, is_completer, kind}
use Rattle.fj_rules.specs.Statuses.{status}
use Rattle.fj_rules.specs.Completers.{pending, fires_or_passes}
use Rattle.fj_rules.specs.Climbs.{climbed_by}
use Rattle.fj_rules.specs.Places.{place, is_open, opened, open_tasks, gone}
use Rattle.fj_rules.specs.Allowed.{Allowed, AllowedFrom}
use Rattle.fj_rules.proofs.Places.PlaceLaws.{none_accepted, unmoved_queue, unmoved_stack}
use Rattle.fj_rules.proofs.Events.Spending.{spends, closed, spends_unmoved, spent_place, spending_open, spending_gone}
use Rattle.fj_rules.proofs.Lists.Members.{times_in_filter}
use Rattle.fj_rules.proofs.Places.OnePlace.{opened_once}
use Rattle.fj_rules.proofs.Places.OpenList.{in_open}
use Rattle.fj_rules.proofs.Events.Queues.{without_absent}
use Rattle.fj_queues.specs.Queues.{Lists as Waiting}
use Rattle.fj_tree.specs.declared.record.Record.{Record}
use Rattle.fj_tree.specs.Handles.{Handle}
use Rattle.fj_tree.specs.Records.{Records, IsSound, record_of, changed, with_place}
use Rattle.fj_tree.proofs.Index.Numbers.{IsWritten, written, written_again}
use Rattle.fj_queues.specs.Stacks.{StackLists}
use Rattle.fj_ledger.specs.InHands.{InHand}
use Rattle.fj_ledger.specs.Closing.{is_open_at, is_open_in}
use Rattle.fj_ledger.specs.Closing as closing
use Rattle.fj_ledger.specs.Holds.{Holds, Tells, KeepsHands}
use Rattle.fj_ledger.proofs.Updates.Growing.{grown_holds}
use Rattle.fj_ledger.proofs.Histories.Rooms.{going_few}
use Rattle.fj_ledger.proofs.Updates.Parts.{queues_same, stacks_same}
use Rattle.fj_ledger.proofs.Recorded.Records.{tree_written}
use Rattle.fj_ledger.proofs.Recorded.Telling.{is_of_one, kept_more, spends_touched}
use Rattle.fj_rules.proofs.Events.KindsKept.{kind_still, kept_known}
use Rattle.fj_rules.proofs.Events.Lawful.{not_new}

-- ---- room for one gone task more

few_selected : (h : List Event) → length (filter_map accepted_by h) ≤ length h
few_selected [] = omega arith
few_selected (e ∷ h) = go (accepted_by e) (few_selected h)
  where
    go : (o : Option ℕ) → length (filter_map accepted_by h) ≤ length h → length (cons_option o (filter_map accepted_by h)) ≤ length (e ∷ h)
    go None rest = omega (arith, rest)
    go (Some t) rest = omega (arith, rest)

pub few_accepted : (h : List Event) → accepted h ≤ length h
unfolding accepted tasks
few_accepted h = few_selected h

few_more : (h more : List Event) → accepted (h ++ more) ≤ accepted h + length more
unfolding accepted tasks
few_more h more = rw filter_map-append (omega (arith, length-append (filter_map accepted_by h) (filter_map accepted_by more), few_selected more))

-- since the last seal no more tasks went than were open then and were accepted since
pub gone_room : {sealed : List Event} (pool : Pool) (h : List Event) (queues : Waiting) (stacks : StackLists) (hands : List (Option InHand)) (tree : Records) (opens gones : List ℕ)
    → Holds pool sealed h queues stacks hands tree opens gones → length sealed + length gones + length opens ≤ length h + pool.limits.tasks
gone_room {sealed} pool h queues stacks hands tree opens gones holds =
    let present = holds.sealed_part.begins.0 in
    let is = holds.sealed_part.begins.1 in
    let all : length (gone sealed) + length gones ≡ length (gone h) = sym (length-append (gone sealed) gones) ∙ ap length_of holds.gone_kept in
    let long : length h ≡ length sealed + length present = ap length_in is ∙ length-append sealed present in
    let many : accepted h ≤ accepted sealed + length present = subst (λ (es : List Event). accepted es ≤ accepted sealed + length present) (sym is) (few_more sealed present) in
    omega (arith, all, long, many, holds.sealed_part.left, going_few pool h holds.lawful, ap length_of holds.open_kept)
  where
    length_of : List ℕ → ℕ
    length_of ts = length ts

    length_in : List Event → ℕ
    length_in es = length es

-- no task is listed as open twice
pub open_once : {sealed : List Event} (pool : Pool) (h : List Event) (queues : Waiting) (stacks : StackLists) (hands : List (Option InHand)) (tree : Records) (opens gones : List ℕ)
    → Holds pool sealed h queues stacks hands tree opens gones → (t : ℕ) → times_in t opens ≤ 1
unfolding open_tasks
open_once pool h queues stacks hands tree opens gones holds t =
    omega (arith, ap {B = ℕ} (times_in t) holds.open_kept, times_in_filter (λ u. is_open (place h u)) t (opened h), opened_once pool h holds.lawful t, fewer (is_open (place h t)) (times_in t (opened h)))
  where
    fewer : (b : Bool) (n : ℕ) → cond b n 0 ≤ n
    fewer true n = omega arith
    fewer false n = omega arith

-- ---- the record

-- the open task of a record that was written goes
pub closed_written : (old mid : Records) (h : Handle) (r s : Record) → IsWritten old mid h.key r s → s.serial ≡ h.serial
    → (is_open_at mid h ≡ is_open s.place) × IsWritten old (closing.closed mid h) h.key r (if is_open s.place then with_place Gone s else s)
closed_written old mid h r s wrote same = (ap is_open_in here, go (is_open s.place) refl)
  where
    here : record_of mid h ≡ Some s
    here = rw (wrote.after, eq-eqb s.serial h.serial same) refl

    go : (b : Bool) → is_open s.place ≡ b → IsWritten old (closing.closed mid h) h.key r (if is_open s.place then with_place Gone s else s)
    go true is = rw (here, is) (written_again old mid (changed mid h.key (with_place Gone)) h.key r s (with_place Gone s) wrote (written mid h.key s (with_place Gone) wrote.after))
    go false is = rw (here, is) wrote

-- what the record says after the event, but for the place
pub record Respent (h : List Event) (r s : Record) : Type 0 where
  pub serial : s.serial ≡ r.serial
  pub kind : s.kind ≡ r.kind
  pub place : s.place ≡ r.place
  pub status : status h r.serial ≡ s.status
  pub pending : pending h r.serial ≡ s.pending
  pub fired : list_any (fires_or_passes r.serial) h ≡ s.fired

closed_place : (p : Place) (s : Record) → s.place ≡ p → (if is_open s.place then with_place Gone s else s).place ≡ closed p
closed_place (Queued o) s is = rw is refl
closed_place (Held w) s is = rw is refl
closed_place Open s is = rw is refl
closed_place Gone s is = rw is refl

spent_tells : (pool : Pool) (h : List Event) (e : Event) (r s : Record) → AllowedFrom pool [] h → Allowed pool h e → spends e ≡ Some r.serial → is_kept (h ++ e ∷ []) r.serial ≡ true
    → Tells h r → Respent (h ++ e ∷ []) r s → Tells (h ++ e ∷ []) (if is_open s.place then with_place Gone s else s)
spent_tells pool h e r s so may is kept tells re = go (is_open s.place) refl
  where
    known : is_in r.serial (tasks h) ≡ true
    known = kept_known h r.serial tells.kept

    placed : place (h ++ e ∷ []) r.serial ≡ (if is_open s.place then with_place Gone s else s).place
    placed = spent_place pool h e r.serial so may is known ∙ ap closed tells.place ∙ sym (closed_place r.place s re.place)

    kinds : kind (h ++ e ∷ []) r.serial ≡ Some s.kind
    kinds = kind_still h e r.serial (not_new pool h e r.serial so may known) ∙ tells.kind ∙ ap Some (sym re.kind)

    go : (b : Bool) → is_open s.place ≡ b → Tells (h ++ e ∷ []) (if is_open s.place then with_place Gone s else s)
    go true is_true = rw is_true (record {
      kept = ap (is_kept (h ++ e ∷ [])) re.serial ∙ kept;
      kind = ap (kind (h ++ e ∷ [])) re.serial ∙ kinds;
      place = ap (place (h ++ e ∷ [])) re.serial ∙ (rw is_true at placed);
      status = ap (status (h ++ e ∷ [])) re.serial ∙ re.status;
      pending = ap (pending (h ++ e ∷ [])) re.serial ∙ re.pending;
      fired = ap (λ (t : ℕ). list_any (fires_or_passes t) (h ++ e ∷ [])) re.serial ∙ re.fired;
    })
    go false is_false = rw is_false (record {
      kept = ap (is_kept (h ++ e ∷ [])) re.serial ∙ kept;
      kind = ap (kind (h ++ e ∷ [])) re.serial ∙ kinds;
      place = ap (place (h ++ e ∷ [])) re.serial ∙ (rw is_false at placed);
      status = ap (status (h ++ e ∷ [])) re.serial ∙ re.status;
      pending = ap (pending (h ++ e ∷ [])) re.serial ∙ re.pending;
      fired = ap (λ (t : ℕ). list_any (fires_or_passes t) (h ++ e ∷ [])) re.serial ∙ re.fired;
    })

-- ---- the lists

pub open_after : (h : List Event) (opens : List ℕ) (c : ℕ) (b : Bool) → opens ≡ open_tasks h → is_open (place h c) ≡ b
    → (if b then without opens (c ∷ []) else opens) ≡ without (open_tasks h) (c ∷ [])
open_after h opens c true is open_now = ap (λ ts. without ts (c ∷ [])) is
open_after h opens c false is shut = is ∙ sym (without_absent (open_tasks h) c (in_open h c ∙ shut))

pub gone_after : (before : List ℕ) (h : List Event) (gones : List ℕ) (c : ℕ) (b : Bool) → before ++ gones ≡ gone h → is_open (place h c) ≡ b
    → before ++ (if b then gones ++ c ∷ [] else gones) ≡ gone h ++ (if is_open (place h c) then c ∷ [] else [])
gone_after before h gones c true is open_now = rw open_now (sym (append_assoc before gones (c ∷ [])) ∙ ap (λ ts. ts ++ c ∷ []) is)
gone_after before h gones c false is shut = rw shut (is ∙ sym (append-nil (gone h)))

-- ---- all

spends_one : (e : Event) (c : ℕ) → spends e ≡ Some c → is_of_one e ≡ true
spends_one (Fire d how) c is = refl
spends_one (Pass d) c is = refl
spends_one (Settle d s) c is = refl
spends_one _ c is = absurd cc

pub spent_holds : {sealed : List Event} (pool : Pool) (h : List Event) (e : Event) (queues : Waiting) (stacks : StackLists) (hands hands2 : List (Option InHand)) (tree mid : Records) (opens gones : List ℕ) (at : Handle) (r s : Record)
    → Holds pool sealed h queues stacks hands tree opens gones → Allowed pool h e → length h < length sealed + pool.limits.events → spends e ≡ Some at.serial
    → ((d : ℕ) → climbed_by e ≡ Some d → is_completer h d ≡ true) → IsSound tree → IsWritten tree mid at.key r s → r.serial ≡ at.serial → Respent (h ++ e ∷ []) r s
    → KeepsHands pool.limits (h ++ e ∷ []) hands2
    → Holds pool sealed (h ++ e ∷ []) queues stacks hands2 (closing.closed mid at) (if is_open_at mid at then without opens (at.serial ∷ []) else opens) (if is_open_at mid at then gones ++ at.serial ∷ [] else gones)
spent_holds pool h e queues stacks hands hands2 tree mid opens gones at r s holds may fits is at_completers sound wrote number re hands_kept =
    let so = holds.lawful in
    let one = spends_one e at.serial is in
    let unmoved = spends_unmoved e at.serial is in
    let tells = holds.tree_kept.each at.key r wrote.before in
    let is_r : spends e ≡ Some r.serial = is ∙ ap Some (sym number) in
    let shut = closed_written tree mid at r s wrote (re.serial ∙ number) in
    let known = kept_known h r.serial tells.kept in
    let known_at : is_in at.serial (tasks h) ≡ true = ap (λ (t : ℕ). is_in t (tasks h)) (sym number) ∙ known in
    let opened : is_open (place h at.serial) ≡ is_open_at mid at = ap (λ (t : ℕ). is_open (place h t)) (sym number) ∙ ap is_open (tells.place ∙ sym re.place) ∙ sym shut.0 in
    grown_holds pool h e queues queues stacks stacks hands hands2 tree _ opens _ gones _ holds may fits at_completers (record {
      queues_kept = queues_same pool.limits h (h ++ e ∷ []) queues (λ o. unmoved_queue h e o unmoved) holds.queues_kept;
      stacks_kept = stacks_same pool.limits h (h ++ e ∷ []) stacks (λ w. unmoved_stack h e w unmoved) holds.stacks_kept;
      hands_kept = hands_kept;
      tree_kept = tree_written pool h e tree (closing.closed mid at) at.key r _ so may one (none_accepted e unmoved) (spends_touched e r.serial is_r) sound shut.1
          (closed_serial (is_open s.place) s ∙ re.serial) (spent_tells pool h e r s so may is_r (kept_more h e r.serial one tells.kept) tells re) holds.tree_kept;
      open_kept = open_after h opens at.serial (is_open_at mid at) holds.open_kept opened ∙ sym (spending_open pool h e at.serial so may is);
      gone_kept = gone_after _ h gones at.serial (is_open_at mid at) holds.gone_kept opened ∙ sym (spending_gone pool h e at.serial so may is known_at);
    })
  where
    closed_serial : (b : Bool) (s : Record) → (if b then with_place Gone s else s).serial ≡ s.serial
    closed_serial true s = refl
    closed_serial false s = refl
