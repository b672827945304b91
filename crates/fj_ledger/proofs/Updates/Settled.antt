-- What a record says after its task was settled, fired or passed.
use Rattle.std.proofs.Common.{◌+◌, ℕ, ◌≡◌, ◌<◌, true, false, not, List, [], ◌∷◌, ◌++◌, length, subst, Option, Some, None, refl, ap, sym, ◌∙◌}
use Rattle.std.specs.Prelude.{if◌then◌else◌}
use Rattle.std.specs.List.{list_any}
use Rattle.std.proofs.Math.ListN.{set}
use Rattle.std.proofs.lemmas.Option.{same_Some}
use Rattle.std.proofs.lemmas.Bool.{eq-eqb, or_right, or_parts, true≢false}
use Rattle.std.proofs.lemmas.List.Folds.{list_any-append}
use Rattle.fj_rules.specs.declared.event.Event.{Event}
use Rattle.fj_rules.specs.declared.event.Event.TheVariants.{Fire, Pass, Settle}
use Rattle.fj_rules.specs.declared.event.How.{How}
use Rattle.fj_rules.specs.declared.event.How.TheVariants.{Zero, Complete}
use Rattle.fj_rules.specs.declared.status.Status.{Status}
use Rattle.fj_rules.specs.Bounds.{Pool}
use Rattle.fj_rules.specs.Lists.{is_in, without}
use Rattle.fj_rules.specs.Tasks.{tasks, is_kept, is_completer, parent, parent_in}
use Rattle.fj_rules.specs.Hooks.{hooks, hand, receiver}
use Rattle.fj_rules.specs.Statuses.{status, is_undone}
use Rattle.fj_rules.specs.Completers.{is_spent, fires_or_passes}
use Rattle.fj_rules.specs.Places.{place, is_open}
use Rattle.fj_rules.specs.Allowed.{Allowed, AllowedFrom}
use Rattle.fj_rules.proofs.Completers.Firings.{fires_unspent}
use Rattle.fj_rules.proofs.Events.Ends.{status_settle}
use Rattle.fj_rules.proofs.Places.KeptPlaces.{open_kept}
use Rattle.fj_rules.proofs.Places.OnePlace.{never}
use Rattle.fj_rules.proofs.Events.Spending.{status_kept}
use Rattle.fj_queues.specs.Queues.{Lists as Waiting}
use Rattle.fj_tree.specs.declared.record.Record.{Record}
use Rattle.fj_tree.specs.Handles.{Handle}
use Rattle.fj_tree.specs.Records.{Records, IsSound, changed, with_status, made_spent}
use Rattle.fj_tree.proofs.Index.Numbers.{written}
use Rattle.fj_queues.specs.Stacks.{StackLists}
use Rattle.fj_ledger.specs.InHands.{InHand}
use Rattle.fj_ledger.specs.Closing.{is_open_at, closed}
use Rattle.fj_ledger.specs.Holds.{Holds, Tells}
use Rattle.fj_ledger.proofs.Lists.HandParts.{hands_same, hands_fired}
use Rattle.fj_ledger.proofs.Recorded.Located.{IsLocated}
use Rattle.fj_ledger.proofs.Updates.Spent.{Respent, spent_holds}
use Rattle.fj_ledger.proofs.Recorded.Telling.{pending_same, fired_same}
use Rattle.fj_rules.proofs.Events.KindsKept.{kind_still}

pub settled_says : (pool : Pool) (h : List Event) (s : Status) (r : Record) → AllowedFrom pool [] h → Allowed pool h (Settle r.serial s) → Tells h r
    → Respent (h ++ Settle r.serial s ∷ []) r (with_status s r)
settled_says pool h s r so may tells = let e = Settle r.serial s in record {
  serial = refl;
  kind = refl;
  place = refl;
  status = status_settle pool h r.serial s so may.1;
  pending = pending_same h e r.serial (kind_still h e r.serial (λ is. absurd cc)) refl refl ∙ tells.pending;
  fired = fired_same h e r.serial refl ∙ tells.fired;
}

fired_now : (h : List Event) (e : Event) (c : ℕ) → fires_or_passes c e ≡ true → list_any (fires_or_passes c) (h ++ e ∷ []) ≡ true
fired_now h e c is =
    list_any-append (fires_or_passes c) h (e ∷ []) ∙ or_right (list_any (fires_or_passes c) h) (list_any (fires_or_passes c) (e ∷ [])) (rw is refl)

pub fired_says : (h : List Event) (how : How) (r : Record) → Tells h r → Respent (h ++ Fire r.serial how ∷ []) r (made_spent r)
fired_says h how r tells = let e = Fire r.serial how in record {
  serial = refl;
  kind = refl;
  place = refl;
  status = status_kept h e r.serial refl (λ is. absurd cc) ∙ tells.status;
  pending = pending_same h e r.serial (kind_still h e r.serial (λ is. absurd cc)) refl refl ∙ tells.pending;
  fired = fired_now h e r.serial (eq-eqb r.serial r.serial refl);
}

pub passed_says : (h : List Event) (r : Record) → Tells h r → Respent (h ++ Pass r.serial ∷ []) r (made_spent r)
passed_says h r tells = let e = Pass r.serial in record {
  serial = refl;
  kind = refl;
  place = refl;
  status = status_kept h e r.serial refl (λ is. absurd cc) ∙ tells.status;
  pending = pending_same h e r.serial (kind_still h e r.serial (λ is. absurd cc)) refl refl ∙ tells.pending;
  fired = fired_now h e r.serial (eq-eqb r.serial r.serial refl);
}

-- ---- all that is kept

-- a released task is not open
pub left_shut : (pool : Pool) (h : List Event) (t : ℕ) → AllowedFrom pool [] h → is_in t (tasks h) ≡ true → is_kept h t ≡ false → is_open (place h t) ≡ false
left_shut pool h t so known none = never (is_open (place h t)) (λ open_now. true≢false (sym (open_kept pool h t so open_now) ∙ none))

pub settle_holds : {sealed : List Event} (pool : Pool) (h : List Event) (t : ℕ) (s : Status) (queues : Waiting) (stacks : StackLists) (hands : List (Option InHand)) (tree : Records) (opens gones : List ℕ) (at : Handle)
    → Holds pool sealed h queues stacks hands tree opens gones → IsSound tree → IsLocated tree t at → Allowed pool h (Settle t s) → length h < length sealed + pool.limits.events
    → let mid = changed tree at.key (with_status s) in
    Holds pool sealed (h ++ Settle t s ∷ []) queues stacks hands (closed mid at) (if is_open_at mid at then without opens (at.serial ∷ []) else opens) (if is_open_at mid at then gones ++ at.serial ∷ [] else gones)
settle_holds {sealed = sealed} pool h t s queues stacks hands tree opens gones at holds sound l may fits =
    let r = l.found in
    let e = Settle r.serial s in
    let number : r.serial ≡ t = l.serial ∙ l.number in
    let mid = changed tree at.key (with_status s) in
    let may_r : Allowed pool h e = subst (λ (u : ℕ). Allowed pool h (Settle u s)) (sym number) may in
    let tells = holds.tree_kept.each at.key r l.at in
    subst (λ (u : ℕ). Holds pool sealed (h ++ Settle u s ∷ []) queues stacks hands (closed mid at) (if is_open_at mid at then without opens (at.serial ∷ []) else opens) (if is_open_at mid at then gones ++ at.serial ∷ [] else gones)) number
    (spent_holds pool h e queues stacks hands hands tree mid opens gones at r (with_status s r) holds may_r fits (ap Some l.serial) (λ d is. absurd cc) sound (written tree at.key r (with_status s) l.at) l.serial
    (settled_says pool h s r holds.lawful may_r tells)
    (hands_same pool h e hands holds.lawful may_r refl refl (λ c said there. ap (is_kept h) (same_Some c r.serial (sym said)) ∙ tells.kept) holds.hands_kept))

pub pass_holds : {sealed : List Event} (pool : Pool) (h : List Event) (c : ℕ) (queues : Waiting) (stacks : StackLists) (hands : List (Option InHand)) (tree : Records) (opens gones : List ℕ) (at : Handle)
    → Holds pool sealed h queues stacks hands tree opens gones → IsSound tree → IsLocated tree c at → Allowed pool h (Pass c) → is_completer h c ≡ true → length h < length sealed + pool.limits.events
    → let mid = changed tree at.key made_spent in
    Holds pool sealed (h ++ Pass c ∷ []) queues stacks hands (closed mid at) (if is_open_at mid at then without opens (at.serial ∷ []) else opens) (if is_open_at mid at then gones ++ at.serial ∷ [] else gones)
pass_holds {sealed = sealed} pool h c queues stacks hands tree opens gones at holds sound l may is fits =
    let r = l.found in
    let e = Pass r.serial in
    let number : r.serial ≡ c = l.serial ∙ l.number in
    let mid = changed tree at.key made_spent in
    let may_r : Allowed pool h e = subst (λ (u : ℕ). Allowed pool h (Pass u)) (sym number) may in
    let tells = holds.tree_kept.each at.key r l.at in
    subst (λ (u : ℕ). Holds pool sealed (h ++ Pass u ∷ []) queues stacks hands (closed mid at) (if is_open_at mid at then without opens (at.serial ∷ []) else opens) (if is_open_at mid at then gones ++ at.serial ∷ [] else gones)) number
    (spent_holds pool h e queues stacks hands hands tree mid opens gones at r (made_spent r) holds may_r fits (ap Some l.serial) (λ d same. ap (is_completer h) (same_Some d c (sym same ∙ ap Some number)) ∙ is) sound (written tree at.key r made_spent l.at) l.serial
    (passed_says h r tells) (hands_same pool h e hands holds.lawful may_r refl refl (λ d said there. absurd cc) holds.hands_kept))

unspent_unfired : (h : List Event) (c : ℕ) → is_spent h c ≡ false → list_any (fires_or_passes c) h ≡ false
unfolding is_spent
unspent_unfired h c none = (or_parts (list_any (fires_or_passes c) h) (not (is_undone (status h c))) none).0

unfired : (pool : Pool) (h : List Event) (c : ℕ) (how : How) → Allowed pool h (Fire c how) → list_any (fires_or_passes c) h ≡ false
unfired pool h c Zero may = unspent_unfired h c (fires_unspent h c may)
unfired pool h c Complete may = unspent_unfired h c may.0

pub fire_holds : {sealed : List Event} (pool : Pool) (h : List Event) (c w : ℕ) (how : How) (queues : Waiting) (stacks : StackLists) (hands : List (Option InHand)) (hook : InHand) (tree : Records) (opens gones : List ℕ) (at : Handle)
    → Holds pool sealed h queues stacks hands tree opens gones → IsSound tree → (l : IsLocated tree c at) → Allowed pool h (Fire c how) → is_completer h c ≡ true → length h < length sealed + pool.limits.events
    → w < pool.limits.workers → hand h w ≡ None → receiver c (hooks h).just_ended (hooks h).last_worker ≡ Some w → hook.completer ≡ c → hook.parent ≡ parent_in (Some l.found.kind) → hook.how ≡ how → hook.released ≡ None
    → let mid = changed tree at.key made_spent in
    Holds pool sealed (h ++ Fire c how ∷ []) queues stacks (set hands w (Some hook)) (closed mid at) (if is_open_at mid at then without opens (at.serial ∷ []) else opens) (if is_open_at mid at then gones ++ at.serial ∷ [] else gones)
unfolding parent
fire_holds {sealed = sealed} pool h c w how queues stacks hands hook tree opens gones at holds sound l may is fits within free given is_c is_parent is_how is_left =
    let r = l.found in
    let e = Fire r.serial how in
    let number : r.serial ≡ c = l.serial ∙ l.number in
    let mid = changed tree at.key made_spent in
    let may_r : Allowed pool h e = subst (λ (u : ℕ). Allowed pool h (Fire u how)) (sym number) may in
    let tells = holds.tree_kept.each at.key r l.at in
    let given_r : receiver r.serial (hooks h).just_ended (hooks h).last_worker ≡ Some w = subst (λ (u : ℕ). receiver u (hooks h).just_ended (hooks h).last_worker ≡ Some w) (sym number) given in
    subst (λ (u : ℕ). Holds pool sealed (h ++ Fire u how ∷ []) queues stacks (set hands w (Some hook)) (closed mid at) (if is_open_at mid at then without opens (at.serial ∷ []) else opens) (if is_open_at mid at then gones ++ at.serial ∷ [] else gones)) number
    (spent_holds pool h e queues stacks hands (set hands w (Some hook)) tree mid opens gones at r (made_spent r) holds may_r fits (ap Some l.serial) (λ d same. ap (is_completer h) (same_Some d c (sym same ∙ ap Some number)) ∙ is) sound (written tree at.key r made_spent l.at) l.serial
    (fired_says h how r tells)
    (hands_fired pool h r.serial w how hands hook holds.lawful may_r within free given_r (unfired pool h r.serial how may_r) tells.kept (is_c ∙ sym number) (ap parent_in tells.kind ∙ sym is_parent) is_how is_left holds.hands_kept))
