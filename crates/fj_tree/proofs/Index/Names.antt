-- Records that keep their numbers and kinds keep their handles and their ways.
use Rattle.std.specs.Prelude.{option_map, option_and_then}
use Rattle.std.proofs.Common.{nat_eq, Bool, true, false, true≢false, suc, zero, Option, Some, None, ℕ, ◌≡◌, List, ◌∷◌, ap, sym, ◌∙◌, refl}
use Rattle.std.proofs.lemmas.Bool.{eqb-true}
use Rattle.std.proofs.lemmas.Option.{same_Some, none-some}
use Rattle.slab.specs.Slab.{entries_from}
use Rattle.slab.proofs.SlabLemmas.{Contains-entries}
use Rattle.fj_rules.specs.declared.kind.Kind.{Kind}
use Rattle.fj_rules.specs.Tasks.{parent_in}
use Rattle.fj_tree.specs.declared.record.Record.{Record}
use Rattle.fj_tree.specs.Handles.{Handle}
use Rattle.fj_tree.specs.Paths.{above, and_on, path_up, path}
use Rattle.fj_tree.specs.Records.{Records, IsSound, IsGood, record_at, record_of, entry_of, handle_of, if_numbered}
use Rattle.fj_tree.proofs.Index.Finds.{absent_from, found_listed, found_numbered, slab_of}

-- what never changes of a record
pub record Name : Type 0 where
  pub serial : ℕ
  pub kind : Kind

abbrev pub name_of : Record → Name
name_of r = record { serial = r.serial; kind = r.kind }

-- at each key the record has the number and the kind that it had before
pub record KeepsNames (old new : Records) : Type 0 where
  pub names : (key : ℕ) → option_map name_of (record_at new key) ≡ option_map name_of (record_at old key)

-- the record before, of one that is there now
named_before : (old new : Option Record) (r : Record) → option_map name_of new ≡ option_map name_of old → new ≡ Some r
    → (s : Record) × (old ≡ Some s) × (s.serial ≡ r.serial) × (s.kind ≡ r.kind)
named_before None new r same is = absurd (cc)
named_before (Some s) new r same is =
    let both : Some (name_of r) ≡ Some (name_of s) = sym (ap (option_map name_of) is) ∙ same in
    (s, refl, ap (λ (n : Name). n.serial) (sym (same_Some (name_of r) (name_of s) both)), ap (λ (n : Name). n.kind) (sym (same_Some (name_of r) (name_of s) both)))

pub keeps_back : (old new : Records) → KeepsNames old new → KeepsNames new old
keeps_back old new keeps = record { names = λ key. sym (keeps.names key) }

-- an entry that is found is the record at its key, and has the number
pub entry_is : (t : Records) (n : ℕ) (e : ℕ × Record) → entry_of t n ≡ Some e → (record_at t e.0 ≡ Some e.1) × (e.1.serial ≡ n)
entry_is t n e found = (
  (Contains-entries (slab_of t) e.0 e.1).0 (found_listed (entries_from 0 t.slots) n e found),
  eqb-true e.1.serial n (found_numbered (entries_from 0 t.slots) n e found),
)

-- where no entry is found before, none is found after
none_kept : (old new : Records) (n : ℕ) → KeepsNames old new → entry_of old n ≡ None → entry_of new n ≡ None
none_kept old new n keeps none = go (entry_of new n) refl
  where
    go : (o : Option (ℕ × Record)) → entry_of new n ≡ o → entry_of new n ≡ None
    go None is = is
    go (Some e) is =
        let there = entry_is new n e is in
        let before = named_before (record_at old e.0) (record_at new e.0) e.1 (keeps.names e.0) there.0 in
        absurd (absent_from old n e.0 before.0 none before.1 (before.2 ∙ there.1))

-- the handle of a number is the same
pub handle_kept : (old new : Records) (n : ℕ) → IsSound old → KeepsNames old new → handle_of new n ≡ handle_of old n
handle_kept old new n sound keeps = go (entry_of old n) (entry_of new n) refl refl
  where
    go : (o p : Option (ℕ × Record)) → entry_of old n ≡ o → entry_of new n ≡ p → handle_of new n ≡ handle_of old n
    go None p was is = rw (was, none_kept old new n keeps was) refl
    go (Some e) None was is = absurd (none-some e (sym (none_kept new old n (keeps_back old new keeps) is) ∙ was))
    go (Some e) (Some d) was is =
        let first = entry_is old n e was in
        let second = entry_is new n d is in
        let before = named_before (record_at old d.0) (record_at new d.0) d.1 (keeps.names d.0) second.0 in
        let same : e.0 ≡ d.0 = sound.once e.0 d.0 e.1 before.0 first.0 before.1 (first.1 ∙ sym (before.2 ∙ second.1)) in
        rw (was, is, same) refl

-- the record of a handle has the same name
pub record_kept : (old new : Records) (h : Handle) → KeepsNames old new → option_map name_of (record_of new h) ≡ option_map name_of (record_of old h)
record_kept old new h keeps = go (record_at old h.key) (record_at new h.key) (keeps.names h.key)
  where
    numbered : (r s : Record) → name_of s ≡ name_of r → (b : Bool) → nat_eq r.serial h.serial ≡ b → option_map name_of (if_numbered h.serial s) ≡ option_map name_of (if_numbered h.serial r)
    numbered r s same true e = let other : nat_eq s.serial h.serial ≡ true = ap (λ (n : Name). nat_eq n.serial h.serial) same ∙ e in rw (e, other) (ap Some same)
    numbered r s same false e = let other : nat_eq s.serial h.serial ≡ false = ap (λ (n : Name). nat_eq n.serial h.serial) same ∙ e in rw (e, other) refl

    go : (o p : Option Record) → option_map name_of p ≡ option_map name_of o → option_map name_of (option_and_then (if_numbered h.serial) p) ≡ option_map name_of (option_and_then (if_numbered h.serial) o)
    go None None same = refl
    go None (Some s) same = absurd (cc)
    go (Some r) None same = absurd (cc)
    go (Some r) (Some s) same = numbered r s (same_Some (name_of s) (name_of r) same) (nat_eq r.serial h.serial) refl

-- a good handle stays good
pub good_kept : (old new : Records) (h : Handle) → KeepsNames old new → IsGood old h → IsGood new h
good_kept old new h keeps good = go (record_of old h) (record_of new h) refl refl
  where
    go : (o p : Option Record) → record_of old h ≡ o → record_of new h ≡ p → IsGood new h
    go None p was is = absurd (true≢false (sym (rw was at good)))
    go (Some r) None was is = absurd (none-some (name_of r) (sym (ap (option_map name_of) is) ∙ record_kept old new h keeps ∙ ap (option_map name_of) was))
    go (Some r) (Some s) was is = rw is refl

-- the parent is the same
pub above_kept : (old new : Records) (h : Handle) → IsSound old → KeepsNames old new → above new h ≡ above old h
above_kept old new h sound keeps = go (record_of old h) (record_of new h) (record_kept old new h keeps)
  where
    named : (o : Option ℕ) → option_and_then (handle_of new) o ≡ option_and_then (handle_of old) o
    named None = refl
    named (Some n) = handle_kept old new n sound keeps

    go : (o p : Option Record) → option_map name_of p ≡ option_map name_of o
        → option_and_then (handle_of new) (parent_in (option_map (λ r. r.kind) p)) ≡ option_and_then (handle_of old) (parent_in (option_map (λ r. r.kind) o))
    go None None same = refl
    go None (Some s) same = absurd (cc)
    go (Some r) None same = absurd (cc)
    go (Some r) (Some s) same =
        let kinds : s.kind ≡ r.kind = ap (λ (n : Name). n.kind) (same_Some (name_of s) (name_of r) same) in
        ap (λ (k : Kind). option_and_then (handle_of new) (parent_in (Some k))) kinds ∙ named (parent_in (Some r.kind))

-- the way is the same
pub way_kept : (old new : Records) (most : ℕ) (h : Handle) → IsSound old → KeepsNames old new → path_up most new h ≡ path_up most old h
unfolding path_up
way_kept old new zero h sound keeps = refl
way_kept old new (suc most) h sound keeps = ap (λ (way : List Handle). h ∷ way) (go (λ up. way_kept old new most up sound keeps) (above old h) (above_kept old new h sound keeps))
  where
    go : ((up : Handle) → path_up most new up ≡ path_up most old up) → (o : Option Handle) → above new h ≡ o → and_on (path_up most new) (above new h) ≡ and_on (path_up most old) o
    go on None is = rw is refl
    go on (Some up) is = ap (and_on (path_up most new)) is ∙ on up

pub path_kept : (old new : Records) (h : Handle) → IsSound old → KeepsNames old new → path new h ≡ path old h
unfolding path
path_kept old new h sound keeps = way_kept old new (suc h.serial) h sound keeps
