-- Where the record of a number is, and what a write of one record leaves.
use Rattle.slab.specs.Slab.{entries_from}
use Rattle.slab.proofs.SlabLemmas.{Contains-entries}
use Rattle.std.proofs.Common.{ℕ, ◌≡◌, ◌≢◌, Option, Some, None, refl, ap, sym, ◌∙◌, subst}
use Rattle.std.specs.Prelude.{IsSome, IsSomeAnd, option_map, is_some}
use Rattle.std.specs.List.{count_by}
use Rattle.std.proofs.Math.ListN.{set}
use Rattle.std.proofs.lemmas.Bool.{eqb-true}
use Rattle.std.proofs.lemmas.Option.{same_Some}
use Rattle.fj_tree.specs.declared.record.Record.{Record}
use Rattle.fj_tree.specs.Handles.{Handle}
use Rattle.fj_tree.specs.Records.{Records, IsSound, IsGood, record_at, entry_of, handle_of, changed, count}
use Rattle.fj_tree.proofs.Index.Finds.{absent_from, found_listed, found_numbered, slab_of}
use Rattle.fj_tree.proofs.Records.Writes.{count_written}
use Rattle.fj_tree.proofs.Records.Children.{changed_here, changed_other}

-- the record of a task, with its key
pub record IsAt (tree : Records) (t : ℕ) : Type 0 where
  pub key : ℕ
  pub found : Record
  pub at : record_at tree key ≡ Some found
  pub number : found.serial ≡ t

-- where a record has the number, it is found
pub there : (tree : Records) (t key : ℕ) (r : Record) → record_at tree key ≡ Some r → r.serial ≡ t → IsSome (handle_of tree t)
there tree t key r at is = go (entry_of tree t) refl
  where
    go : (e : Option (ℕ × Record)) → entry_of tree t ≡ e → IsSome (handle_of tree t)
    go None none = absurd (absent_from tree t key r none at is)
    go (Some e) some = rw some refl

-- and where it is found, a record has it
pub at_found : (tree : Records) (t : ℕ) → IsSome (handle_of tree t) → IsAt tree t
at_found tree t found = go (entry_of tree t) refl
  where
    go : (e : Option (ℕ × Record)) → entry_of tree t ≡ e → IsAt tree t
    go None none = let bad = rw none at found in absurd cc
    go (Some e) some = record {
      key = e.0;
      found = e.1;
      at = (Contains-entries (slab_of tree) e.0 e.1).0 (found_listed (entries_from 0 tree.slots) t e some);
      number = eqb-true e.1.serial t (found_numbered (entries_from 0 tree.slots) t e some);
    }

-- a handle that is found is good
pub good_found : (tree : Records) (t : ℕ) (h : Handle) → handle_of tree t ≡ Some h → IsGood tree h
good_found tree t h found = go (entry_of tree t) refl
  where
    go : (e : Option (ℕ × Record)) → entry_of tree t ≡ e → IsGood tree h
    go None none = let bad = rw none at found in absurd cc
    go (Some e) some =
        let at : record_at tree e.0 ≡ Some e.1 = (Contains-entries (slab_of tree) e.0 e.1).0 (found_listed (entries_from 0 tree.slots) t e some) in
        let named : IsGood tree (record { key = e.0; serial = t }) = rw (at, found_numbered (entries_from 0 tree.slots) t e some) refl in
        subst (IsGood tree) (same_Some _ h (rw some at found)) named

-- the record at a key is the one that is found for its number
pub found_there : (tree : Records) (n key : ℕ) → IsSound tree → IsSomeAnd (record_at tree key) (λ r. r.serial ≡ n) → handle_of tree n ≡ Some (record { key = key; serial = n })
found_there tree n key sound there = at_key (record_at tree key) refl there
  where
    at_entry : (r : Record) (e : Option (ℕ × Record)) → record_at tree key ≡ Some r → r.serial ≡ n → entry_of tree n ≡ e → handle_of tree n ≡ Some (record { key = key; serial = n })
    at_entry r None at same none = absurd (absent_from tree n key r none at same)
    at_entry r (Some e) at same some =
        let listed : record_at tree e.0 ≡ Some e.1 = (Contains-entries (slab_of tree) e.0 e.1).0 (found_listed (entries_from 0 tree.slots) n e some) in
        let number : e.1.serial ≡ n = eqb-true e.1.serial n (found_numbered (entries_from 0 tree.slots) n e some) in
        let here : e.0 ≡ key = sound.once e.0 key e.1 r listed at (number ∙ sym same) in
        rw (some, here) refl

    at_key : (o : Option Record) → record_at tree key ≡ o → IsSomeAnd o (λ r. r.serial ≡ n) → handle_of tree n ≡ Some (record { key = key; serial = n })
    at_key None none same = absurd same
    at_key (Some r) some same = at_entry r (entry_of tree n) some same refl

-- one record was written, and the others are as they were
pub record IsWritten (old new : Records) (key : ℕ) (r s : Record) : Type 0 where
  pub made : new.made ≡ old.made
  pub room : new.room ≡ old.room
  pub before : record_at old key ≡ Some r
  pub after : record_at new key ≡ Some s
  pub others : (k : ℕ) → k ≢ key → record_at new k ≡ record_at old k
  pub count : count new ≡ count old

pub written : (tree : Records) (key : ℕ) (r : Record) (change : Record → Record) → record_at tree key ≡ Some r → IsWritten tree (changed tree key change) key r (change r)
written tree key r change at = record {
  made = refl;
  room = refl;
  before = at;
  after = changed_here tree key r change at;
  others = λ k other. changed_other tree key k change other;
  count = ap (λ (o : Option Record). count_by is_some (set tree.slots key (option_map change o))) at ∙ count_written tree.slots key r (change r) at;
}

pub written_again : (a b c : Records) (key : ℕ) (r s u : Record) → IsWritten a b key r s → IsWritten b c key s u → IsWritten a c key r u
written_again a b c key r s u first second = record {
  made = second.made ∙ first.made;
  room = second.room ∙ first.room;
  before = first.before;
  after = second.after;
  others = λ k other. second.others k other ∙ first.others k other;
  count = second.count ∙ first.count;
}
