-- One record is changed.
use Rattle.fj_tree.specs.declared.record.Record.{Record}
use Rattle.fj_tree.specs.Handles.{Handle}
use Rattle.fj_tree.specs.Records.{Records, IsSound, record_at, IsGood, changed}
use Rattle.fj_tree.specs.Makes.{with_child_of}
use Rattle.fj_tree.proofs.Records.Writes.{slot_within}
use Rattle.fj_tree.proofs.Index.Finds.{named_record}
use Rattle.std.specs.Prelude.{option_map, if◌then◌else◌, ◌==◌}
use Rattle.std.proofs.Common.{cond, nat_eq, Bool, true, false, Option, Some, None, ℕ, ◌≡◌, ◌≢◌, eq-eqb, ap, sym, ◌∙◌, refl, inl, inr}
use Rattle.std.proofs.lemmas.Bool.{cases_eq, eqb-true}
use Rattle.std.proofs.lemmas.List.{get_or-set_same, get_or-set_other}

-- the record at the key of a change
pub changed_here : (t : Records) (key : ℕ) (r : Record) (change : Record → Record) → record_at t key ≡ Some r → record_at (changed t key change) key ≡ Some (change r)
changed_here t key r change is =
    get_or-set_same t.slots key (option_map change (record_at t key)) None (slot_within t.slots key r is) ∙ ap (option_map change) is

-- the records at all other keys
pub changed_other : (t : Records) (key other : ℕ) (change : Record → Record) → other ≢ key → record_at (changed t key change) other ≡ record_at t other
changed_other t key other change differs = get_or-set_other t.slots key other (option_map change (record_at t key)) None differs

-- without a parent nothing is counted
pub no_child : (o : Option Record) → o ≡ option_map (with_child_of None) o
no_child None = refl
no_child (Some r) = refl

-- the record of this number is changed, and no other is
abbrev pub if_named : (Record → Record) → ℕ → Record → Record
if_named change n r = if r.serial == n then change r else r

pub one_changed : (old new : Records) (p : Handle) (key : ℕ) (change : Record → Record) → IsSound old → IsGood old p → record_at new key ≡ record_at old key → record_at new p.key ≡ record_at old p.key
    → record_at (changed new p.key change) key ≡ option_map (if_named change p.serial) (record_at old key)
one_changed old new p key change sound good kept parent_kept =
    elim (cases_eq key p.key) [
      | inl same ↦
          let named = named_record old p good in
          let there : record_at old key ≡ Some named.0 = ap (record_at old) same ∙ named.1 in
          let done : if_named change p.serial named.0 ≡ change named.0 = ap (λ (b : Bool). cond b (change named.0) named.0) (eq-eqb named.0.serial p.serial named.2) in
          ap (record_at (changed new p.key change)) same ∙ changed_here new p.key named.0 change (parent_kept ∙ named.1) ∙ ap Some (sym done) ∙ sym (ap (option_map (if_named change p.serial)) there)
      | inr differs ↦ changed_other new p.key key change differs ∙ kept ∙ same_record (record_at old key) refl differs
    ]
  where
    same_record : (o : Option Record) → record_at old key ≡ o → key ≢ p.key → record_at old key ≡ option_map (if_named change p.serial) (record_at old key)
    same_record None none differs = rw none refl
    same_record (Some s) some differs = which (nat_eq s.serial p.serial) refl
      where
        which : (b : Bool) → nat_eq s.serial p.serial ≡ b → record_at old key ≡ option_map (if_named change p.serial) (record_at old key)
        which true e =
            let named = named_record old p good in
            absurd (differs (sound.once key p.key s named.0 some named.1 (eqb-true s.serial p.serial e ∙ sym named.2)))
        which false e = rw (some, e) refl
