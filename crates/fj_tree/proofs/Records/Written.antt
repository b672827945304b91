-- Some of the records are changed in one way, each of them once.
use Rattle.std.specs.Prelude.{option_map, if◌then◌else◌, ◌||◌}
use Rattle.std.proofs.Common.{arith, nat_eq, Bool, true, false, eq-eqb, Option, Some, None, ℕ, ◌≡◌, ◌≢◌, ◌<◌, List, [], ◌∷◌, ◌++◌, ap, sym, ◌∙◌, refl, inl, inr}
use Rattle.std.proofs.lemmas.Bool.{cases_eq, eqb-true}
use Rattle.fj_rules.specs.Lists.{is_in}
use Rattle.fj_rules.proofs.Lists.Members.{is_in_append}
use Rattle.fj_tree.specs.declared.record.Record.{Record}
use Rattle.fj_tree.specs.Handles.{Handle}
use Rattle.fj_tree.specs.Records.{Records, IsSound, IsGood, record_at, changed, count}
use Rattle.fj_tree.proofs.Records.Children.{changed_here, changed_other}
use Rattle.fj_tree.proofs.Index.Finds.{named_record}
use Rattle.fj_tree.proofs.Index.Names.{KeepsNames, name_of}
use Rattle.fj_tree.proofs.Records.Writes.{count_changed}

-- the record, changed if it has one of these numbers
abbrev pub among : (Record → Record) → List ℕ → Record → Record
among change done r = if is_in r.serial done then change r else r

-- those of these numbers are changed, and nothing else is
pub record IsWritten (change : Record → Record) (t now : Records) (done : List ℕ) : Type 0 where
  pub records : (key : ℕ) → record_at now key ≡ option_map (among change done) (record_at t key)
  pub kept : count now ≡ count t
  pub made : now.made ≡ t.made
  pub room : now.room ≡ t.room

pub written_at_start : (change : Record → Record) (t : Records) → IsWritten change t t []
written_at_start change t = record { records = λ key. go (record_at t key); kept = refl; made = refl; room = refl }
  where
    go : (o : Option Record) → o ≡ option_map (among change []) o
    go None = refl
    go (Some r) = refl

-- a change that keeps number and kind
pub record KeepsName (change : Record → Record) : Type 0 where
  pub name : (r : Record) → name_of (change r) ≡ name_of r

-- numbers and kinds stay
pub written_keeps : (change : Record → Record) (t now : Records) (done : List ℕ) → KeepsName change → IsWritten change t now done → KeepsNames t now
written_keeps change t now done keeps written = record { names = λ key. ap (option_map name_of) (written.records key) ∙ go (record_at t key) }
  where
    one : (r : Record) (b : Bool) → name_of (if b then change r else r) ≡ name_of r
    one r true = keeps.name r
    one r false = refl

    go : (o : Option Record) → option_map name_of (option_map (among change done) o) ≡ option_map name_of o
    go None = refl
    go (Some r) = ap Some (one r (is_in r.serial done))

-- the record of a good handle, which is as it was
pub record IsThere (t now : Records) (at : Handle) (r : Record) : Type 0 where
  pub was : record_at t at.key ≡ Some r
  pub is : record_at now at.key ≡ Some r
  pub number : r.serial ≡ at.serial

-- one whose number is below all that were changed is as it was
pub untouched : (change : Record → Record) (t now : Records) (done : List ℕ) (at : Handle) → IsWritten change t now done → ((n : ℕ) → is_in n done ≡ true → at.serial < n) → IsGood t at
    → (r : Record) × IsThere t now at r
untouched change t now done at written beyond good =
    let named = named_record t at good in (
      named.0,
      record {
        was = named.1;
        is = written.records at.key ∙ ap (option_map (among change done)) named.1 ∙ ap Some (go named.0 named.2 (is_in named.0.serial done) refl);
        number = named.2;
      },
    )
  where
    go : (r : Record) → r.serial ≡ at.serial → (b : Bool) → is_in r.serial done ≡ b → among change done r ≡ r
    go r same true e = absurd (omega (arith, beyond r.serial e, same))
    go r same false e = rw e refl

-- one more number
among_more : (change : Record → Record) (done : List ℕ) (n : ℕ) (r : Record) → r.serial ≢ n → among change (done ++ n ∷ []) r ≡ among change done r
among_more change done n r differs = ap (λ (b : Bool). if b then change r else r) (is_in_append r.serial done (n ∷ []) ∙ go (is_in r.serial done) (nat_eq n r.serial) refl)
  where
    go : (a b : Bool) → nat_eq n r.serial ≡ b → (a || (b || false)) ≡ a
    go true b e = refl
    go false true e = absurd (differs (sym (eqb-true n r.serial e)))
    go false false e = refl

among_last : (change : Record → Record) (done : List ℕ) (n : ℕ) (r : Record) → r.serial ≡ n → among change (done ++ n ∷ []) r ≡ change r
among_last change done n r same =
    ap (λ (b : Bool). if b then change r else r) (is_in_append r.serial done (n ∷ []) ∙ ap (λ (b : Bool). is_in r.serial done || (b || false)) (eq-eqb n r.serial (sym same)) ∙ go (is_in r.serial done))
  where
    go : (a : Bool) → (a || true) ≡ true
    go true = refl
    go false = refl

-- two records of different keys have different numbers
pub apart : (t : Records) (key other : ℕ) (r s : Record) (n : ℕ) → IsSound t → record_at t key ≡ Some r → record_at t other ≡ Some s → s.serial ≡ n → key ≢ other → r.serial ≢ n
apart t key other r s n sound is_r is_s number differs = λ alike. differs (sound.once key other r s is_r is_s (alike ∙ sym number))

-- one more is changed
pub writes : (change : Record → Record) (t now : Records) (done : List ℕ) (at : Handle) (r : Record) → IsSound t → IsWritten change t now done → IsThere t now at r
    → IsWritten change t (changed now at.key change) (done ++ at.serial ∷ [])
writes change t now done at r sound written there = record {
  records = each;
  kept = count_changed now at.key r change there.is ∙ written.kept;
  made = written.made;
  room = written.room;
}
  where
    go : (key : ℕ) (o : Option Record) → record_at t key ≡ o → key ≢ at.key → option_map (among change done) o ≡ option_map (among change (done ++ at.serial ∷ [])) o
    go key None is differs = refl
    go key (Some s) is differs = ap Some (sym (among_more change done at.serial s (apart t key at.key s r at.serial sound is there.was there.number differs)))

    each : (key : ℕ) → record_at (changed now at.key change) key ≡ option_map (among change (done ++ at.serial ∷ [])) (record_at t key)
    each key = elim (cases_eq key at.key) [
      | inl same ↦
          ap (record_at (changed now at.key change)) same ∙ changed_here now at.key r change there.is
          ∙ ap Some (sym (among_last change done at.serial r there.number))
          ∙ sym (ap (λ (k : ℕ). option_map (among change (done ++ at.serial ∷ [])) (record_at t k)) same ∙ ap (option_map (among change (done ++ at.serial ∷ []))) there.was)
      | inr differs ↦ changed_other now at.key key change differs ∙ written.records key ∙ go key (record_at t key) refl differs
    ]
