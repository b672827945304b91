-- The parent of a record is a completer that is kept.
use Rattle.std.specs.Prelude.{option_map, option_and_then, if◌then◌else◌, IfSome}
use Rattle.std.proofs.Common.{arith, Bool, Option, Some, None, ℕ, ◌≡◌, ◌≢◌, ◌≤◌, eq-eqb, ap, sym, ◌∙◌, refl, subst}
use Rattle.std.proofs.lemmas.Option.{same_Some, none-some}
use Rattle.fj_rules.specs.Tasks.{parent_in, is_completer_kind}
use Rattle.fj_tree.specs.declared.record.Record.{Record}
use Rattle.fj_tree.specs.Handles.{Handle}
use Rattle.fj_tree.specs.Paths.{above}
use Rattle.fj_tree.specs.Records.{Records, IsSound, IsCompleter, IsGood, HasCompleter, record_at, record_of, handle_of, entry_of, if_numbered, is_named, names_parent, children_of}
use Rattle.fj_tree.proofs.Records.Counts.{counted_one}
use Rattle.fj_tree.proofs.Index.Finds.{absent_from, named_record}
use Rattle.fj_tree.proofs.Index.Names.{entry_is}

-- a kept parent has a child
pub has_child : (t : Records) (key : ℕ) (r : Record) (p : ℕ) → record_at t key ≡ Some r → parent_in (Some r.kind) ≡ Some p → 1 ≤ children_of t p
has_child t key r p is named = counted_one (names_parent p) t.slots key refl (ap (names_parent p) is ∙ ap (λ (o : Option ℕ). is_named o p) named ∙ eq-eqb p p refl)

-- where a handle's record leads up to
above_named : (t : Records) (h : Handle) (r : Record) → record_at t h.key ≡ Some r → r.serial ≡ h.serial → above t h ≡ option_and_then (handle_of t) (parent_in (Some r.kind))
above_named t h r is number =
    let there : record_of t h ≡ Some r = ap (option_and_then (if_numbered h.serial)) is ∙ ap (λ (b : Bool). if b then Some r else None) (eq-eqb r.serial h.serial number) in
    ap (λ (o : Option Record). option_and_then (handle_of t) (parent_in (option_map (λ (x : Record). x.kind) o))) there

-- a number whose completer is kept has a handle
has_handle : (t : Records) (n : ℕ) → HasCompleter t n → handle_of t n ≡ None → ⊥
has_handle t n had none = go (entry_of t n) refl
  where
    go : (o : Option (ℕ × Record)) → entry_of t n ≡ o → ⊥
    go None missing = absent_from t n had.key had.there missing had.is had.number
    go (Some e) found = none-some _ (sym none ∙ ap (option_map (λ (e : ℕ × Record). record { key = e.0; serial = n })) found)

-- without a kept parent none is named
pub none_above : (t : Records) (h : Handle) (r : Record) → IsSound t → record_at t h.key ≡ Some r → r.serial ≡ h.serial → above t h ≡ None → parent_in (Some r.kind) ≡ None
none_above t h r sound is number none = go (parent_in (Some r.kind)) refl
  where
    go : (o : Option ℕ) → parent_in (Some r.kind) ≡ o → parent_in (Some r.kind) ≡ None
    go None named = named
    go (Some p) named = absurd (has_handle t p (sound.parents h.key r p is named) (sym (ap (option_and_then (handle_of t)) named) ∙ sym (above_named t h r is number) ∙ none))

-- the parent of a record, which is another record
pub record IsParent (t : Records) (h p : Handle) (r s : Record) : Type 0 where
  pub named : parent_in (Some r.kind) ≡ Some p.serial
  pub is : record_at t p.key ≡ Some s
  pub number : s.serial ≡ p.serial
  pub apart : p.key ≢ h.key
  pub has : 1 ≤ s.children

pub parent_above : (t : Records) (h p : Handle) (r : Record) → IsSound t → record_at t h.key ≡ Some r → r.serial ≡ h.serial → above t h ≡ Some p → (s : Record) × IsParent t h p r s
parent_above t h p r sound is number up = go (parent_in (Some r.kind)) refl (sym (above_named t h r is number) ∙ up)
  where
    go : (o : Option ℕ) → parent_in (Some r.kind) ≡ o → option_and_then (handle_of t) (parent_in (Some r.kind)) ≡ Some p → (s : Record) × IsParent t h p r s
    go None named found = absurd (none-some p (sym (ap (option_and_then (handle_of t)) named) ∙ found))
    go (Some n) named found = of_entry (entry_of t n) refl (sym (ap (option_and_then (handle_of t)) named) ∙ found)
      where
        of_entry : (o : Option (ℕ × Record)) → entry_of t n ≡ o → handle_of t n ≡ Some p → (s : Record) × IsParent t h p r s
        of_entry None missing found = absurd (none-some p (sym (ap (option_map (λ (e : ℕ × Record). record { key = e.0; serial = n })) missing) ∙ found))
        of_entry (Some e) entry found =
            let there = entry_is t n e entry in
            let handle : record { key = e.0; serial = n } ≡ p = same_Some _ p (sym (ap (option_map (λ (e : ℕ × Record). record { key = e.0; serial = n })) entry) ∙ found) in
            let at : record_at t p.key ≡ Some e.1 = sym (ap (λ (x : Handle). record_at t x.key) handle) ∙ there.0 in
            let same_number : n ≡ p.serial = ap (λ (x : Handle). x.serial) handle in (
              e.1,
              record {
                named = named ∙ ap Some same_number;
                is = at;
                number = there.1 ∙ same_number;
                apart = λ same.
                    let one : e.1 ≡ r = same_Some e.1 r (sym at ∙ ap (record_at t) same ∙ is) in
                    omega (arith, (sound.each h.key r is).parent n named, there.1, ap (λ (x : Record). x.serial) one);
                has = omega (arith, has_child t h.key r n is named, sound.children p.key e.1 at ∙ ap (children_of t) there.1);
              },
            )

-- it is a completer
pub completer_above : (t : Records) (h p : Handle) → IsSound t → IsGood t h → above t h ≡ Some p → IsCompleter t p
completer_above t h p sound good up =
    let named = named_record t h good in
    let parent = parent_above t h p named.0 sound named.1 named.2 up in
    let had = sound.parents h.key named.0 p.serial named.1 parent.1.named in
    let key : p.key ≡ had.key = sound.once p.key had.key parent.0 had.there parent.1.is had.is (parent.1.number ∙ sym had.number) in
    let same : parent.0 ≡ had.there = same_Some parent.0 had.there (sym parent.1.is ∙ ap (record_at t) key ∙ had.is) in
    let there : record_of t p ≡ Some parent.0 =
    ap (option_and_then (if_numbered p.serial)) parent.1.is ∙ ap (λ (b : Bool). if b then Some parent.0 else None) (eq-eqb parent.0.serial p.serial parent.1.number) in
    rw there (ap (λ (r : Record). is_completer_kind (Some r.kind)) same ∙ had.completer)

pub completers_above : (t : Records) (h : Handle) → IsSound t → IsGood t h → IfSome (above t h) (IsCompleter t)
completers_above t h sound good = go (above t h) refl
  where
    go : (o : Option Handle) → above t h ≡ o → IfSome (above t h) (IsCompleter t)
    go None none = rw none tt
    go (Some p) up = subst (λ (o : Option Handle). IfSome o (IsCompleter t)) (sym up) (completer_above t h p sound good up)
