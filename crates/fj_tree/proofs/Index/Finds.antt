-- The record of a number.
use Rattle.slab.specs.Slab.{Slab, entries_from}
use Rattle.slab.proofs.SlabLemmas.{Contains-cons, Contains-cons_cases, Contains-entries}
use Rattle.fj_tree.specs.declared.record.Record.{Record}
use Rattle.fj_tree.specs.Handles.{Handle}
use Rattle.fj_tree.specs.Records.{Records, record_at, record_of, if_numbered, entry_of, handle_of, IsGood, IsCompleter, IsSound}
use Rattle.fj_rules.specs.Tasks.{is_completer_kind}
use Rattle.fj_rules.specs.declared.refusal.Refusal.TheVariants.{NotCompleter}
use Rattle.fj_tree.specs.Makes.{completer_refusal, parent_refusal}
use Rattle.std.specs.Prelude.{IsSomeAnd, option_map}
use Rattle.std.proofs.lemmas.Bool.{eqb-true}
use Rattle.std.proofs.lemmas.Option.{same_Some}
use Rattle.std.specs.List.{find}
use Rattle.std.proofs.Common.{arith, cond, nat_eq, Bool, true, false, Option, Some, None, ◌==◌, ℕ, ◌≡◌, ◌<◌, ◌⊎◌, List, [], ◌∷◌, Contains, eq-eqb, true≢false, ap, sym, ◌∙◌, refl, inl, inr}

-- where no entry is found, none has the number
pub none_numbered : (es : List (ℕ × Record)) (n : ℕ) → find (λ e. e.1.serial == n) es ≡ None → (x : ℕ × Record) → Contains es x → nat_eq x.1.serial n ≡ false
none_numbered [] n none x listed = absurd (omega (arith, listed.1))
none_numbered (e ∷ es) n none x listed = go (λ later. none_numbered es n later x) (nat_eq e.1.serial n) refl none (Contains-cons_cases e x es listed)
  where
    go : (find (λ e. e.1.serial == n) es ≡ None → Contains es x → nat_eq x.1.serial n ≡ false) → (b : Bool) → nat_eq e.1.serial n ≡ b → cond (nat_eq e.1.serial n) (Some e) (find (λ e. e.1.serial == n) es) ≡ None → (e ≡ x) ⊎ Contains es x → nat_eq x.1.serial n ≡ false
    go others true is none where_it_is = let found = rw is at none in absurd (cc)
    go others false is none (inl same) = ap (λ (y : ℕ × Record). nat_eq y.1.serial n) (sym same) ∙ is
    go others false is none (inr later) = others (rw is at none) later

-- a handle is good where its key has a record of its number
pub good_at : (t : Records) (h : Handle) (r : Record) → record_at t h.key ≡ Some r → nat_eq r.serial h.serial ≡ true → IsGood t h
good_at t h r is hit = rw (is, hit) refl

-- a slab of these records
abbrev pub slab_of : Records → Slab Record
slab_of t = record { slots = t.slots; vacant_key = 0; capacity = 0 }

-- where no entry is found, no record has the number
pub absent_from : (t : Records) (n key : ℕ) (r : Record) → entry_of t n ≡ None → record_at t key ≡ Some r → r.serial ≡ n → ⊥
absent_from t n key r none is same = true≢false (sym (eq-eqb r.serial n same) ∙ none_numbered (entries_from 0 t.slots) n none (key, r) ((Contains-entries (slab_of t) key r).1 is))

-- an entry that is found has the number
pub found_numbered : (es : List (ℕ × Record)) (n : ℕ) (x : ℕ × Record) → find (λ e. e.1.serial == n) es ≡ Some x → nat_eq x.1.serial n ≡ true
found_numbered [] n x found = absurd (cc)
found_numbered (e ∷ es) n x found = go (found_numbered es n x) (nat_eq e.1.serial n) refl found
  where
    go : (find (λ e. e.1.serial == n) es ≡ Some x → nat_eq x.1.serial n ≡ true) → (b : Bool) → nat_eq e.1.serial n ≡ b
        → cond (nat_eq e.1.serial n) (Some e) (find (λ e. e.1.serial == n) es) ≡ Some x → nat_eq x.1.serial n ≡ true
    go others true is found = ap (λ (y : ℕ × Record). nat_eq y.1.serial n) (sym (same_Some e x (rw is at found))) ∙ is
    go others false is found = others (rw is at found)

-- and is listed
pub found_listed : (es : List (ℕ × Record)) (n : ℕ) (x : ℕ × Record) → find (λ e. e.1.serial == n) es ≡ Some x → Contains es x
found_listed [] n x found = absurd (cc)
found_listed (e ∷ es) n x found = go (found_listed es n x) (nat_eq e.1.serial n) refl found
  where
    go : (find (λ e. e.1.serial == n) es ≡ Some x → Contains es x) → (b : Bool) → nat_eq e.1.serial n ≡ b
        → cond (nat_eq e.1.serial n) (Some e) (find (λ e. e.1.serial == n) es) ≡ Some x → Contains (e ∷ es) x
    go others true is found = (0, omega arith, same_Some e x (rw is at found))
    go others false is found = Contains-cons e x es (others (rw is at found))

-- the entry of a handle that is found
pub entry_found : (t : Records) (n : ℕ) (h : Handle) (r : Record) → handle_of t n ≡ Some h → record_at t h.key ≡ Some r → option_map (λ e. e.1) (entry_of t n) ≡ Some r
entry_found t n h r found is = go (entry_of t n) refl
  where
    go : (e : Option (ℕ × Record)) → entry_of t n ≡ e → option_map (λ e. e.1) (entry_of t n) ≡ Some r
    go None none = let found_none = rw none at found in absurd (cc)
    go (Some e) some =
        let same : e.0 ≡ h.key = ap (λ (x : Handle). x.key) (same_Some _ h (rw some at found)) in
        let there : record_at t e.0 ≡ Some e.1 = (Contains-entries (slab_of t) e.0 e.1).0 (found_listed (entries_from 0 t.slots) n e some) in
        rw some (sym there ∙ ap (record_at t) same ∙ is)

-- why a parent that is found is refused, if it is
pub parent_found : (t : Records) (n : ℕ) (h : Handle) (r : Record) (b : Bool) → handle_of t n ≡ Some h → record_at t h.key ≡ Some r → is_completer_kind (Some r.kind) ≡ b
    → parent_refusal t (Some n) ≡ cond b None (Some NotCompleter)
parent_found t n h r b found is which = ap completer_refusal (entry_found t n h r found is) ∙ ap (λ (b : Bool). cond b None (Some NotCompleter)) which

-- what is true of the record that a good handle names
pub of_record : (t : Records) (h : Handle) (r : Record) (P : Record → Type 0) → record_at t h.key ≡ Some r → IsSomeAnd (record_of t h) P → P r
of_record t h r P is there = go (nat_eq r.serial h.serial) refl (rw is at there)
  where
    go : (b : Bool) → nat_eq r.serial h.serial ≡ b → IsSomeAnd (if_numbered h.serial r) P → P r
    go true e there = rw e at there
    go false e there = absurd (rw e at there)

-- the record that a good handle names
pub named_record : (t : Records) (h : Handle) → IsGood t h → (r : Record) × (record_at t h.key ≡ Some r) × (r.serial ≡ h.serial)
named_record t h good = go (record_at t h.key) refl
  where
    go : (o : Option Record) → record_at t h.key ≡ o → (r : Record) × (record_at t h.key ≡ Some r) × (r.serial ≡ h.serial)
    go None none = let bad = rw none at good in absurd (cc)
    go (Some r) some = (r, some, which (nat_eq r.serial h.serial) refl)
      where
        which : (b : Bool) → nat_eq r.serial h.serial ≡ b → r.serial ≡ h.serial
        which true e = eqb-true r.serial h.serial e
        which false e = let bad = rw (some, e) at good in absurd (cc)

-- its number is below the number of makes
pub number_of : (t : Records) (h : Handle) → IsSound t → IsGood t h → h.serial < t.made
number_of t h sound good = let named = named_record t h good in omega (arith, (sound.each h.key named.0 named.1).number, named.2)

-- a completer's handle is good
pub good_completer : (t : Records) (h : Handle) → IsCompleter t h → IsGood t h
good_completer t h is = go (record_of t h) refl
  where
    go : (o : Option Record) → record_of t h ≡ o → IsGood t h
    go None none = absurd (rw none at is)
    go (Some r) some = rw some refl

-- its number, and that it is the handle's record
pub numbered : (t : Records) (h : Handle) (r : Record) (P : Record → Type 0) → record_at t h.key ≡ Some r → IsSomeAnd (record_of t h) P → (r.serial ≡ h.serial) × (record_of t h ≡ Some r)
numbered t h r P is there = go (nat_eq r.serial h.serial) refl (rw is at there)
  where
    go : (b : Bool) → nat_eq r.serial h.serial ≡ b → IsSomeAnd (if_numbered h.serial r) P → (r.serial ≡ h.serial) × (record_of t h ≡ Some r)
    go true e there = (eqb-true r.serial h.serial e, rw (is, e) refl)
    go false e there = absurd (rw e at there)
