-- One record is read or changed.
use Rattle.fj_rules.specs.declared.limits.TheConstants.{MAX_PENDING}
use Rattle.fj_rules.specs.declared.place.Place.{Place}
use Rattle.fj_rules.specs.declared.status.Status.{Status}
use Rattle.fj_tree.specs.declared.record.Record.{Record}
use Rattle.fj_tree.specs.declared.arrive.Arrived.{Arrived}
use Rattle.fj_tree.specs.declared.arrive.Arrived.TheVariants.{Counted, Fire, Spent, Early}
use Rattle.fj_tree.specs.Arrivals.{arrived}
use Rattle.fj_rules.specs.declared.kind.Kind.{Kind}
use Rattle.fj_rules.specs.Tasks.{parent_in, is_completer_kind}
use Rattle.fj_tree.specs.Records.{Records, IsSound, IsSoundRecord, HasCompleter, changed, record_at, count, is_named, names_parent}
use Rattle.fj_tree.proofs.Records.Counts.{count_alike}
use Rattle.std.specs.Prelude.{is_some, option_map}
use Rattle.std.specs.List.{count_by}
use Rattle.std.proofs.Common.{arith, cond, Bool, Option, Some, None, ℕ, ◌≡◌, ◌≢◌, ◌<◌, ◌≤◌, List, length, get_or, ap, sym, ◌∙◌, refl, subst, inl, inr}
use Rattle.std.proofs.Math.ListN.{set}
use Rattle.std.proofs.lemmas.Bool.{cases_eq}
use Rattle.std.proofs.lemmas.Option.{same_Some}
use Rattle.std.proofs.lemmas.List.{get_or-set_same, get_or-set_other, get_or_past}
use Rattle.std.proofs.lemmas.List.Sums.{sum_by-set}

-- a key with a record has a slot
pub slot_within : (slots : List (Option Record)) (key : ℕ) (r : Record) → get_or slots key None ≡ Some r → key < length slots
slot_within slots key r is = grind (arith, get_or_past)

-- as many records are kept after one of them was written
pub count_written : (slots : List (Option Record)) (key : ℕ) (r new : Record) → get_or slots key None ≡ Some r
    → count_by is_some (set slots key (Some new)) ≡ count_by is_some slots
count_written slots key r new is =
    let within = slot_within slots key r is in
    let both = sum_by-set (λ o. cond (is_some o) 1 0) slots key (Some new) None within in
    let one : ◌≡◌ {A = ℕ} (cond (is_some (get_or slots key None)) 1 0) 1 = rw is refl in
    omega (arith, both, one)

-- and where one is changed
pub count_changed : (t : Records) (key : ℕ) (r : Record) (change : Record → Record) → record_at t key ≡ Some r → count (changed t key change) ≡ count t
count_changed t key r change is = ap (λ (o : Option Record). count_by is_some (set t.slots key (option_map change o))) is ∙ count_written t.slots key r (change r) is

-- all records stay sound where one of them is written, and keeps its number, its kind and its count of children
pub sound_written : (t : Records) (key : ℕ) (r new : Record) → IsSound t → record_at t key ≡ Some r → IsSoundRecord t.made new → new.serial ≡ r.serial → new.kind ≡ r.kind → new.children ≡ r.children
    → IsSound (record t { slots = set t.slots key (Some new) })
sound_written t key r new sound is good same same_kind same_children = record { each = each; once = once; children = children; parents = parents; room = room }
  where
    slots : List (Option Record)
    slots = set t.slots key (Some new)

    here : get_or slots key None ≡ Some new
    here = get_or-set_same t.slots key (Some new) None (slot_within t.slots key r is)

    other : (k : ℕ) → k ≢ key → get_or slots k None ≡ record_at t k
    other k differs = get_or-set_other t.slots key k (Some new) None differs

    -- the record that was there before, with the same number, kind and count of children
    before : (k : ℕ) (s : Record) → get_or slots k None ≡ Some s → (old : Record) × (record_at t k ≡ Some old) × (s.serial ≡ old.serial) × (s.kind ≡ old.kind) × (s.children ≡ old.children)
    before k s now = elim (cases_eq k key) [
      | inl at ↦
          let is_new : s ≡ new = same_Some s new (sym now ∙ ap (λ (i : ℕ). get_or slots i None) at ∙ here) in
          (r, rw at is, ap (λ (x : Record). x.serial) is_new ∙ same, ap (λ (x : Record). x.kind) is_new ∙ same_kind, ap (λ (x : Record). x.children) is_new ∙ same_children)
      | inr differs ↦ (s, sym (other k differs) ∙ now, refl, refl, refl)
    ]

    each : (k : ℕ) (s : Record) → get_or slots k None ≡ Some s → IsSoundRecord t.made s
    each k s now = elim (cases_eq k key) [
      | inl at ↦ let is_new : new ≡ s = sym (same_Some s new (sym now ∙ ap (λ (i : ℕ). get_or slots i None) at ∙ here)) in subst (λ (x : Record). IsSoundRecord t.made x) is_new good
      | inr differs ↦ sound.each k s (sym (other k differs) ∙ now)
    ]

    once : (k l : ℕ) (s u : Record) → get_or slots k None ≡ Some s → get_or slots l None ≡ Some u → s.serial ≡ u.serial → k ≡ l
    once k l s u at_k at_l alike =
        let old_s = before k s at_k in
        let old_u = before l u at_l in
        sound.once k l old_s.0 old_u.0 old_s.1 old_u.1 (sym old_s.2 ∙ alike ∙ old_u.2)

    -- each slot names the parent that it named
    names : (n k : ℕ) → names_parent n (get_or slots k None) ≡ names_parent n (record_at t k)
    names n k = elim (cases_eq k key) [
      | inl at ↦
          ap (λ (i : ℕ). names_parent n (get_or slots i None)) at ∙ ap (names_parent n) here ∙ ap (λ (kind : Kind). is_named (parent_in (Some kind)) n) same_kind
          ∙ sym (ap (λ (i : ℕ). names_parent n (record_at t i)) at ∙ ap (names_parent n) is)
      | inr differs ↦ ap (names_parent n) (other k differs)
    ]

    children : (k : ℕ) (s : Record) → get_or slots k None ≡ Some s → s.children ≡ count_by (names_parent s.serial) slots
    children k s now =
        let old = before k s now in
        old.4 ∙ sound.children k old.0 old.1 ∙ ap (λ (n : ℕ). count_by (names_parent n) t.slots) (sym old.2)
        ∙ sym (count_alike (names_parent s.serial) (names_parent s.serial) slots t.slots refl refl (names s.serial))

    parents : (k : ℕ) (s : Record) (p : ℕ) → get_or slots k None ≡ Some s → parent_in (Some s.kind) ≡ Some p → HasCompleter (record t { slots = slots }) p
    parents k s p now named =
        let old = before k s now in
        let had = sound.parents k old.0 p old.1 (ap (λ (kind : Kind). parent_in (Some kind)) (sym old.3) ∙ named) in
        elim (cases_eq had.key key) [
          | inl at ↦
              let is_old : r ≡ had.there = same_Some r had.there (sym is ∙ ap (record_at t) (sym at) ∙ had.is) in
              record {
                key = key;
                there = new;
                is = here;
                number = same ∙ ap (λ (x : Record). x.serial) is_old ∙ had.number;
                completer = ap (λ (kind : Kind). is_completer_kind (Some kind)) (same_kind ∙ ap (λ (x : Record). x.kind) is_old) ∙ had.completer;
              }
          | inr differs ↦ record { key = had.key; there = had.there; is = other had.key differs ∙ had.is; number = had.number; completer = had.completer }
        ]

    room : count_by is_some slots ≤ t.room
    room = omega (arith, sound.room, count_written t.slots key r new is)

-- and where its place, its status or its mark is written
pub sound_marked : (t : Records) (key : ℕ) (r : Record) (p : Place) (s : Status) (fired : Bool) → IsSound t → record_at t key ≡ Some r
    → IsSound (record t { slots = set t.slots key (Some (record r { place = p; status = s; fired = fired })) })
sound_marked t key r p s fired sound is =
    let old = sound.each key r is in
    let good : IsSoundRecord t.made (record r { place = p; status = s; fired = fired }) = record { number = old.number; parent = old.parent; pending = old.pending; children = old.children } in
    sound_written t key r (record r { place = p; status = s; fired = fired }) sound is good refl refl refl

-- an arrival keeps the number
pub arrived_number : (a : Arrived) (r : Record) → (arrived a r).serial ≡ r.serial
arrived_number Counted r = refl
arrived_number Fire r = refl
arrived_number Spent r = refl
arrived_number Early r = refl

-- and where a completer is arrived at
pub sound_arrived : (t : Records) (key : ℕ) (r : Record) (a : Arrived) → IsSound t → record_at t key ≡ Some r
    → IsSound (record t { slots = set t.slots key (Some (arrived a r)) })
sound_arrived t key r a sound is = sound_written t key r (arrived a r) sound is (good a) (arrived_number a r) (same_kind a) (same_children a)
  where
    old : IsSoundRecord t.made r
    old = sound.each key r is

    good : (a : Arrived) → IsSoundRecord t.made (arrived a r)
    good Counted = record { number = old.number; parent = old.parent; pending = omega (arith, old.pending); children = old.children }
    good Fire = record { number = old.number; parent = old.parent; pending = old.pending; children = old.children }
    good Spent = old
    good Early = old

    same_kind : (a : Arrived) → (arrived a r).kind ≡ r.kind
    same_kind Counted = refl
    same_kind Fire = refl
    same_kind Spent = refl
    same_kind Early = refl

    same_children : (a : Arrived) → (arrived a r).children ≡ r.children
    same_children Counted = refl
    same_children Fire = refl
    same_children Spent = refl
    same_children Early = refl

-- and where its pending count is written
pub sound_counted : (t : Records) (key : ℕ) (r : Record) (count : ℕ) → IsSound t → record_at t key ≡ Some r → count ≤ MAX_PENDING
    → IsSound (record t { slots = set t.slots key (Some (record r { pending = count })) })
sound_counted t key r count sound is small =
    let old = sound.each key r is in
    let good : IsSoundRecord t.made (record r { pending = count }) = record { number = old.number; parent = old.parent; pending = small; children = old.children } in
    sound_written t key r (record r { pending = count }) sound is good refl refl refl
