-- A record is put in, and counted as a child of its parent.
use Rattle.std.specs.Prelude.{option_map, if◌then◌else◌, IsTrue}
use Rattle.std.proofs.Common.{arith, cond, nat_eq, Bool, true, false, Option, Some, None, ℕ, ◌≡◌, ◌≢◌, ◌+◌, ◌<◌, ◌≤◌, ap, sym, ◌∙◌, refl, inl, inr, subst}
use Rattle.std.proofs.lemmas.Bool.{cases_eq, eqb-true}
use Rattle.std.proofs.lemmas.Option.{same_Some, none-some}
use Rattle.slab.specs.Slab.{Slab, Updates, get, slab_len}
use Rattle.fj_rules.specs.declared.limits.TheConstants.{MAX_PENDING}
use Rattle.fj_rules.specs.declared.kind.Kind.{Kind}
use Rattle.fj_rules.specs.declared.place.Place.{Place}
use Rattle.fj_rules.specs.declared.status.Status.TheVariants.{Undone}
use Rattle.fj_rules.specs.Tasks.{parent_in, count_in, is_completer_kind}
use Rattle.fj_tree.specs.declared.record.Record.{Record}
use Rattle.fj_tree.specs.Handles.{Handle}
use Rattle.fj_tree.specs.Makes.{fresh, with_child, with_child_of}
use Rattle.fj_tree.specs.Records.{Records, IsSound, IsSoundRecord, IsCompleter, HasCompleter, changed, record_at, count, is_named, names_parent, children_of}
use Rattle.fj_tree.proofs.Records.Children.{changed_other, one_changed, no_child}
use Rattle.fj_tree.proofs.Records.Counts.{count_filled, count_none}
use Rattle.fj_tree.proofs.Index.Finds.{named_record, of_record, good_completer}
use Rattle.fj_tree.proofs.Records.Writes.{count_changed, slot_within}

-- the handle of a completer names one that is kept
pub completer_kept : (t : Records) (h : Handle) → IsCompleter t h → HasCompleter t h.serial
completer_kept t h is =
    let named = named_record t h (good_completer t h is) in
    record { key = h.key; there = named.0; is = named.1; number = named.2; completer = of_record t h named.0 (λ r. IsTrue (is_completer_kind (Some r.kind))) named.1 is }

-- a new record of this kind is put in at this key, and counted
pub record HasGrown (t now : Records) (key : ℕ) (kind : Kind) (place : Place) : Type 0 where
  pub vacant : record_at t key ≡ None
  pub new : record_at now key ≡ Some (fresh t.made kind place)
  pub others : (k : ℕ) → k ≢ key → record_at now k ≡ option_map (with_child_of (parent_in (Some kind))) (record_at t k)
  pub made : now.made ≡ t.made + 1
  pub room : count now ≤ now.room
  pub pending : count_in (Some kind) ≤ MAX_PENDING
  pub parent : (p : ℕ) → parent_in (Some kind) ≡ Some p → HasCompleter t p

-- a record with the child counted
child_name : (parent : Option ℕ) (r : Record) → ((with_child_of parent r).serial ≡ r.serial) × ((with_child_of parent r).kind ≡ r.kind) × ((with_child_of parent r).pending ≡ r.pending)
child_name parent r = go (is_named parent r.serial)
  where
    go : (b : Bool) → ((if b then with_child r else r).serial ≡ r.serial) × ((if b then with_child r else r).kind ≡ r.kind) × ((if b then with_child r else r).pending ≡ r.pending)
    go true = (refl, refl, refl)
    go false = (refl, refl, refl)

child_count : (parent : Option ℕ) (r : Record) → (with_child_of parent r).children ≡ r.children + cond (is_named parent r.serial) 1 0
child_count parent r = go (is_named parent r.serial)
  where
    go : (b : Bool) → (if b then with_child r else r).children ≡ r.children + cond b 1 0
    go true = refl
    go false = omega arith

at_most_one : (b : Bool) → cond b 1 0 ≤ 1
at_most_one true = omega arith
at_most_one false = omega arith

-- all records are sound with it
pub sound_grown : (t now : Records) (key : ℕ) (kind : Kind) (place : Place) → IsSound t → HasGrown t now key kind place → IsSound now
sound_grown t now key kind place sound grown = record { each = each; once = once; children = children; parents = parents; room = grown.room }
  where
    -- a record at another key, and what it was
    before : (k : ℕ) (r : Record) → k ≢ key → record_at now k ≡ Some r → (old : Record) × (record_at t k ≡ Some old) × (r ≡ with_child_of (parent_in (Some kind)) old)
    before k r differs is = go (record_at t k) refl (sym (grown.others k differs) ∙ is)
      where
        go : (o : Option Record) → record_at t k ≡ o → option_map (with_child_of (parent_in (Some kind))) (record_at t k) ≡ Some r → (old : Record) × (record_at t k ≡ Some old) × (r ≡ with_child_of (parent_in (Some kind)) old)
        go None was same = absurd (none-some r (sym (ap (option_map (with_child_of (parent_in (Some kind)))) was) ∙ same))
        go (Some old) was same = (old, was, sym (same_Some (with_child_of (parent_in (Some kind)) old) r (sym (ap (option_map (with_child_of (parent_in (Some kind)))) was) ∙ same)))

    is_new : (k : ℕ) (r : Record) → k ≡ key → record_at now k ≡ Some r → fresh t.made kind place ≡ r
    is_new k r at is = same_Some (fresh t.made kind place) r (sym grown.new ∙ ap (record_at now) (sym at) ∙ is)

    older : (p : ℕ) → parent_in (Some kind) ≡ Some p → p < t.made
    older p named = let had = grown.parent p named in omega (arith, (sound.each had.key had.there had.is).number, had.number)

    each : (k : ℕ) (r : Record) → record_at now k ≡ Some r → IsSoundRecord now.made r
    each k r is = elim (cases_eq k key) [
      | inl at ↦
          let good : IsSoundRecord now.made (fresh t.made kind place) = record { number = omega (arith, grown.made); parent = older; pending = grown.pending; children = omega arith } in
          subst (λ (x : Record). IsSoundRecord now.made x) (is_new k r at is) good
      | inr differs ↦
          let old = before k r differs is in
          let was = sound.each k old.0 old.1 in
          let name = child_name (parent_in (Some kind)) old.0 in
          let more : cond (is_named (parent_in (Some kind)) old.0.serial) 1 0 ≤ 1 = at_most_one (is_named (parent_in (Some kind)) old.0.serial) in
          let good : IsSoundRecord now.made (with_child_of (parent_in (Some kind)) old.0) = record {
            number = omega (arith, was.number, name.0, grown.made);
            parent = λ p named. omega (arith, was.parent p (ap (λ (k : Kind). parent_in (Some k)) (sym name.1) ∙ named), name.0);
            pending = omega (arith, was.pending, name.2);
            children = omega (arith, was.children, child_count (parent_in (Some kind)) old.0, more, grown.made);
          } in
          subst (λ (x : Record). IsSoundRecord now.made x) (sym old.2) good
    ]

    once : (k l : ℕ) (r s : Record) → record_at now k ≡ Some r → record_at now l ≡ Some s → r.serial ≡ s.serial → k ≡ l
    once k l r s is_r is_s same = elim (cases_eq k key) [
      | inl at_k ↦ elim (cases_eq l key) [
        | inl at_l ↦ at_k ∙ sym at_l
        | inr differs_l ↦
            let old = before l s differs_l is_s in
            absurd (omega (arith, (sound.each l old.0 old.1).number, (child_name (parent_in (Some kind)) old.0).0, ap (λ (x : Record). x.serial) old.2, ap (λ (x : Record). x.serial) (is_new k r at_k is_r), same))
      ]
      | inr differs_k ↦ elim (cases_eq l key) [
        | inl at_l ↦
            let old = before k r differs_k is_r in
            absurd (omega (arith, (sound.each k old.0 old.1).number, (child_name (parent_in (Some kind)) old.0).0, ap (λ (x : Record). x.serial) old.2, ap (λ (x : Record). x.serial) (is_new l s at_l is_s), same))
        | inr differs_l ↦
            let old_r = before k r differs_k is_r in
            let old_s = before l s differs_l is_s in
            sound.once k l old_r.0 old_s.0 old_r.1 old_s.1
            (sym (child_name (parent_in (Some kind)) old_r.0).0 ∙ sym (ap (λ (x : Record). x.serial) old_r.2) ∙ same ∙ ap (λ (x : Record). x.serial) old_s.2 ∙ (child_name (parent_in (Some kind)) old_s.0).0)
      ]
    ]

    -- the other slots name the parents that they named
    names : (n k : ℕ) → k ≢ key → names_parent n (record_at now k) ≡ names_parent n (record_at t k)
    names n k differs = ap (names_parent n) (grown.others k differs) ∙ go (record_at t k)
      where
        go : (o : Option Record) → names_parent n (option_map (with_child_of (parent_in (Some kind))) o) ≡ names_parent n o
        go None = refl
        go (Some r) = ap (λ (x : Kind). is_named (parent_in (Some x)) n) (child_name (parent_in (Some kind)) r).1

    -- so each number has the children that it had, and one more where it is named
    counts : (n : ℕ) → children_of now n ≡ children_of t n + cond (is_named (parent_in (Some kind)) n) 1 0
    counts n =
        count_filled (names_parent n) t.slots now.slots key refl grown.vacant (slot_within now.slots key (fresh t.made kind place) grown.new) (names n)
        ∙ ap (λ (o : Option Record). children_of t n + cond (names_parent n o) 1 0) grown.new

    -- nothing names the number of the new record
    unnamed : (n : ℕ) → n ≡ t.made → is_named (parent_in (Some kind)) n ≡ false
    unnamed n same = go (parent_in (Some kind)) refl
      where
        go : (o : Option ℕ) → parent_in (Some kind) ≡ o → is_named o n ≡ false
        go None named = refl
        go (Some p) named = which (nat_eq n p) refl
          where
            which : (b : Bool) → nat_eq n p ≡ b → nat_eq n p ≡ false
            which true e = absurd (omega (arith, older p named, eqb-true n p e, same))
            which false e = e

    childless : children_of t t.made ≡ 0
    childless = count_none (names_parent t.made) t.slots refl (λ k. go k (record_at t k) refl)
      where
        go : (k : ℕ) (o : Option Record) → record_at t k ≡ o → names_parent t.made (record_at t k) ≡ false
        go k None is = ap (names_parent t.made) is
        go k (Some r) is = ap (names_parent t.made) is ∙ of_parent (parent_in (Some r.kind)) refl
          where
            of_parent : (o : Option ℕ) → parent_in (Some r.kind) ≡ o → is_named o t.made ≡ false
            of_parent None named = refl
            of_parent (Some p) named = which (nat_eq t.made p) refl
              where
                which : (b : Bool) → nat_eq t.made p ≡ b → nat_eq t.made p ≡ false
                which true e = let was = sound.each k r is in absurd (omega (arith, was.parent p named, was.number, eqb-true t.made p e))
                which false e = e

    children : (k : ℕ) (r : Record) → record_at now k ≡ Some r → r.children ≡ children_of now r.serial
    children k r is = elim (cases_eq k key) [
      | inl at ↦
          let new = is_new k r at is in
          let none : children_of now t.made ≡ 0 = counts t.made ∙ ap {B = ℕ} (λ (b : Bool). children_of t t.made + cond b 1 0) (unnamed t.made refl) ∙ omega (arith, childless) in
          sym (ap (λ (x : Record). x.children) new) ∙ sym none ∙ ap (λ (x : Record). children_of now x.serial) new
      | inr differs ↦
          let old = before k r differs is in
          ap (λ (x : Record). x.children) old.2 ∙ child_count (parent_in (Some kind)) old.0
          ∙ ap (λ (n : ℕ). n + cond (is_named (parent_in (Some kind)) old.0.serial) 1 0) (sound.children k old.0 old.1)
          ∙ sym (counts old.0.serial)
          ∙ ap (children_of now) (sym (ap (λ (x : Record). x.serial) old.2 ∙ (child_name (parent_in (Some kind)) old.0).0))
    ]

    -- a completer that was kept is kept
    still : (p : ℕ) → HasCompleter t p → HasCompleter now p
    still p had =
        let differs : had.key ≢ key = λ same. none-some had.there (sym grown.vacant ∙ ap (record_at t) (sym same) ∙ had.is) in
        let name = child_name (parent_in (Some kind)) had.there in
        record {
          key = had.key;
          there = with_child_of (parent_in (Some kind)) had.there;
          is = grown.others had.key differs ∙ ap (option_map (with_child_of (parent_in (Some kind)))) had.is;
          number = name.0 ∙ had.number;
          completer = ap (λ (x : Kind). is_completer_kind (Some x)) name.1 ∙ had.completer;
        }

    parents : (k : ℕ) (r : Record) (p : ℕ) → record_at now k ≡ Some r → parent_in (Some r.kind) ≡ Some p → HasCompleter now p
    parents k r p is named = elim (cases_eq k key) [
      | inl at ↦ still p (grown.parent p (ap (λ (x : Record). parent_in (Some x.kind)) (is_new k r at is) ∙ named))
      | inr differs ↦
          let old = before k r differs is in
          still p (sound.parents k old.0 p old.1 (sym (ap (λ (x : Kind). parent_in (Some x)) (child_name (parent_in (Some kind)) old.0).1) ∙ sym (ap (λ (x : Record). parent_in (Some x.kind)) old.2) ∙ named))
    ]

-- what is put in, before its parent is looked at
pub record IsPutIn (t u : Records) (key : ℕ) (kind : Kind) (place : Place) : Type 0 where
  pub vacant : record_at t key ≡ None
  pub new : record_at u key ≡ Some (fresh t.made kind place)
  pub others : (k : ℕ) → k ≢ key → record_at u k ≡ record_at t k
  pub made : u.made ≡ t.made + 1
  pub room : count u ≤ u.room
  pub pending : count_in (Some kind) ≤ MAX_PENDING

-- without a parent that is all
pub grown_alone : (t u : Records) (key : ℕ) (kind : Kind) (place : Place) → IsPutIn t u key kind place → parent_in (Some kind) ≡ None → HasGrown t u key kind place
grown_alone t u key kind place put none = record {
  vacant = put.vacant;
  new = put.new;
  others = λ k differs. put.others k differs ∙ no_child (record_at t k) ∙ ap (λ (o : Option ℕ). option_map (with_child_of o) (record_at t k)) (sym none);
  made = put.made;
  room = put.room;
  pending = put.pending;
  parent = λ p named. absurd (none-some p (sym none ∙ named));
}

-- with a parent, that one gets a child more
pub grown_below : (t u : Records) (key : ℕ) (kind : Kind) (place : Place) (p : Handle) → IsSound t → IsPutIn t u key kind place → parent_in (Some kind) ≡ Some p.serial → IsCompleter t p
    → HasGrown t (changed u p.key with_child) key kind place
grown_below t u key kind place p sound put named is = record {
  vacant = put.vacant;
  new = changed_other u p.key key with_child (λ same. apart (sym same)) ∙ put.new;
  others = λ k differs.
      one_changed t u p k with_child sound (good_completer t p is) (put.others k differs) (put.others p.key apart) ∙ ap (λ (o : Option ℕ). option_map (with_child_of o) (record_at t k)) (sym named);
  made = put.made;
  room = omega (arith, count_changed u p.key there.0 with_child (put.others p.key apart ∙ there.1), put.room);
  pending = put.pending;
  parent = λ q also. subst (λ (n : ℕ). HasCompleter t n) (same_Some p.serial q (sym named ∙ also)) (completer_kept t p is);
}
  where
    there : (r : Record) × (record_at t p.key ≡ Some r) × (r.serial ≡ p.serial)
    there = named_record t p (good_completer t p is)

    apart : p.key ≢ key
    apart = λ same. none-some there.0 (sym put.vacant ∙ ap (record_at t) (sym same) ∙ there.1)

-- an insert into the slab puts it in
pub put_in : (old new : Slab Record) (made room key pending : ℕ) (kind : Kind) (place : Place) → get old key ≡ None
    → Updates old new key (Some (record { serial = made; kind = kind; place = place; status = Undone; pending = pending; fired = false; children = 0 })) → slab_len new ≡ slab_len old + 1 → slab_len old < room
    → pending ≡ count_in (Some kind) → count_in (Some kind) ≤ MAX_PENDING
    → IsPutIn (record { slots = old.slots; made = made; room = room }) (record { slots = new.slots; made = made + 1; room = room }) key kind place
put_in old new made room key pending kind place vacant updates more few counts small = record {
  vacant = vacant;
  new = updates.changed ∙ ap (λ (n : ℕ). Some (record { serial = made; kind = kind; place = place; status = Undone; pending = n; fired = false; children = 0 })) counts;
  others = updates.others;
  made = refl;
  room = omega (arith, more, few);
  pending = small;
}
