-- A record is taken out, and counted no more as a child of its parent.
use Rattle.std.specs.Prelude.{option_map, if◌then◌else◌, IsSome, IsSomeAnd}
use Rattle.std.proofs.Common.{arith, cond, Bool, true, false, Option, Some, None, ℕ, ◌≡◌, ◌≢◌, ◌+◌, ◌≤◌, eq-eqb, ap, sym, ◌∙◌, refl, subst}
use Rattle.std.proofs.lemmas.Option.{same_Some, none-some}
use Rattle.slab.specs.Slab.{Slab, Updates, get, slab_len}
use Rattle.fj_rules.specs.declared.kind.Kind.{Kind}
use Rattle.fj_rules.specs.Tasks.{parent_in, is_completer_kind}
use Rattle.fj_tree.specs.declared.record.Record.{Record}
use Rattle.fj_tree.specs.Handles.{Handle}
use Rattle.fj_tree.specs.Paths.{above}
use Rattle.fj_tree.specs.Releases.{without_child, without_child_of}
use Rattle.fj_tree.specs.Records.{Records, IsSound, IsSoundRecord, HasCompleter, changed, record_at, record_of, count, is_named, names_parent, children_of}
use Rattle.fj_tree.proofs.Records.Children.{changed_other, one_changed}
use Rattle.fj_tree.proofs.Records.Counts.{count_filled}
use Rattle.fj_tree.proofs.Index.Finds.{good_at, numbered, of_record}
use Rattle.fj_tree.proofs.Ascents.Parents.{IsParent, has_child, none_above, parent_above}
use Rattle.fj_tree.proofs.Records.Writes.{count_changed, slot_within}

-- a record without children is taken out
pub record HasShrunk (t now : Records) (key : ℕ) (r : Record) : Type 0 where
  pub was : record_at t key ≡ Some r
  pub childless : r.children ≡ 0
  pub removed : record_at now key ≡ None
  pub others : (k : ℕ) → k ≢ key → record_at now k ≡ option_map (without_child_of (parent_in (Some r.kind))) (record_at t k)
  pub made : now.made ≡ t.made
  pub room : count now ≤ now.room

child_name : (parent : Option ℕ) (r : Record)
    → ((without_child_of parent r).serial ≡ r.serial) × ((without_child_of parent r).kind ≡ r.kind) × ((without_child_of parent r).pending ≡ r.pending) × ((without_child_of parent r).children ≤ r.children)
child_name parent r = go (is_named parent r.serial)
  where
    go : (b : Bool) → ((if b then without_child r else r).serial ≡ r.serial) × ((if b then without_child r else r).kind ≡ r.kind) × ((if b then without_child r else r).pending ≡ r.pending) × ((if b then without_child r else r).children ≤ r.children)
    go true = (refl, refl, refl, omega arith)
    go false = (refl, refl, refl, omega arith)

child_count : (parent : Option ℕ) (r : Record) (left : ℕ) → r.children ≡ left + cond (is_named parent r.serial) 1 0 → (without_child_of parent r).children ≡ left
child_count parent r left had = go (is_named parent r.serial) had
  where
    go : (b : Bool) → r.children ≡ left + cond b 1 0 → (if b then without_child r else r).children ≡ left
    go true had = omega (arith, had)
    go false had = omega (arith, had)

-- all other records are sound
pub sound_shrunk : (t now : Records) (key : ℕ) (gone : Record) → IsSound t → HasShrunk t now key gone → IsSound now
sound_shrunk t now key gone sound shrunk = record { each = each; once = once; children = children; parents = parents; room = shrunk.room }
  where
    apart : (k : ℕ) (r : Record) → record_at now k ≡ Some r → k ≢ key
    apart k r is = λ same. none-some r (sym shrunk.removed ∙ ap (record_at now) (sym same) ∙ is)

    -- a record, and what it was
    before : (k : ℕ) (r : Record) → record_at now k ≡ Some r → (old : Record) × (record_at t k ≡ Some old) × (r ≡ without_child_of (parent_in (Some gone.kind)) old)
    before k r is = go (record_at t k) refl (sym (shrunk.others k (apart k r is)) ∙ is)
      where
        go : (o : Option Record) → record_at t k ≡ o → option_map (without_child_of (parent_in (Some gone.kind))) (record_at t k) ≡ Some r → (old : Record) × (record_at t k ≡ Some old) × (r ≡ without_child_of (parent_in (Some gone.kind)) old)
        go None was same = absurd (none-some r (sym (ap (option_map (without_child_of (parent_in (Some gone.kind)))) was) ∙ same))
        go (Some old) was same = (old, was, sym (same_Some (without_child_of (parent_in (Some gone.kind)) old) r (sym (ap (option_map (without_child_of (parent_in (Some gone.kind)))) was) ∙ same)))

    each : (k : ℕ) (r : Record) → record_at now k ≡ Some r → IsSoundRecord now.made r
    each k r is =
        let old = before k r is in
        let was = sound.each k old.0 old.1 in
        let name = child_name (parent_in (Some gone.kind)) old.0 in
        let good : IsSoundRecord now.made (without_child_of (parent_in (Some gone.kind)) old.0) = record {
          number = omega (arith, was.number, name.0, shrunk.made);
          parent = λ p named. omega (arith, was.parent p (ap (λ (k : Kind). parent_in (Some k)) (sym name.1) ∙ named), name.0);
          pending = omega (arith, was.pending, name.2);
          children = omega (arith, was.children, name.3, shrunk.made);
        } in
        subst (λ (x : Record). IsSoundRecord now.made x) (sym old.2) good

    once : (k l : ℕ) (r s : Record) → record_at now k ≡ Some r → record_at now l ≡ Some s → r.serial ≡ s.serial → k ≡ l
    once k l r s is_r is_s same =
        let old_r = before k r is_r in
        let old_s = before l s is_s in
        sound.once k l old_r.0 old_s.0 old_r.1 old_s.1
        (sym (child_name (parent_in (Some gone.kind)) old_r.0).0 ∙ sym (ap (λ (x : Record). x.serial) old_r.2) ∙ same ∙ ap (λ (x : Record). x.serial) old_s.2 ∙ (child_name (parent_in (Some gone.kind)) old_s.0).0)

    -- the other slots name the parents that they named
    names : (n k : ℕ) → k ≢ key → names_parent n (record_at t k) ≡ names_parent n (record_at now k)
    names n k differs = sym (ap (names_parent n) (shrunk.others k differs) ∙ go (record_at t k))
      where
        go : (o : Option Record) → names_parent n (option_map (without_child_of (parent_in (Some gone.kind))) o) ≡ names_parent n o
        go None = refl
        go (Some r) = ap (λ (x : Kind). is_named (parent_in (Some x)) n) (child_name (parent_in (Some gone.kind)) r).1

    -- so each number had the children that it has, and one more where it is named
    counts : (n : ℕ) → children_of t n ≡ children_of now n + cond (is_named (parent_in (Some gone.kind)) n) 1 0
    counts n =
        count_filled (names_parent n) now.slots t.slots key refl shrunk.removed (slot_within t.slots key gone shrunk.was) (names n)
        ∙ ap (λ (o : Option Record). children_of now n + cond (names_parent n o) 1 0) shrunk.was

    children : (k : ℕ) (r : Record) → record_at now k ≡ Some r → r.children ≡ children_of now r.serial
    children k r is =
        let old = before k r is in
        ap (λ (x : Record). x.children) old.2 ∙ child_count (parent_in (Some gone.kind)) old.0 (children_of now old.0.serial) (sound.children k old.0 old.1 ∙ counts old.0.serial)
        ∙ ap (children_of now) (sym (ap (λ (x : Record). x.serial) old.2 ∙ (child_name (parent_in (Some gone.kind)) old.0).0))

    parents : (k : ℕ) (r : Record) (p : ℕ) → record_at now k ≡ Some r → parent_in (Some r.kind) ≡ Some p → HasCompleter now p
    parents k r p is named =
        let old = before k r is in
        let named_before : parent_in (Some old.0.kind) ≡ Some p =
        sym (ap (λ (x : Kind). parent_in (Some x)) (child_name (parent_in (Some gone.kind)) old.0).1) ∙ sym (ap (λ (x : Record). parent_in (Some x.kind)) old.2) ∙ named in
        let had = sound.parents k old.0 p old.1 named_before in
        let differs : had.key ≢ key = λ same.
        let is_gone : gone ≡ had.there = same_Some gone had.there (sym shrunk.was ∙ ap (record_at t) (sym same) ∙ had.is) in
        let number : gone.serial ≡ p = ap (λ (x : Record). x.serial) is_gone ∙ had.number in
        let none : children_of t p ≡ 0 = ap (children_of t) (sym number) ∙ sym (sound.children key gone shrunk.was) ∙ shrunk.childless in
        omega (arith, none, has_child t k old.0 p old.1 named_before) in
        let name = child_name (parent_in (Some gone.kind)) had.there in
        record {
          key = had.key;
          there = without_child_of (parent_in (Some gone.kind)) had.there;
          is = shrunk.others had.key differs ∙ ap (option_map (without_child_of (parent_in (Some gone.kind)))) had.is;
          number = name.0 ∙ had.number;
          completer = ap (λ (x : Kind). is_completer_kind (Some x)) name.1 ∙ had.completer;
        }

-- a record is taken out, before its parent is looked at
pub record IsTakenOut (t u : Records) (key : ℕ) (r : Record) : Type 0 where
  pub was : record_at t key ≡ Some r
  pub childless : r.children ≡ 0
  pub removed : record_at u key ≡ None
  pub others : (k : ℕ) → k ≢ key → record_at u k ≡ record_at t k
  pub made : u.made ≡ t.made
  pub room : count u ≤ u.room

pub shrunk_alone : (t u : Records) (key : ℕ) (r : Record) → IsTakenOut t u key r → parent_in (Some r.kind) ≡ None → HasShrunk t u key r
shrunk_alone t u key r out none = record {
  was = out.was;
  childless = out.childless;
  removed = out.removed;
  others = λ k differs. out.others k differs ∙ alone (record_at t k) ∙ ap (λ (o : Option ℕ). option_map (without_child_of o) (record_at t k)) (sym none);
  made = out.made;
  room = out.room;
}
  where
    alone : (o : Option Record) → o ≡ option_map (without_child_of None) o
    alone None = refl
    alone (Some s) = refl

pub shrunk_below : (t u : Records) (h p : Handle) (r s : Record) → IsSound t → IsTakenOut t u h.key r → IsParent t h p r s → HasShrunk t (changed u p.key without_child) h.key r
shrunk_below t u h p r s sound out parent = record {
  was = out.was;
  childless = out.childless;
  removed = changed_other u p.key h.key without_child (λ same. parent.apart (sym same)) ∙ out.removed;
  others = λ k differs.
      one_changed t u p k without_child sound (good_at t p s parent.is (eq-eqb s.serial p.serial parent.number)) (out.others k differs) (out.others p.key parent.apart)
      ∙ ap (λ (o : Option ℕ). option_map (without_child_of o) (record_at t k)) (sym parent.named);
  made = out.made;
  room = omega (arith, count_changed u p.key s without_child (out.others p.key parent.apart ∙ parent.is), out.room);
}

-- a removal from the slab takes it out
pub taken_out : (old new : Slab Record) (made room key : ℕ) (r : Record) → get old key ≡ Some r → r.children ≡ 0 → Updates old new key None → slab_len new + 1 ≡ slab_len old → slab_len old ≤ room
    → IsTakenOut (record { slots = old.slots; made = made; room = room }) (record { slots = new.slots; made = made; room = room }) key r
taken_out old new made room key r is childless updates fewer fits = record {
  was = is;
  childless = childless;
  removed = updates.changed;
  others = updates.others;
  made = refl;
  room = omega (arith, fewer, fits);
}

-- a removal of a record without children, and what is left
pub record Removal (t u : Records) (h : Handle) (r : Record) : Type 0 where
  pub number : r.serial ≡ h.serial
  pub here : record_of t h ≡ Some r
  pub out : IsTakenOut t u h.key r

pub removal : (old new : Slab Record) (made room : ℕ) (h : Handle) (r : Record) → IsSound (record { slots = old.slots; made = made; room = room })
    → IsSomeAnd (record_of (record { slots = old.slots; made = made; room = room }) h) (λ r. r.children ≡ 0) → get old h.key ≡ Some r → Updates old new h.key None → slab_len new + 1 ≡ slab_len old
    → Removal (record { slots = old.slots; made = made; room = room }) (record { slots = new.slots; made = made; room = room }) h r
removal old new made room h r sound good is updates fewer =
    let t : Records = record { slots = old.slots; made = made; room = room } in
    let named = numbered t h r (λ (r : Record). r.children ≡ 0) is good in
    record {
      number = named.0;
      here = named.1;
      out = taken_out old new made room h.key r is (of_record t h r (λ (r : Record). r.children ≡ 0) is good) updates fewer sound.room;
    }

-- what the parent is
pub removal_parent : (t u : Records) (h p : Handle) (r : Record) → IsSound t → Removal t u h r → above t h ≡ Some p → (s : Record) × IsParent t h p r s
removal_parent t u h p r sound removed up = parent_above t h p r sound removed.out.was removed.number up

pub removal_shrinks : (t u : Records) (h : Handle) (r : Record) → IsSound t → Removal t u h r → above t h ≡ None → HasShrunk t u h.key r
removal_shrinks t u h r sound removed none = shrunk_alone t u h.key r removed.out (none_above t h r sound removed.out.was removed.number none)

pub removal_shrinks_below : (t u : Records) (h p : Handle) (r : Record) → IsSound t → Removal t u h r → above t h ≡ Some p → HasShrunk t (changed u p.key without_child) h.key r
removal_shrinks_below t u h p r sound removed up = let parent = removal_parent t u h p r sound removed up in shrunk_below t u h p r parent.0 sound removed.out parent.1

-- the parent is still there, and has a child to be counted no more
pub removal_parent_kept : (t u : Records) (h p : Handle) (r : Record) → IsSound t → Removal t u h r → above t h ≡ Some p → IsSome (record_at u p.key)
removal_parent_kept t u h p r sound removed up =
    let parent = removal_parent t u h p r sound removed up in
    rw (removed.out.others p.key parent.1.apart ∙ parent.1.is) refl

pub removal_parent_counts : (t u : Records) (h p : Handle) (r s : Record) → IsSound t → Removal t u h r → above t h ≡ Some p → record_at u p.key ≡ Some s → 1 ≤ s.children
removal_parent_counts t u h p r s sound removed up is =
    let parent = removal_parent t u h p r sound removed up in
    let same : s ≡ parent.0 = same_Some s parent.0 (sym is ∙ removed.out.others p.key parent.1.apart ∙ parent.1.is) in
    omega (arith, parent.1.has, ap (λ (x : Record). x.children) same)

-- the other records, by the parent that the handle's record names
pub removal_others : (t u now : Records) (h : Handle) (r : Record) → Removal t u h r → HasShrunk t now h.key r → (key : ℕ) → key ≢ h.key
    → record_at now key ≡ option_map (without_child_of (parent_in (option_map (λ r. r.kind) (record_of t h)))) (record_at t key)
removal_others t u now h r removed shrunk key differs =
    shrunk.others key differs ∙ ap (λ (o : Option Record). option_map (without_child_of (parent_in (option_map (λ (r : Record). r.kind) o))) (record_at t key)) (sym removed.here)
