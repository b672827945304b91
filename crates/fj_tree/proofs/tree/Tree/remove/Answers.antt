use Rattle.std.proofs.Common.{arith, ap, sym, subst, ◌∙◌, ◌≡◌, ◌≢◌, Option, Some, None, refl}
use Rattle.std.specs.Prelude.{option_map, slice_set, IsSomeAnd}
use Rattle.fj_rules.specs.Tasks.{parent_in}
use Rattle.fj_tree.specs.declared.record.Record.{Record}
use Rattle.fj_tree.specs.Handles.{Handle}
use Rattle.fj_tree.specs.Paths.{above}
use Rattle.fj_tree.specs.Releases.{without_child, without_child_of}
use Rattle.fj_tree.specs.Records.{Records, IsSound, changed, record_at, record_of}
use Rattle.fj_tree.proofs.Records.Shrinking.{removal, removal_parent_kept, removal_parent_counts, removal_shrinks, removal_shrinks_below, removal_others, sound_shrunk}
use Rattle.fj_tree.proofs.Index.Indexing.{index_released, above_released, index_written}
use Rattle.fj_tree.proofs.tree.Tree.remove.Goals as goal

pub index_mut-requires : goal.index_mut-requires
index_mut-requires c =
    let i = c.remove-removed in
    let t : Records = record { slots = c.self.inside.records.slots; made = c.self.inside.made; room = c.self.inside.room } in
    let u : Records = record { slots = i.new.self.slots; made = c.self.inside.made; room = c.self.inside.room } in
    let h : Handle = record { key = c.h.inside.key; serial = c.h.inside.serial } in
    let good : IsSomeAnd (record_of t h) (λ (r : Record). r.children ≡ 0) = rw (← c.self.view_is, ← c.h.view_is) at c.requires.good in
    let removed = removal c.self.inside.records i.new.self c.self.inside.made c.self.inside.room h i.result c.self.invariant.sound good i.ensures.value i.ensures.updates i.ensures.len in
    let p : Handle = record { key = c.p.inside.key; serial = c.p.inside.serial } in
    let up : above t h ≡ Some p = rw (c.in-Some.is, ← c.p.view_is, ← c.self.view_is, ← c.h.view_is) at (sym c.requires.parent) in
    removal_parent_kept t u h p i.result c.self.invariant.sound removed up

pub overflow_sub-index_mut : goal.overflow_sub-index_mut
overflow_sub-index_mut c =
    let i = c.remove-removed in
    let t : Records = record { slots = c.self.inside.records.slots; made = c.self.inside.made; room = c.self.inside.room } in
    let u : Records = record { slots = i.new.self.slots; made = c.self.inside.made; room = c.self.inside.room } in
    let h : Handle = record { key = c.h.inside.key; serial = c.h.inside.serial } in
    let good : IsSomeAnd (record_of t h) (λ (r : Record). r.children ≡ 0) = rw (← c.self.view_is, ← c.h.view_is) at c.requires.good in
    let removed = removal c.self.inside.records i.new.self c.self.inside.made c.self.inside.room h i.result c.self.invariant.sound good i.ensures.value i.ensures.updates i.ensures.len in
    let p : Handle = record { key = c.p.inside.key; serial = c.p.inside.serial } in
    let up : above t h ≡ Some p = rw (c.in-Some.is, ← c.p.view_is, ← c.self.view_is, ← c.h.view_is) at (sym c.requires.parent) in
    removal_parent_counts t u h p i.result c.index_mut.result.now c.self.invariant.sound removed up c.index_mut.ensures.value

pub invariant_of-self : goal.invariant_of-self
invariant_of-self c =
    let i = c.remove-removed in
    let t : Records = record { slots = c.self.inside.records.slots; made = c.self.inside.made; room = c.self.inside.room } in
    let u : Records = record { slots = i.new.self.slots; made = c.self.inside.made; room = c.self.inside.room } in
    let h : Handle = record { key = c.h.inside.key; serial = c.h.inside.serial } in
    let good : IsSomeAnd (record_of t h) (λ (r : Record). r.children ≡ 0) = rw (← c.self.view_is, ← c.h.view_is) at c.requires.good in
    let removed = removal c.self.inside.records i.new.self c.self.inside.made c.self.inside.room h i.result c.self.invariant.sound good i.ensures.value i.ensures.updates i.ensures.len in
    let p : Handle = record { key = c.p.inside.key; serial = c.p.inside.serial } in
    let up : above t h ≡ Some p = rw (c.in-Some.is, ← c.p.view_is, ← c.self.view_is, ← c.h.view_is) at (sym c.requires.parent) in
    let sound = sound_shrunk t (changed u p.key without_child) h.key i.result c.self.invariant.sound (removal_shrinks_below t u h p i.result c.self.invariant.sound removed up) in record {
      sound = subst (λ (o : Option Record). IsSound (record u { slots = slice_set u.slots p.key (option_map without_child o) })) c.index_mut.ensures.value sound;
      records_fit = omega (arith, c.self.invariant.records_fit, i.ensures.capacity);
      numbers_fit = omega (arith, c.self.invariant.numbers_fit, c.release.ensures.room);
      indexed = rw c.release.ensures.left (index_written u.slots _ p.key c.index_mut.result.now _ (index_released t u _ h.key i.result c.self.invariant.sound c.self.invariant.indexed c.release.ensures.rising removed.out i.ensures.len) c.index_mut.ensures.value refl);
      above = rw c.release.ensures.left (above_released u.slots _ _ c.self.invariant.above);
    }

pub invariant_of-self-in_default : goal.invariant_of-self-in_default
invariant_of-self-in_default c =
    let i = c.remove-removed in
    let t : Records = record { slots = c.self.inside.records.slots; made = c.self.inside.made; room = c.self.inside.room } in
    let u : Records = record { slots = i.new.self.slots; made = c.self.inside.made; room = c.self.inside.room } in
    let h : Handle = record { key = c.h.inside.key; serial = c.h.inside.serial } in
    let good : IsSomeAnd (record_of t h) (λ (r : Record). r.children ≡ 0) = rw (← c.self.view_is, ← c.h.view_is) at c.requires.good in
    let removed = removal c.self.inside.records i.new.self c.self.inside.made c.self.inside.room h i.result c.self.invariant.sound good i.ensures.value i.ensures.updates i.ensures.len in
    let none : above t h ≡ None = rw (c.in_default.is, ← c.self.view_is, ← c.h.view_is) at (sym c.requires.parent) in record {
      sound = sound_shrunk t u h.key i.result c.self.invariant.sound (removal_shrinks t u h i.result c.self.invariant.sound removed none);
      records_fit = omega (arith, c.self.invariant.records_fit, i.ensures.capacity);
      numbers_fit = omega (arith, c.self.invariant.numbers_fit, c.release.ensures.room);
      indexed = rw c.release.ensures.left (index_released t u _ h.key i.result c.self.invariant.sound c.self.invariant.indexed c.release.ensures.rising removed.out i.ensures.len);
      above = rw c.release.ensures.left (above_released u.slots _ _ c.self.invariant.above);
    }

pub returns-in-Some-clause-others : goal.returns-in-Some-clause-others
returns-in-Some-clause-others c = λ key differs.
    let i = c.remove-removed in
    let t : Records = record { slots = c.self.inside.records.slots; made = c.self.inside.made; room = c.self.inside.room } in
    let u : Records = record { slots = i.new.self.slots; made = c.self.inside.made; room = c.self.inside.room } in
    let h : Handle = record { key = c.h.inside.key; serial = c.h.inside.serial } in
    let good : IsSomeAnd (record_of t h) (λ (r : Record). r.children ≡ 0) = rw (← c.self.view_is, ← c.h.view_is) at c.requires.good in
    let removed = removal c.self.inside.records i.new.self c.self.inside.made c.self.inside.room h i.result c.self.invariant.sound good i.ensures.value i.ensures.updates i.ensures.len in
    let p : Handle = record { key = c.p.inside.key; serial = c.p.inside.serial } in
    let up : above t h ≡ Some p = rw (c.in-Some.is, ← c.p.view_is, ← c.self.view_is, ← c.h.view_is) at (sym c.requires.parent) in
    let apart : key ≢ h.key = λ same. differs (same ∙ ap (λ (x : Handle). x.key) c.h.view_is) in
    let all = removal_others t u (changed u p.key without_child) h i.result removed (removal_shrinks_below t u h p i.result c.self.invariant.sound removed up) key apart in
    let others = subst
    (λ (o : Option Record). record_at (record u { slots = slice_set u.slots p.key (option_map without_child o) }) key ≡ option_map (without_child_of (parent_in (option_map (λ (r : Record). r.kind) (record_of t h)))) (record_at t key))
    c.index_mut.ensures.value all in
    rw (← c.self.view_is, ← c.h.view_is) others

pub returns-in_default-clause-others : goal.returns-in_default-clause-others
returns-in_default-clause-others c = λ key differs.
    let i = c.remove-removed in
    let t : Records = record { slots = c.self.inside.records.slots; made = c.self.inside.made; room = c.self.inside.room } in
    let u : Records = record { slots = i.new.self.slots; made = c.self.inside.made; room = c.self.inside.room } in
    let h : Handle = record { key = c.h.inside.key; serial = c.h.inside.serial } in
    let good : IsSomeAnd (record_of t h) (λ (r : Record). r.children ≡ 0) = rw (← c.self.view_is, ← c.h.view_is) at c.requires.good in
    let removed = removal c.self.inside.records i.new.self c.self.inside.made c.self.inside.room h i.result c.self.invariant.sound good i.ensures.value i.ensures.updates i.ensures.len in
    let none : above t h ≡ None = rw (c.in_default.is, ← c.self.view_is, ← c.h.view_is) at (sym c.requires.parent) in
    let apart : key ≢ h.key = λ same. differs (same ∙ ap (λ (x : Handle). x.key) c.h.view_is) in
    rw (← c.self.view_is, ← c.h.view_is) (removal_others t u u h i.result removed (removal_shrinks t u h i.result c.self.invariant.sound removed none) key apart)
