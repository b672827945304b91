use Rattle.std.proofs.Common.{arith, sym, subst, ◌≡◌, ◌+◌, ◌<◌, Option, Some, None, refl}
use Rattle.std.specs.Prelude.{option_map, slice_set}
use Rattle.fj_rules.specs.Tasks.{parent_in}
use Rattle.fj_tree.specs.declared.record.Record.{Record}
use Rattle.fj_tree.specs.Handles.{Handle}
use Rattle.fj_tree.specs.Makes.{with_child, with_child_of}
use Rattle.fj_tree.specs.Records.{Records, IsCompleter, IsSound, changed, count, record_at}
use Rattle.fj_tree.proofs.Records.Growing.{put_in, grown_alone, grown_below, sound_grown}
use Rattle.fj_tree.proofs.Index.Indexing.{index_grown, index_written}
use Rattle.fj_tree.proofs.Index.Listing.{above_new}
use Rattle.fj_tree.proofs.tree.Tree.insert.Goals as goal
use Rattle.fj_tree.proofs.tree.Tree.insert.Goals.{in-Some, in_default}

pub push-requires-clause-above : goal.push-requires-clause-above
push-requires-clause-above c =
    c.self.invariant.above

pub push-requires-clause-room : goal.push-requires-clause-room
push-requires-clause-room c =
    let t : Records = record { slots = c.self.inside.records.slots; made = c.self.inside.made; room = c.self.inside.room } in
    let few : count t < t.room = rw (← c.self.view_is) at c.requires.room in
    omega (arith, (c.self.invariant.indexed).count, few, c.self.invariant.numbers_fit)

pub invariant_of-self-in_default : goal.invariant_of-self-in_default
invariant_of-self-in_default c =
    let i = c.insert_reserved-key in
    let t : Records = record { slots = c.self.inside.records.slots; made = c.self.inside.made; room = c.self.inside.room } in
    let u : Records = record { slots = i.new.self.slots; made = c.self.inside.made + 1; room = c.self.inside.room } in
    let few : count t < t.room = rw (← c.self.view_is) at c.requires.room in
    let put = put_in c.self.inside.records i.new.self c.self.inside.made c.self.inside.room i.result c.count-pending.result c.args.kind c.args.place i.ensures.was_vacant i.ensures.updates i.ensures.len few c.count-pending.ensures c.requires.pending in
    let none : None ≡ parent_in (Some c.args.kind) = rw c.in_default.is at c.requires.named in record {
      sound = sound_grown t u i.result c.args.kind c.args.place c.self.invariant.sound (grown_alone t u i.result c.args.kind c.args.place put (sym none));
      records_fit = omega (arith, c.self.invariant.records_fit, i.ensures.capacity);
      numbers_fit = rw c.push.ensures c.self.invariant.numbers_fit;
      indexed = rw c.push.ensures (index_grown t u _ i.result c.args.kind c.args.place c.self.invariant.indexed c.self.invariant.above put i.ensures.len);
      above = rw c.push.ensures (above_new _ _ _ c.self.invariant.above);
    }

pub invariant_of-self : goal.invariant_of-self
invariant_of-self c =
    let i = c.insert_reserved-key in
    let t : Records = record { slots = c.self.inside.records.slots; made = c.self.inside.made; room = c.self.inside.room } in
    let u : Records = record { slots = i.new.self.slots; made = c.self.inside.made + 1; room = c.self.inside.room } in
    let p : Handle = record { key = c.p.inside.key; serial = c.p.inside.serial } in
    let few : count t < t.room = rw (← c.self.view_is) at c.requires.room in
    let put = put_in c.self.inside.records i.new.self c.self.inside.made c.self.inside.room i.result c.count-pending.result c.args.kind c.args.place i.ensures.was_vacant i.ensures.updates i.ensures.len few c.count-pending.ensures c.requires.pending in
    let named : Some p.serial ≡ parent_in (Some c.args.kind) = rw (c.in-Some.is, ← c.p.view_is) at c.requires.named in
    let is : IsCompleter t p = rw (c.in-Some.is, ← c.p.view_is, ← c.self.view_is) at c.requires.completer in
    let written : record_at u p.key ≡ Some c.index_mut.result.now = c.index_mut.ensures.value in
    let grown = grown_below t u i.result c.args.kind c.args.place p c.self.invariant.sound put (sym named) is in record {
      sound = subst (λ (o : Option Record). IsSound (record u { slots = slice_set u.slots p.key (option_map with_child o) })) written
          (sound_grown t (changed u p.key with_child) i.result c.args.kind c.args.place c.self.invariant.sound grown);
      records_fit = omega (arith, c.self.invariant.records_fit, i.ensures.capacity);
      numbers_fit = rw c.push.ensures c.self.invariant.numbers_fit;
      indexed = rw c.push.ensures (
          index_written u.slots _ p.key c.index_mut.result.now _ (index_grown t u _ i.result c.args.kind c.args.place c.self.invariant.indexed c.self.invariant.above put i.ensures.len) written refl
          );
      above = rw c.push.ensures (above_new _ _ _ c.self.invariant.above);
    }

pub returns-clause-others : goal.returns-clause-others
returns-clause-others c = λ key differs.
    let i = c.insert_reserved-key in
    let t : Records = record { slots = c.self.inside.records.slots; made = c.self.inside.made; room = c.self.inside.room } in
    let u : Records = record { slots = i.new.self.slots; made = c.self.inside.made + 1; room = c.self.inside.room } in
    let few : count t < t.room = rw (← c.self.view_is) at c.requires.room in
    let put = put_in c.self.inside.records i.new.self c.self.inside.made c.self.inside.room i.result c.count-pending.result c.args.kind c.args.place i.ensures.was_vacant i.ensures.updates i.ensures.len few c.count-pending.ensures c.requires.pending in
    elim c.match-parent.branch [
      | in-Some w ↦
          let p : Handle = record { key = w.p.inside.key; serial = w.p.inside.serial } in
          let named : Some p.serial ≡ parent_in (Some c.args.kind) = rw (w.in-Some.is, ← w.p.view_is) at c.requires.named in
          let is : IsCompleter t p = rw (w.in-Some.is, ← w.p.view_is, ← c.self.view_is) at c.requires.completer in
          let written : record_at u p.key ≡ Some w.index_mut.result.now = w.index_mut.ensures.value in
          let grown = grown_below t u i.result c.args.kind c.args.place p c.self.invariant.sound put (sym named) is in
          let others = subst (λ (o : Option Record). record_at (record u { slots = slice_set u.slots p.key (option_map with_child o) }) key ≡ option_map (with_child_of (parent_in (Some c.args.kind))) (record_at t key)) written (grown.others key differs) in
          rw (w.self-is, ← c.self.view_is) others
      | in_default w ↦
          let none : None ≡ parent_in (Some c.args.kind) = rw w.in_default.is at c.requires.named in
          let grown = grown_alone t u i.result c.args.kind c.args.place put (sym none) in
          rw (w.self-is, ← c.self.view_is) (grown.others key differs)
    ]
