use Rattle.std.proofs.Common.{◌≡◌, ap, sym, ◌∙◌, subst, None}
use Rattle.fj_slots.specs.Shelves.{entries, with_entry, AreFewer}
use Rattle.fj_slots.specs.Slots.{entry_of}
use Rattle.fj_slots.proofs.Standing.{put_in_slot, put_aside, room_aside}
use Rattle.fj_slots.proofs.serial_map.SerialMap.put.Goals as goal

pub invariant_of-self : goal.invariant_of-self
invariant_of-self g c =
    (put_in_slot c.self.inside.slots c.fill.new.self c.self.inside.aside.items c.args.number c.args.item c.guess-at.result
    c.self.invariant c.guess-at.ensures.guess (c.is_free.ensures.0 c.if-is_free.true)
    (subst (λ s. entries s c.args.number ≡ None) (sym c.self.view_is) c.requires.free) c.fill.ensures).0

pub returns-then-is_free-clause-entries : goal.returns-then-is_free-clause-entries
returns-then-is_free-clause-entries g c =
    (put_in_slot c.self.inside.slots c.fill.new.self c.self.inside.aside.items c.args.number c.args.item c.guess-at.result
    c.self.invariant c.guess-at.ensures.guess (c.is_free.ensures.0 c.if-is_free.true)
    (subst (λ s. entries s c.args.number ≡ None) (sym c.self.view_is) c.requires.free) c.fill.ensures).1
    ∙ ap (λ s. with_entry (entries s) c.args.number c.args.item) c.self.view_is

pub put-requires : goal.put-requires
put-requires g c = room_aside _ _ _ c.self.invariant (subst (λ s. AreFewer (entries s) s.room) (sym c.self.view_is) c.requires.room)

pub invariant_of-self-else-is_free : goal.invariant_of-self-else-is_free
invariant_of-self-else-is_free g c =
    rw c.put.ensures (put_aside c.self.inside.slots c.self.inside.aside.items c.args.number c.args.item c.self.invariant (subst (λ s. entries s c.args.number ≡ None) (sym c.self.view_is) c.requires.free)).0

pub returns-else-is_free-clause-entries : goal.returns-else-is_free-clause-entries
returns-else-is_free-clause-entries g c =
    ap (λ l. entry_of c.self.inside.slots l.items) c.put.ensures
    ∙ (put_aside c.self.inside.slots c.self.inside.aside.items c.args.number c.args.item c.self.invariant (subst (λ s. entries s c.args.number ≡ None) (sym c.self.view_is) c.requires.free)).1
    ∙ ap (λ s. with_entry (entries s) c.args.number c.args.item) c.self.view_is
