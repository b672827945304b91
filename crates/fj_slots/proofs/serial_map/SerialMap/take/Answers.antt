use Rattle.std.proofs.Common.{ap, ◌∙◌}
use Rattle.fj_slots.specs.Shelves.{entries, without_entry}
use Rattle.fj_slots.proofs.Standing.{take_read, take_rest, not_guessed, came_out, nothing_changes}
use Rattle.fj_slots.proofs.serial_map.SerialMap.take.Goals as goal

pub invariant_of-self : goal.invariant_of-self
invariant_of-self g c =
    (take_read c.self.inside.slots c.clear.new.self c.self.inside.aside.items c.args.number c.guess-at.result c.clear.result c.has_number.result
    c.self.invariant c.guess-at.ensures.guess c.has_number.ensures c.if-has_number.true c.clear.ensures.taken c.clear.ensures.rest).0

pub returns-then-has_number-clause-taken : goal.returns-then-has_number-clause-taken
returns-then-has_number-clause-taken g c =
    (take_read c.self.inside.slots c.clear.new.self c.self.inside.aside.items c.args.number c.guess-at.result c.clear.result c.has_number.result
    c.self.invariant c.guess-at.ensures.guess c.has_number.ensures c.if-has_number.true c.clear.ensures.taken c.clear.ensures.rest).2
    ∙ ap (λ s. entries s c.args.number) c.self.view_is

pub returns-then-has_number-clause-entries : goal.returns-then-has_number-clause-entries
returns-then-has_number-clause-entries g c =
    (take_read c.self.inside.slots c.clear.new.self c.self.inside.aside.items c.args.number c.guess-at.result c.clear.result c.has_number.result
    c.self.invariant c.guess-at.ensures.guess c.has_number.ensures c.if-has_number.true c.clear.ensures.taken c.clear.ensures.rest).1
    ∙ ap (λ s. without_entry (entries s) c.args.number) c.self.view_is

pub invariant_of-self-else-has_number : goal.invariant_of-self-else-has_number
invariant_of-self-else-has_number g c =
    (take_rest c.self.inside.slots c.self.inside.aside c.take.new.self c.args.number c.take.result c.self.invariant
    (not_guessed c.self.inside.slots c.args.number c.guess-at.result c.has_number.result c.guess-at.ensures.guess c.has_number.ensures c.if-has_number.false)
    c.take.ensures.taken).0

pub returns-else-has_number-clause-taken : goal.returns-else-has_number-clause-taken
returns-else-has_number-clause-taken g c =
    (take_rest c.self.inside.slots c.self.inside.aside c.take.new.self c.args.number c.take.result c.self.invariant
    (not_guessed c.self.inside.slots c.args.number c.guess-at.result c.has_number.result c.guess-at.ensures.guess c.has_number.ensures c.if-has_number.false)
    c.take.ensures.taken).2
    ∙ ap (λ s. entries s c.args.number) c.self.view_is

pub returns-else-has_number-clause-entries : goal.returns-else-has_number-clause-entries
returns-else-has_number-clause-entries g c =
    (take_rest c.self.inside.slots c.self.inside.aside c.take.new.self c.args.number c.take.result c.self.invariant
    (not_guessed c.self.inside.slots c.args.number c.guess-at.result c.has_number.result c.guess-at.ensures.guess c.has_number.ensures c.if-has_number.false)
    c.take.ensures.taken).1
    ∙ ap (λ s. without_entry (entries s) c.args.number) c.self.view_is

pub returns-then-has_number-clause-stays : goal.returns-then-has_number-clause-stays
returns-then-has_number-clause-stays g c =
    came_out _ c.self.inside.slots c.args.number c.guess-at.result c.clear.result c.has_number.result c.has_number.ensures c.if-has_number.true c.clear.ensures.taken

pub returns-else-has_number-clause-stays : goal.returns-else-has_number-clause-stays
returns-else-has_number-clause-stays g c =
    nothing_changes c.self.inside.slots c.self.inside.aside c.take.new.self c.args.number c.take.result c.args.self.now c.take.ensures.taken c.self.view_is
