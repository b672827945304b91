use Rattle.std.proofs.Common.{sym, ap, ◌∙◌}
use Rattle.fj_slots.specs.Shelves.{entries, is_there}
use Rattle.fj_slots.proofs.Looking.{is_guessed, stands_guessed, stands_aside}
use Rattle.fj_slots.proofs.serial_map.SerialMap.has.Goals as goal

pub returns-then-has_number : goal.returns-then-has_number
returns-then-has_number g c =
    let told = is_guessed c.self.inside.slots c.args.number c.guess-at.result c.has_number.result c.guess-at.ensures.guess c.has_number.ensures in
    sym (stands_guessed c.self.inside.slots c.self.inside.aside.items c.args.number (sym told ∙ c.if-has_number.true)) ∙ ap (λ s. is_there (entries s) c.args.number) c.self.view_is

pub returns : goal.returns
returns g c =
    let told = is_guessed c.self.inside.slots c.args.number c.guess-at.result c.has_number.result c.guess-at.ensures.guess c.has_number.ensures in
    c.has.ensures ∙ sym (stands_aside c.self.inside.slots c.self.inside.aside.items c.args.number (sym told ∙ c.if-has_number.false)) ∙ ap (λ s. is_there (entries s) c.args.number) c.self.view_is
