use Rattle.std.proofs.Common.{ap, ◌∙◌}
use Rattle.std.specs.Prelude.{is_some}
use Rattle.fj_slots.proofs.Found.{has_place}
use Rattle.fj_slots.proofs.aside.Aside.has.Goals as goal

pub returns : goal.returns
returns g c = c.is_some.ensures ∙ ap is_some c.find.ensures ∙ has_place c.args.number 0 c.args.self.now.items
