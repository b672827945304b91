use Rattle.std.proofs.Common.{arith, ap, sym, ◌∙◌, ◌≡◌, Some}
use Rattle.std.proofs.lemmas.Grind.{common_steps}
use Rattle.std.specs.Prelude.{option_and_then, IfNone, IsTrue}
use Rattle.fj_tree.specs.declared.arrive.Arrived.{Arrived}
use Rattle.fj_tree.specs.Passes.{arrival_of, does_fire, end_by, with_ended_body}
use Rattle.fj_tree.proofs.tree.Tree.stop.Goals as goal

arrival_there : (c : goal.After-end_by) → arrival_of (with_ended_body c.args.self.now c.args.h) c.args.at ≡ Some c.if-eq.arrived
arrival_there c = grind (arith, common_steps)

fires : (a : Arrived) → IfNone (end_by a) (IsTrue (does_fire (Some a)))
fires a = grind (arith, common_steps)

pub returns-clause-ends : goal.returns-clause-ends
returns-clause-ends c = c.end_by.ensures ∙ sym (ap (option_and_then end_by) (arrival_there c))

pub returns-clause-passes : goal.returns-clause-passes
returns-clause-passes c = rw (c.end_by.ensures, arrival_there c) (fires c.if-eq.arrived)
