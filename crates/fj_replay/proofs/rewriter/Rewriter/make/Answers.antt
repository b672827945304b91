use Rattle.std.proofs.Common.{◌≤◌, arith, sym, ◌∙◌}
use Rattle.fj_rules.specs.declared.limits.TheConstants.{MAX_EVENTS}
use Rattle.fj_rules.specs.Tasks.{accepted}
use Rattle.fj_replay.proofs.Version2.Accepted.{counted_none, counted_task, few_tasks}
use Rattle.fj_replay.proofs.rewriter.Rewriter.make.Goals as goal

pub overflow_add-self : goal.overflow_add-self
overflow_add-self c =
    let few : accepted c.self.inside.machine.events ≤ MAX_EVENTS = few_tasks c.self.inside.machine c.limits-limits.result c.history-history.ensures.run c.self.invariant.counted.unsealed c.limits-limits.ensures.limits c.limits-limits.ensures.within in
    let same = c.self.invariant.counted.count in
    omega arith

pub invariant_of-self : goal.invariant_of-self
invariant_of-self c = record { counted = counted_task _ _ c.args.asked.now c.step-said.result c.self.inside.count c.step-said.ensures.step c.step-said.ensures.tells (sym c.is_task.ensures ∙ c.if-is_task.true) c.self.invariant.counted; room = c.self.invariant.room }

pub invariant_of-self-else-is_task : goal.invariant_of-self-else-is_task
invariant_of-self-else-is_task c = record { counted = counted_none _ _ c.args.asked.now c.step-said.result c.self.inside.count c.step-said.ensures.step c.step-said.ensures.tells (sym c.is_task.ensures ∙ c.if-is_task.false) c.self.invariant.counted; room = c.self.invariant.room }
