use Rattle.std.proofs.Common.{ap, refl, rules, subst, ◌+◌, ◌∙◌}
use Rattle.std.proofs.lemmas.List.{take_all}
use Rattle.fj_rules.specs.Runs.{RunsFrom}
use Rattle.fj_machine.proofs.MoreSteps.Running.{step_pool, run_step}
use Rattle.fj_machine.proofs.runs.make_steps.Goals as goal

pub loop-asked-init : goal.loop-asked-init
loop-asked-init c = record { pool = refl; len = search rules; capacity = refl; runs = rw c.requires.empty refl }

pub loop-asked-preserved : goal.loop-asked-preserved
loop-asked-preserved c =
    let start = c.args.machine.now in
    let old = c.loop-asked.machine in
    let before = c.loop-asked.invariant in
    let pushed = c.push_reserved.ensures in
    record {
      pool = step_pool old c.step.new.self c.asked-item.result c.step.result start.pool before.pool c.step.ensures.step;
      len = pushed.len ∙ ap (λ n. n + 1) before.len;
      capacity = pushed.capacity ∙ before.capacity;
      runs = rw pushed.items
          (run_step start c.args.steps.now c.loop-asked.asked-index c.loop-asked.replies.items old c.step.new.self c.asked-item.result c.step.result
          before.runs c.loop-asked-test.true c.asked-item.is c.step.ensures.step);
    }

pub returns-clause-runs : goal.returns-clause-runs
returns-clause-runs c =
    subst (λ made. RunsFrom c.args.machine.now made c.loop-asked.replies.items c.loop-asked.machine) (take_all c.loop-asked.asked-index c.args.steps.now (search rules)) c.loop-asked.invariant.runs
