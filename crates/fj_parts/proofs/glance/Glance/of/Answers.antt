use Rattle.std.proofs.Common.{◌≡◌, length, ap, ◌∙◌, arith}
use Rattle.fj_rules.specs.declared.limits.Limits.{Limits}
use Rattle.fj_parts.specs.Glances.{busy_below}
use Rattle.fj_parts.proofs.glance.Glance.of.Goals as goal

pub returns : goal.returns
returns c =
    let past = c.args.machine.now in
    let workers : c.workers-workers.result ≡ past.pool.limits.workers = c.workers-workers.ensures.number ∙ ap (λ (l : Limits). l.workers) c.limits.ensures.limits in
    let within = c.running_of-running.ensures.within in record {
      queued = c.queued.ensures;
      running = c.running_of-running.ensures.running ∙ ap (busy_below past.events) workers;
      resting = omega arith;
      «open» = ap length c.open.ensures;
      live = c.live.ensures;
      events = ap length c.history.ensures.events;
    }
