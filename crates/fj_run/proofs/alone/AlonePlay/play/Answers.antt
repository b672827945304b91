use Rattle.std.proofs.Common.{sym, subst}
use Rattle.std.specs.Prelude.{IfOk, Result}
use Rattle.fj_rules.specs.declared.refusal.Refusal.{Refusal}
use Rattle.fj_body.specs.declared.outcomes.Outcome.{Outcome}
use Rattle.fj_run.specs.Playing.{RunningState, SawOne}
use Rattle.fj_run.proofs.Outcomes.{saw_one}
use Rattle.fj_run.proofs.alone.AlonePlay.play.Goals.{in-Ok, in-Err}
use Rattle.fj_run.proofs.alone.AlonePlay.play.Goals as goal

pub returns : goal.returns
returns g c = record {
  told = elim c.match-submit.branch [
    | in-Ok w ↦
        subst (λ (x : Result (Outcome g.row.B.Denot g.row.B-Key.Denot g.row.B-Out.Denot) Refusal × RunningState g.row.B.Denot g.row.B-Key.Denot g.row.B-Out.Denot). IfOk x.0 (λ outcome. SawOne x.1 outcome))
        (λ i. (sym w.result-is i, sym w.pool-is i))
        (saw_one c.args.pool.now c.submit.new.self w.await_done.new.self w.in-Ok.ticket _ w.await_done.result c.requires.unused w.in-Ok.ensures.ok w.await_done.ensures.seats w.await_done.ensures.told)
    | in-Err w ↦
        subst (λ (answer : Result (Outcome g.row.B.Denot g.row.B-Key.Denot g.row.B-Out.Denot) Refusal). IfOk answer (λ outcome. SawOne c.match-submit.pool outcome)) (sym w.result-is) tt
  ];
}
