use Rattle.std.proofs.Common.{⊎_elim, inl, inr, sym, subst}
use Rattle.fj_streams.specs.Tells.{seen}
use Rattle.fj_cli.specs.Failures.{NamesFile}
use Rattle.fj_cli.specs.Statuses.{EndsCommand}
use Rattle.fj_commands.proofs.Failed.{copy_failed, either_call}
use Rattle.fj_cli.proofs.program.run.Goals as goal

pub returns-in-Replay-clause-failed : goal.returns-in-Replay-clause-failed
returns-in-Replay-clause-failed g c = λ five. inl (c.run_replay.ensures.failed five)

pub returns-in-Upgrade-clause-failed : goal.returns-in-Upgrade-clause-failed
returns-in-Upgrade-clause-failed g c = λ five. inl (c.run_upgrade.ensures.failed five)

pub returns-in-Trace-clause-failed : goal.returns-in-Trace-clause-failed
returns-in-Trace-clause-failed g c = λ five. inl (c.run_trace.ensures.failed five)

pub returns-in-Compute-clause-failed : goal.returns-in-Compute-clause-failed
returns-in-Compute-clause-failed g c = λ five.
    inl (either_call (seen g.R.Source.remaining g.R.Source.calls c.args.input.now c.compute.new.input) (g.W.Sink.calls c.args.out.now) (g.W.Sink.calls c.compute.new.out) (c.compute.ensures.failed five))

pub returns-in-Test-clause-failed : goal.returns-in-Test-clause-failed
returns-in-Test-clause-failed g c = λ five.
    inl (either_call (seen g.R.Source.remaining g.R.Source.calls c.args.input.now c.run_test.new.input) (g.W.Sink.calls c.args.out.now) (g.W.Sink.calls c.run_test.new.out) (c.run_test.ensures.failed five))

pub returns-in-Explain-clause-failed : goal.returns-in-Explain-clause-failed
returns-in-Explain-clause-failed g c = λ five.
    inl (either_call (seen g.R.Source.remaining g.R.Source.calls c.args.input.now c.run_explain.new.input) (g.W.Sink.calls c.args.out.now) (g.W.Sink.calls c.run_explain.new.out) (c.run_explain.ensures.failed five))

pub returns-in-Record-clause-failed : goal.returns-in-Record-clause-failed
returns-in-Record-clause-failed g c = λ five.
    let either = either_call (seen g.R.Source.remaining g.R.Source.calls c.args.input.now c.run_record.new.input) (g.W.Sink.calls c.args.out.now) (g.W.Sink.calls c.run_record.new.out) in
    ⊎_elim (λ read. inl (either (inl read))) (⊎_elim (λ written. inl (either (inr written))) (λ file. inr (subst (λ asked. NamesFile asked) (sym c.in-Record.is) file))) (c.run_record.ensures.failed five)

pub returns-in-Check-clause-failed : goal.returns-in-Check-clause-failed
returns-in-Check-clause-failed g c = λ five.
    inl (copy_failed (seen g.R.Source.remaining g.R.Source.calls c.args.input.now c.run_check.new.input) (g.W.Sink.calls c.args.out.now) (g.W.Sink.calls c.run_check.new.out) (c.run_check.ensures.failed five))

pub returns-in-View-clause-ends : goal.returns-in-View-clause-ends
returns-in-View-clause-ends g c =
    subst (λ asked. EndsCommand asked c.run_view.result (g.R.Source.remaining c.args.input.now) (g.R.Source.remaining c.run_view.new.input) (g.W.Sink.contents c.args.out.now) (g.W.Sink.contents c.run_view.new.out)) (sym c.in-View.is) c.run_view.ensures.ends

pub returns-in-View-clause-failed : goal.returns-in-View-clause-failed
returns-in-View-clause-failed g c = λ five.
    ⊎_elim
    (λ copy. inl (copy_failed (seen g.R.Source.remaining g.R.Source.calls c.args.input.now c.run_view.new.input) (g.W.Sink.calls c.args.out.now) (g.W.Sink.calls c.run_view.new.out) copy))
    (λ file. inr (subst (λ asked. NamesFile asked) (sym c.in-View.is) file))
    (c.run_view.ensures.failed five)
