use Rattle.std.proofs.Common.{sym, subst}
use Rattle.std.specs.Prelude.{IfErr}
use Rattle.std.proofs.lemmas.Result.{MatchResult-weaker}
use Rattle.fj_streams.specs.Faults.{StopsAtLine}
use Rattle.fj_check.specs.declared.history_check.HistoryCheck.{HistoryCheck}
use Rattle.fj_check.specs.Rules.{check_rules}
use Rattle.fj_check.proofs.Found.{entry_stops, silent}
use Rattle.fj_check.proofs.history_check.HistoryCheckLineFilter.advance.Goals as goal

pub returns-in-Going-clause-err : goal.returns-in-Going-clause-err
returns-in-Going-clause-err g c =
    subst (λ (s : HistoryCheck). IfErr c.go_on.result (λ fault. StopsAtLine check_rules s c.args.line.now fault (g.W.Sink.contents c.args.w.now) (g.W.Sink.contents c.args.w.now))) (sym c.in-Going.is)
    (MatchResult-weaker c.go_on.result c.go_on.ensures.err (λ _ same. same) (λ fault stop. entry_stops c.in-Going.checker c.in-Going.events c.args.line.now fault _ stop))

pub returns-in-Start-clause-memory : goal.returns-in-Start-clause-memory
returns-in-Start-clause-memory g c = silent c.begin.result _

pub returns-in-Going-clause-memory : goal.returns-in-Going-clause-memory
returns-in-Going-clause-memory g c = silent c.go_on.result _
