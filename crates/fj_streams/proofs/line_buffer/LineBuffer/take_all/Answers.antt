use Rattle.std.proofs.Common.{◌++◌, ◌∷◌, [], take}
use Rattle.std.proofs.lemmas.Result.{MatchResult-weaker, err_from_is_err_and, on_ok_weaker}
use Rattle.fj_streams.proofs.CallsMade.{fine_twice}
use Rattle.fj_streams.specs.declared.line_buffer.TheConstants.{LINE_FEED}
use Rattle.fj_streams.proofs.Lines.{no_line, one_line_more}
use Rattle.fj_streams.proofs.Steps.{at_next, at_rest, counted}
use Rattle.fj_streams.proofs.FaultsFound.{fault_next, fault_in_rest}
use Rattle.fj_streams.proofs.Starving.{starves_next, starves_in_rest}
use Rattle.fj_streams.proofs.line_buffer.LineBuffer.take_all.Goals as goal

pub returns-in_err-take_line-clause-err : goal.returns-in_err-take_line-clause-err
returns-in_err-take_line-clause-err g c =
    let so_far = c.loop-end.invariant in
    let found = c.in-Some.ensures in
    let p = err_from_is_err_and c.from_residual.result c.from_residual.ensures.1 in
    rw (p.1, p.2) (λ first b s ahead at. fault_next g.F.LineFilter.rules g.met.F.LineFilter.too_long first _ b _ so_far.0 _ c.in-Some.end _ _ s _ _ ahead so_far.1 found.0 found.1 (so_far.3 first b s at) c.in_err-take_line.ensures.err)

pub loop-end-preserved : goal.loop-end-preserved
loop-end-preserved g c =
    let so_far = c.loop-end.invariant in
    let found = c.in-Some.ensures in
    let made = c.in_ok-take_line.ensures in (
      so_far.0 ++ (take c.in-Some.end c.loop-end.rest.now ++ LINE_FEED ∷ []),
      one_line_more _ so_far.0 _ c.in-Some.end so_far.1 found.0.high found.1,
      counted c.loop-end.self _ _ so_far.0 _ made.kept so_far.2,
      λ first b s at. at_next g.F.LineFilter.rules first b so_far.0 _ c.in-Some.end _ _ _ _ s _ _ found.0 (so_far.3 first b s at) made.room made.next made.kept made.wrote,
      fine_twice _ _ _ so_far.4 made.fine,
    )

pub returns-clause-ok : goal.returns-clause-ok
returns-clause-ok g c =
    let so_far = c.loop-end.invariant in
    let none = no_line _ c.in_default.ensures in
    on_ok_weaker c.keep.result (λ kept first b s at. at_rest g.F.LineFilter.rules first b _ so_far.0 _ _ _ _ s _ so_far.1 none (so_far.3 first b s at) kept.0 kept.1) c.keep.ensures.ok

pub returns-clause-err : goal.returns-clause-err
returns-clause-err g c =
    let so_far = c.loop-end.invariant in
    let none = no_line _ c.in_default.ensures in
    MatchResult-weaker c.keep.result c.keep.ensures.err (λ _ same. same) (λ fault long first b s ahead at. fault_in_rest g.F.LineFilter.rules g.met.F.LineFilter.too_long first fault b _ so_far.0 _ _ _ s _ ahead so_far.1 none (so_far.3 first b s at) long)

pub returns-in_err-take_line-clause-memory : goal.returns-in_err-take_line-clause-memory
returns-in_err-take_line-clause-memory g c =
    let so_far = c.loop-end.invariant in
    let found = c.in-Some.ensures in
    let p = err_from_is_err_and c.from_residual.result c.from_residual.ensures.1 in
    rw (p.1, p.2) (λ first b s at. starves_next g.F.LineFilter.rules g.F.LineFilter.needs_memory first _ b _ so_far.0 _ c.in-Some.end _ _ s _ _ so_far.1 found.0 found.1 (so_far.3 first b s at) c.in_err-take_line.ensures.memory)

pub returns-clause-memory : goal.returns-clause-memory
returns-clause-memory g c =
    MatchResult-weaker c.keep.result c.keep.ensures.err (λ _ same. same) (λ fault long first b s at. starves_in_rest g.F.LineFilter.rules g.F.LineFilter.needs_memory first fault _ _ _ s _ long)
