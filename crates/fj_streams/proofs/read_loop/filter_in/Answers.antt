use Rattle.std.proofs.Common.{◌<◌, ◌++◌, ◌≡◌, ◌-◌, ◌^◌, ◌∙◌, nat_le, true, ap, sym, length, take, rules, inl, inr}
use Rattle.std.proofs.lemmas.Result.{MatchResult-weaker, err_from_is_err_and, on_ok_weaker}
use Rattle.fj_streams.specs.declared.read_loop.TheConstants.{CHUNK}
use Rattle.fj_streams.specs.Calls.{HasFailed, IsFine}
use Rattle.fj_streams.specs.Cuts.{lines}
use Rattle.std.proofs.lemmas.Bool.{leb-true}
use Rattle.fj_streams.proofs.Bytes.{consumes_twice, consumes_kept, read_end}
use Rattle.fj_streams.proofs.Begun.{all_some}
use Rattle.fj_streams.proofs.CallsMade.{fine_failed, fine_twice, goes_failed, goes_fine, goes_forever, goes_further}
use Rattle.fj_streams.proofs.CallsTold.{ended_told, if_ok, told_later, writer_told}
use Rattle.fj_streams.proofs.FaultsFound.{ended, finished, flushed_at, good_at}
use Rattle.fj_streams.proofs.Starving.{starves_from}
use Rattle.fj_streams.proofs.read_loop.filter_in.Goals as goal
use Rattle.fj_streams.proofs.read_loop.filter_in.Goals.{in-Ok+in_ok-take_all-in-Ok+else-is_err, in-Err+else-ne}

pub returns-in-Ok-eq0-clause-ok : goal.returns-in-Ok-eq0-clause-ok
returns-in-Ok-eq0-clause-ok g c =
    let so_far = c.loop-reads.invariant.0 in
    let room : 0 < length c.pull.new.buf = search rules in
    let end = read_end _ _ _ so_far.0 c.pull.new.buf c.in-Ok-eq0.field-0 so_far.1 c.in-Ok-eq0.ensures.bytes c.in-Ok-eq0.field-0-test room in
    on_ok_weaker c.finish.result (λ done. (so_far.0, finished g.F.LineFilter.rules _ so_far.0 _ _ _ _ _ _ end.0 end.1 so_far.2 done.0 done.1)) c.finish.ensures.ok

pub returns-in-Ok-eq0-clause-fine : goal.returns-in-Ok-eq0-clause-fine
returns-in-Ok-eq0-clause-fine g c =
    let goes = goes_further _ _ _ _ 0 c.loop-reads.invariant.1 (c.in-Ok-eq0.ensures.counts.0 c.in-Ok-eq0.field-0-test) in
    if_ok c.finish.result (goes_fine _ _ _ goes, c.loop-reads.invariant.2)

pub returns-in-Ok-eq0-clause-err : goal.returns-in-Ok-eq0-clause-err
returns-in-Ok-eq0-clause-err g c =
    let so_far = c.loop-reads.invariant.0 in
    let room : 0 < length c.pull.new.buf = search rules in
    let end = read_end _ _ _ so_far.0 c.pull.new.buf c.in-Ok-eq0.field-0 so_far.1 c.in-Ok-eq0.ensures.bytes c.in-Ok-eq0.field-0-test room in
    let goes = goes_further _ _ _ _ 0 c.loop-reads.invariant.1 (c.in-Ok-eq0.ensures.counts.0 c.in-Ok-eq0.field-0-test) in
    MatchResult-weaker c.finish.result c.finish.ensures.err (λ _ same. same) (λ fault early. (
      so_far.0,
      record {
        read = end.0;
        means = ended g.F.LineFilter.rules _ fault so_far.0 c.loop-reads.buffer c.loop-reads.state _ _ _ early so_far.2 end.1;
      },
      ended_told g.F.LineFilter.rules fault c.loop-reads.buffer c.loop-reads.state so_far.0 _ _ _ _ early (goes_fine _ _ _ goes) c.loop-reads.invariant.2,
    ))

pub returns-then-is_full-clause-err : goal.returns-then-is_full-clause-err
returns-then-is_full-clause-err g c =
    let so_far = c.loop-reads.invariant.0 in
    let full : nat_le (2 ^ 64 - 1 - CHUNK) (length (lines so_far.0)) ≡ true = ap (nat_le (2 ^ 64 - 1 - CHUNK)) (sym so_far.2.count) ∙ sym c.is_full.ensures ∙ c.if-is_full.true in (
      so_far.0,
      record {
        read = so_far.1;
        means = (good_at g.F.LineFilter.rules _ _ _ _ _ _ so_far.2, so_far.2.written);
      },
      (inr (leb-true _ _ full), c.loop-reads.invariant.2),
    )

pub returns-then-ne-clause-err : goal.returns-then-ne-clause-err
returns-then-ne-clause-err g c =
    let so_far = c.loop-reads.invariant.0 in (
      so_far.0,
      record {
        read = consumes_kept _ _ _ _ so_far.1 c.in-Err.ensures.bytes;
        means = (good_at g.F.LineFilter.rules _ _ _ _ _ _ so_far.2, so_far.2.written);
      },
      (inl (goes_failed _ _ _ _ c.loop-reads.invariant.1 (c.in-Err.ensures.counts.0 (search rules))), c.loop-reads.invariant.2),
    )

pub returns-in_err-take_all-in-Ok-clause-err : goal.returns-in_err-take_all-in-Ok-clause-err
returns-in_err-take_all-in-Ok-clause-err g c =
    let so_far = c.loop-reads.invariant.0 in
    let fed = c.in_err-take_all-in-Ok.ensures in
    let goes = goes_further _ _ _ _ 1 c.loop-reads.invariant.1 (c.in-Ok.ensures.counts.1 (search rules)) in
    let p = err_from_is_err_and c.from_residual.result c.from_residual.ensures.1 in
    rw (p.1, p.2) (
      so_far.0 ++ take c.in-Ok.n c.pull.new.buf,
      record {
        read = consumes_twice _ _ _ _ _ so_far.1 c.in-Ok.ensures.bytes.0;
        means = fed.err _ so_far.0 (g.W.Sink.contents c.args.w.now) (g.R.Source.remaining c.pull.new.self) so_far.2;
      },
      writer_told _ _ _ _ _ _ (goes_fine _ _ _ goes) (told_later _ _ _ _ c.loop-reads.invariant.2 fed.told),
    )

pub returns-in_err-take_all-in-Ok-clause-memory : goal.returns-in_err-take_all-in-Ok-clause-memory
returns-in_err-take_all-in-Ok-clause-memory g c =
    let so_far = c.loop-reads.invariant.0 in
    let fed = c.in_err-take_all-in-Ok.ensures in
    let p = err_from_is_err_and c.from_residual.result c.from_residual.ensures.1 in
    rw (p.1, p.2) (starves_from g.F.LineFilter.rules g.F.LineFilter.needs_memory _ _ (so_far.0 ++ take c.in-Ok.n c.pull.new.buf) _ _ _ _
    (consumes_twice _ _ _ _ _ so_far.1 c.in-Ok.ensures.bytes.0)
    (fed.memory _ so_far.0 (g.W.Sink.contents c.args.w.now) so_far.2))

pub returns-then-is_err-clause-err : goal.returns-then-is_err-clause-err
returns-then-is_err-clause-err g c =
    let so_far = c.loop-reads.invariant.0 in
    let fed = c.in_ok-take_all-in-Ok.ensures in
    let at = flushed_at g.F.LineFilter.rules _ _ _ _ _ _ _ (fed.ok _ so_far.0 _ so_far.2) c.flush_whole.ensures.bytes in
    let goes = goes_further _ _ _ _ 1 c.loop-reads.invariant.1 (c.in-Ok.ensures.counts.1 (search rules)) in
    let failed : HasFailed (g.W.Sink.calls c.take_all.new.w) (g.W.Sink.calls c.flush_whole.new.w) = search rules in (
      so_far.0 ++ take c.in-Ok.n c.pull.new.buf,
      record {
        read = consumes_twice _ _ _ _ _ so_far.1 c.in-Ok.ensures.bytes.0;
        means = all_some _ _ _ at.written;
      },
      (goes_fine _ _ _ goes, fine_failed _ _ _ (fine_twice _ _ _ c.loop-reads.invariant.2 fed.fine) failed),
    )

pub returns-clause-err : goal.returns-clause-err
returns-clause-err g c =
    let so_far = c.loop-reads.invariant.0 in (
      so_far.0,
      record {
        read = so_far.1;
        means = (good_at g.F.LineFilter.rules _ _ _ _ _ _ so_far.2, so_far.2.written);
      },
      (inl (goes_forever _ _ _ c.loop-reads.invariant.1 c.loop-reads-test.false), c.loop-reads.invariant.2),
    )

pub loop-reads-preserved : goal.loop-reads-preserved
loop-reads-preserved g c =
    let so_far = c.loop-reads.invariant.0 in
    elim c.match-pull.branch [
      | in-Ok+in_ok-take_all-in-Ok+else-is_err w ↦
          let fed = w.in_ok-take_all-in-Ok.ensures in
          let flushed : IsFine (g.W.Sink.calls w.take_all.new.w) (g.W.Sink.calls w.flush_whole.new.w) = search rules in
          rw (w.buffer-is, w.state-is, w.w-is) (
            (
              so_far.0 ++ take w.in-Ok.n c.pull.new.buf,
              consumes_twice _ _ _ _ _ so_far.1 w.in-Ok.ensures.bytes.0,
              flushed_at g.F.LineFilter.rules _ _ _ _ _ _ _ (fed.ok _ so_far.0 _ so_far.2) w.flush_whole.ensures.bytes,
            ),
            goes_further _ _ _ _ 1 c.loop-reads.invariant.1 (w.in-Ok.ensures.counts.1 (search rules)),
            fine_twice _ _ _ (fine_twice _ _ _ c.loop-reads.invariant.2 fed.fine) flushed,
            search rules,
          )
      | in-Err+else-ne w ↦ rw (w.buffer-is, w.state-is, w.w-is) (
        (so_far.0, consumes_kept _ _ _ _ so_far.1 w.in-Err.ensures.bytes, so_far.2),
        goes_further _ _ _ _ 1 c.loop-reads.invariant.1 (w.in-Err.ensures.counts.1 (search rules)),
        c.loop-reads.invariant.2,
        search rules,
      )
    ]
