use Rattle.std.proofs.Common.{◌<◌, ◌++◌, ◌∙◌, take, length, rules}
use Rattle.std.proofs.lemmas.Result.{MatchResult-weaker}
use Rattle.fj_streams.proofs.Bytes.{consumes_twice, consumes_kept, read_end}
use Rattle.fj_streams.proofs.CallsMade.{goes_failed, goes_fine, goes_forever, goes_further}
use Rattle.fj_trees.proofs.Inputs.{read_part, read_whole, tells_fine}
use Rattle.fj_trees.proofs.tree_input.read_tree.Goals as goal
use Rattle.fj_trees.proofs.tree_input.read_tree.Goals.{in-Ok-pull+in-Ok-feed_all, in-Err+else-ne}

pub returns-in-Err-feed_all-clause-err : goal.returns-in-Err-feed_all-clause-err
returns-in-Err-feed_all-clause-err g c = λ input is.
    let so_far = c.loop-reads.invariant.0 in
    let part = read_part _ _ (so_far.0 ++ take c.in-Ok-pull.n c.pull.new.buf) input (consumes_twice _ _ _ _ _ so_far.1 c.in-Ok-pull.ensures.bytes.0) is in
    rw part.1 (c.in-Err-feed_all.ensures.err so_far.0 part.0 so_far.2)

pub returns-in-Ok-eq0-clause-text : goal.returns-in-Ok-eq0-clause-text
returns-in-Ok-eq0-clause-text g c =
    let so_far = c.loop-reads.invariant.0 in
    let room : 0 < length c.pull.new.buf = search rules in
    let end = read_end _ _ _ so_far.0 c.pull.new.buf c.in-Ok-eq0.field-0 so_far.1 c.in-Ok-eq0.ensures.bytes c.in-Ok-eq0.field-0-test room in
    MatchResult-weaker c.finish.result c.finish.ensures.ok (λ nodes whole input is. read_whole _ _ _ input end is ∙ whole so_far.0 so_far.2) (λ _ same. same)

pub returns-in-Ok-eq0-clause-err : goal.returns-in-Ok-eq0-clause-err
returns-in-Ok-eq0-clause-err g c =
    let so_far = c.loop-reads.invariant.0 in
    let room : 0 < length c.pull.new.buf = search rules in
    let end = read_end _ _ _ so_far.0 c.pull.new.buf c.in-Ok-eq0.field-0 so_far.1 c.in-Ok-eq0.ensures.bytes c.in-Ok-eq0.field-0-test room in
    MatchResult-weaker c.finish.result c.finish.ensures.err (λ _ same. same) (λ fault wrong input is. rw (read_whole _ _ _ input end is) (wrong so_far.0 so_far.2))

pub returns-in-Ok-eq0-clause-told : goal.returns-in-Ok-eq0-clause-told
returns-in-Ok-eq0-clause-told g c =
    let goes = goes_further _ _ _ _ 0 c.loop-reads.invariant.1 (c.in-Ok-eq0.ensures.counts.0 c.in-Ok-eq0.field-0-test) in
    MatchResult-weaker c.finish.result c.finish.ensures.no_read (λ _ same. same) (λ fault other. tells_fine fault _ _ other (goes_fine _ _ _ goes))

pub returns-in-Err-feed_all-clause-told : goal.returns-in-Err-feed_all-clause-told
returns-in-Err-feed_all-clause-told g c =
    let goes = goes_further _ _ _ _ 1 c.loop-reads.invariant.1 (c.in-Ok-pull.ensures.counts.1 (search rules)) in
    tells_fine _ _ _ c.in-Err-feed_all.ensures.no_read (goes_fine _ _ _ goes)

pub returns-then-ne-clause-told : goal.returns-then-ne-clause-told
returns-then-ne-clause-told g c = goes_failed _ _ _ _ c.loop-reads.invariant.1 (c.in-Err.ensures.counts.0 (search rules))

pub returns-clause-told : goal.returns-clause-told
returns-clause-told g c = goes_forever _ _ _ c.loop-reads.invariant.1 c.loop-reads-test.false

pub loop-reads-preserved : goal.loop-reads-preserved
loop-reads-preserved g c =
    let so_far = c.loop-reads.invariant.0 in
    elim c.match-pull.branch [
      | in-Ok-pull+in-Ok-feed_all w ↦ rw w.reader-is (
        (
          so_far.0 ++ take w.in-Ok-pull.n c.pull.new.buf,
          consumes_twice _ _ _ _ _ so_far.1 w.in-Ok-pull.ensures.bytes.0,
          w.in-Ok-feed_all.ensures.ok so_far.0 so_far.2,
        ),
        goes_further _ _ _ _ 1 c.loop-reads.invariant.1 (w.in-Ok-pull.ensures.counts.1 (search rules)),
      )
      | in-Err+else-ne w ↦ rw w.reader-is (
        (so_far.0, consumes_kept _ _ _ _ so_far.1 w.in-Err.ensures.bytes, so_far.2),
        goes_further _ _ _ _ 1 c.loop-reads.invariant.1 (w.in-Err.ensures.counts.1 (search rules)),
      )
    ]
