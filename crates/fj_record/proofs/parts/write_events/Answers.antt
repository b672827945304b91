use Rattle.std.proofs.Common.{ℕ, ◌≡◌, ◌+◌, ◌-◌, List, take, drop, arith}
use Rattle.std.specs.Prelude.{Result, Err}
use Rattle.std.proofs.Math.Seq.{take-add}
use Rattle.fj_rules.specs.declared.event.Event.{Event}
use Rattle.fj_history.specs.Entries.{AllHaveCodes}
use Rattle.fj_history.proofs.Entries.CodeLaws.{codes_then}
use Rattle.fj_record.specs.declared.fault.WriteFault.{WriteFault}
use Rattle.fj_record.proofs.Written.{events_more, events_whole, returned, written_then}
use Rattle.fj_record.proofs.parts.write_events.Goals as goal

-- the codes of the first n events, and of the m behind them
codes_more : (events : List Event) (n m : ℕ) → AllHaveCodes (take n events) → AllHaveCodes (take (n + m - n) (drop n events)) → AllHaveCodes (take (n + m) events)
codes_more events n m first next =
    let count : n + m - n ≡ m = omega arith in
    rw (take-add n m events) (codes_then (take n events) (take m (drop n events)) first (rw count at next))

pub returns-in_err-write_chunk-clause-written : goal.returns-in_err-write_chunk-clause-written
returns-in_err-write_chunk-clause-written g c =
    let stopped : Result Unit WriteFault = Err c.in_err-write_chunk.field-0.0 in
    let so_far = c.loop-at.invariant in
    returned c.from_residual.result c.in_err-write_chunk.field-0.0 _ _ _ _ _ _ _ c.from_residual.ensures.1
    (events_whole c.args.events.now c.loop-at.at c.min-count.result)
    (written_then stopped _ _ _ _ _ _ _ _ (so_far.written, so_far.fine) c.in_err-write_chunk.ensures.written)

pub loop-at-preserved : goal.loop-at-preserved
loop-at-preserved g c =
    let so_far = c.loop-at.invariant in
    let both = written_then c.write_chunk.result _ _ _ _ _ _ _ _ (so_far.written, so_far.fine) c.write_chunk.ensures.written in
    let now = rw c.in_ok-write_chunk.was at both in
    record {
      within = (let least = c.min-count.ensures in let before = c.loop-at-test.true in omega (arith, so_far.within));
      written = rw (events_more c.args.events.now c.loop-at.at c.min-count.result) now.0;
      codes = codes_more c.args.events.now c.loop-at.at c.min-count.result so_far.codes c.in_ok-write_chunk.ensures.codes;
      fine = now.1;
    }
