use Rattle.std.proofs.Common.{◌≡◌, replicate}
use Rattle.fj_queues.specs.Tables.{no_ends}
use Rattle.fj_queues.proofs.queues.Queues.new.Given as goal

-- the queues so far are empty
abbrev pub invariant-loop-owner : goal.invariant-loop-owner
invariant-loop-owner l = l.ends.items ≡ replicate l._owner no_ends
