use Rattle.std.proofs.Common.{◌≡◌, take, vec_len, vec_capacity}
use Rattle.fj_rules.specs.Runs.{RunsFrom}
use Rattle.fj_machine.proofs.runs.make_steps.Given as goal

-- the replies so far are those to the steps so far, and the room for the others is there
abbrev pub invariant-loop-asked : goal.invariant-loop-asked
invariant-loop-asked l = record {
  pool : l.machine.pool ≡ l.fn.machine.pool;
  len : vec_len l.replies ≡ l.asked-index;
  capacity : vec_capacity l.replies ≡ vec_capacity l.fn.replies;
  runs : RunsFrom l.fn.machine (take l.asked-index l.steps) l.replies.items l.machine;
}
