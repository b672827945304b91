use Rattle.std.proofs.Common.{◌≡◌, ◌≤◌, ◌+◌, ◌++◌, map, take, drop, vec_len, vec_capacity}
use Rattle.fj_rules.specs.Epochs.{MovesFrom}
use Rattle.fj_rules.specs.Parts.{Fits}
use Rattle.fj_machine.specs.Handed.{handed, seals_in, shown}
use Rattle.fj_machine.proofs.epochs.make_moves.Given as goal

-- the answers so far are those to the moves so far, the parts are those that were handed out, and the room for the others is there
abbrev pub invariant-loop-asked : goal.invariant-loop-asked
invariant-loop-asked l = record {
  pool : l.machine.pool ≡ l.fn.machine.pool;
  len : vec_len l.answers ≡ l.asked-index;
  capacity : vec_capacity l.answers ≡ vec_capacity l.fn.answers;
  part_room : vec_len l.parts + seals_in (drop l.asked-index l.moves) ≤ vec_capacity l.parts;
  runs : MovesFrom l.fn.machine (take l.asked-index l.moves) l.answers.items l.machine;
  parts : Fits l.fn.parts.items l.fn.machine → Fits l.parts.items l.machine;
  handed : map shown l.parts.items ≡ map shown l.fn.parts.items ++ handed l.fn.machine (take l.asked-index l.moves) l.answers.items;
}
