use Rattle.std.proofs.Common.{◌≡◌, ◌+◌, ◌-◌, ◌%◌, map}
use Rattle.std.specs.List.{range_with_len}
use Rattle.fj_queues.specs.Queues.{first_filled, places_from}
use Rattle.fj_queues.specs.Tables.{lists_of}
use Rattle.fj_queues.proofs.queues.Queues.first_from.Given as goal

-- the first from here on is the first of all
abbrev pub invariant-loop-i : goal.invariant-loop-i
invariant-loop-i l =
    let lists = lists_of l.self-inside.cells.table.items l.self-inside.ends.items in
    first_filled lists (map (λ k. (l.r + k) % l.owners) (range_with_len l.i (l.owners - l.i))) ≡ first_filled lists (places_from l.owners l.r)
