-- Counts of tasks.
use Rattle.std.specs.Prelude.{ℕ, List, length}
use Rattle.std.specs.List.{range_with_len, sum_by}
use Rattle.fj_rules.specs.declared.event.Event.{Event}
use Rattle.fj_rules.specs.Bounds.{Bounds, owner_at, queues_in}
use Rattle.fj_rules.specs.Queues.{queue}

-- how many tasks are queued, for all owners
abbrev pub queued : Bounds → List Event → ℕ
queued l h = sum_by (λ i. length (queue h (owner_at l i))) (range_with_len 0 (queues_in l))
