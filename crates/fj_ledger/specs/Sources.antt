-- From which queue a task is taken, and from which end of it.
use Rattle.std.specs.Prelude.{ℕ, ◌≡◌, ◌<◌, List, length, Option}
use Rattle.fj_rules.specs.Bounds.{queues_in, owner_at}
use Rattle.fj_rules.specs.Lists.{first_of, last_of}
use Rattle.fj_rules.specs.Queues.{queue}
use Rattle.fj_rules.specs.Choices.{choice}
use Rattle.fj_rules.specs.Runs.{Past}
use Rattle.fj_queues.specs.Queues.{without_first, without_last}
use Rattle.fj_ledger.specs.declared.queue_end.QueueEnd.{QueueEnd}
use Rattle.fj_ledger.specs.declared.queue_end.QueueEnd.TheVariants.{Oldest, Newest}

-- the number of the queue
abbrev pub queue_of : QueueEnd → ℕ
queue_of (Oldest q) = q
queue_of (Newest q) = q

-- the task at that end of a queue
abbrev pub end_of : QueueEnd → List ℕ → Option ℕ
end_of (Oldest q) ts = first_of ts
end_of (Newest q) ts = last_of ts

-- the queue without it
abbrev pub rest_of : QueueEnd → List ℕ → List ℕ
rest_of (Oldest q) ts = without_first ts
rest_of (Newest q) ts = without_last ts

-- the queue of a history
abbrev pub tasks_there : Past → QueueEnd → List ℕ
tasks_there past source = queue past.events (owner_at past.pool.limits (queue_of source))

-- the task of a history there
abbrev pub task_at : Past → QueueEnd → Option ℕ
task_at past source = end_of source (tasks_there past source)

-- the worker's choice is there
pub record IsChosenFrom (past : Past) (w r : ℕ) (source : QueueEnd) : Type 0 where
  pub within : queue_of source < queues_in past.pool.limits
  pub chosen : choice past.pool past.events w r ≡ task_at past source
  pub filled : 0 < length (tasks_there past source)
