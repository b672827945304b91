-- The parameters of a pool.
use Rattle.std.specs.Prelude.{ℕ, ◌≡◌, ◌+◌, ◌-◌, ◌^◌, ◌≤◌, ◌<◌, nat_lt, if◌then◌else◌, List, map}
use Rattle.std.specs.List.{range_with_len}
use Rattle.fj_rules.specs.declared.epoch.TheConstants.{MAX_EVENTS_AND_SEALS}
use Rattle.fj_rules.specs.declared.limits.TheConstants.{MAX_WORKERS, MAX_SUBMITTERS, MAX_TASKS, MAX_EVENTS, MAX_PENDING}
use Rattle.fj_rules.specs.declared.mode.Mode.{Mode}
use Rattle.fj_rules.specs.declared.owner.Owner.{Owner}
use Rattle.fj_rules.specs.declared.owner.Owner.TheVariants.{Sub, Work}

-- how many workers and submitters there are, how many tasks may be kept, and how many events there may be since the last seal
pub record Bounds : Type 0 where
  pub workers : ℕ
  pub submitters : ℕ
  pub tasks : ℕ
  pub events : ℕ

abbrev pub bounds : ℕ → ℕ → ℕ → ℕ → Bounds
bounds workers submitters tasks events = record { workers = workers; submitters = submitters; tasks = tasks; events = events }

-- each limit is in its range
pub record IsWithin (workers submitters tasks events : ℕ) : Type 0 where
  pub some_workers : 1 ≤ workers
  pub few_workers : workers ≤ MAX_WORKERS
  pub some_submitters : 1 ≤ submitters
  pub few_submitters : submitters ≤ MAX_SUBMITTERS
  pub some_tasks : 1 ≤ tasks
  pub few_tasks : tasks ≤ MAX_TASKS
  pub some_events : 1 ≤ events
  pub few_events : events ≤ MAX_EVENTS

-- the limits that definitions and code name, as numbers
pub record AreNumbers : Type 0 where
  pub workers : MAX_WORKERS ≡ 32
  pub submitters : MAX_SUBMITTERS ≡ 32
  pub tasks : MAX_TASKS ≡ 4096
  pub events : MAX_EVENTS ≡ 1048576
  pub pending : MAX_PENDING ≡ 65535
  pub sealed : MAX_EVENTS_AND_SEALS ≡ 2 ^ 62

-- a pool: the order in which a worker takes its own tasks, and the limits
pub record Pool : Type 0 where
  pub mode : Mode
  pub limits : Bounds

-- how many queues there are: first the submitters', then the workers'
abbrev pub queues_in : Bounds → ℕ
queues_in l = l.submitters + l.workers

-- the owner of the queue with this number
abbrev pub owner_at : Bounds → ℕ → Owner
owner_at l n = if nat_lt n l.submitters then Sub n else Work (n - l.submitters)

-- the number of an owner's queue
abbrev pub queue_number : Bounds → Owner → ℕ
queue_number l (Sub s) = s
queue_number l (Work w) = l.submitters + w

-- the owner is one of the pool's
abbrev pub IsOwner : Bounds → Owner → Type 0
IsOwner l (Sub s) = s < l.submitters
IsOwner l (Work w) = w < l.workers

unfoldable pub owners : Bounds → List Owner
owners l = map (owner_at l) (range_with_len 0 (queues_in l))

unfoldable pub workers : Bounds → List ℕ
workers l = range_with_len 0 l.workers
