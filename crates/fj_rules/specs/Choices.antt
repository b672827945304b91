-- Which task a worker takes next.
use Rattle.std.specs.Prelude.{ℕ, ◌+◌, ◌%◌, List, [], ◌∷◌, map, Option, None}
use Rattle.std.specs.List.{range_with_len}
use Rattle.fj_rules.specs.declared.event.Event.{Event}
use Rattle.fj_rules.specs.declared.mode.Mode.{Mode}
use Rattle.fj_rules.specs.declared.mode.Mode.TheVariants.{Async, Joining}
use Rattle.fj_rules.specs.declared.owner.Owner.{Owner}
use Rattle.fj_rules.specs.declared.owner.Owner.TheVariants.{Work}
use Rattle.fj_rules.specs.Bounds.{Bounds, Pool, queues_in, owner_at}
use Rattle.fj_rules.specs.Lists.{or_else, first_of, last_of}
use Rattle.fj_rules.specs.Queues.{queue}

-- from a worker's own queue: the oldest in async mode, the newest in joining mode
abbrev pub own_choice : Mode → List ℕ → Option ℕ
own_choice Async ts = first_of ts
own_choice Joining ts = last_of ts

-- the queues in the order of the scan
abbrev pub scan_order : Bounds → ℕ → List Owner
scan_order l r = map (λ i. owner_at l ((r + i) % queues_in l)) (range_with_len 0 (queues_in l))

-- the oldest task of the first queue that is not empty
unfoldable pub first_queued : List Event → List Owner → Option ℕ
first_queued h [] = None
first_queued h (o ∷ others) = or_else (first_of (queue h o)) (first_queued h others)

-- the task that the worker takes next: from its own queue, else the first that the scan from place r finds
unfoldable pub choice : Pool → List Event → ℕ → ℕ → Option ℕ
choice pool h w r = or_else (own_choice pool.mode (queue h (Work w))) (first_queued h (scan_order pool.limits r))
