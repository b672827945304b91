-- The pool that a heading is for.
use Rattle.std.specs.Prelude.{ℕ, Bool, ◌≡◌, ◌&&◌, nat_le, if◌then◌else◌, List, Option, Some, None, slice_index}
use Rattle.std.specs.Option.{option_and_then}
use Rattle.fj_rules.specs.declared.limits.TheConstants.{MAX_WORKERS, MAX_SUBMITTERS, MAX_TASKS, MAX_EVENTS}
use Rattle.fj_rules.specs.declared.mode.Mode.{Mode}
use Rattle.fj_rules.specs.Bounds.{Bounds, Pool}
use Rattle.fj_rules.specs.Pasts.{Past, fresh}
use Rattle.fj_lines.specs.Lines.{head_in}

-- the limits by the four numbers of a heading
abbrev pub limits_of : List ℕ → Bounds
limits_of numbers = record {
  workers = slice_index numbers 0;
  submitters = slice_index numbers 1;
  tasks = slice_index numbers 2;
  events = slice_index numbers 3;
}

-- whether each limit is in its range
abbrev pub is_within : Bounds → Bool
is_within l =
    (nat_le 1 l.workers && nat_le l.workers MAX_WORKERS)
    && ((nat_le 1 l.submitters && nat_le l.submitters MAX_SUBMITTERS)
    && ((nat_le 1 l.tasks && nat_le l.tasks MAX_TASKS) && (nat_le 1 l.events && nat_le l.events MAX_EVENTS)))

-- the pool of a heading, if its limits are in their ranges
abbrev pub pool_of : Mode × List ℕ → Option Pool
pool_of head = if is_within (limits_of head.1) then Some (record { mode = head.0; limits = limits_of head.1 }) else None

-- the pool of a line, if the line is a heading whose limits are in their ranges
abbrev pub pool_in : List ℕ → Option Pool
pool_in line = option_and_then pool_of (head_in line)

-- a new pool
abbrev pub start : Pool → Past
start p = fresh p.mode p.limits

-- the line is a heading with a limit out of its range
abbrev pub IsOutOfLimits : List ℕ → Type 0
IsOutOfLimits line = (head : Mode × List ℕ) × (head_in line ≡ Some head) × (pool_of head ≡ None)
