-- What a history says of each task: a row.
use Rattle.std.specs.Prelude.{ℕ, Bool, false, ◌+◌, ◌==◌, if◌then◌else◌, List, [], ◌∷◌, Option, Some, None, map}
use Rattle.fj_rules.specs.declared.event.Event.{Event}
use Rattle.fj_rules.specs.declared.event.Event.TheVariants.{Out, Skip, End, Fire, Pass, Hooked}
use Rattle.fj_rules.specs.declared.kind.Kind.{Kind}
use Rattle.fj_rules.specs.declared.kind.Kind.TheVariants.{Plain}
use Rattle.fj_rules.specs.declared.owner.Owner.{Owner}
use Rattle.fj_rules.specs.Lists.{or_else, first_said, number_if}
use Rattle.fj_rules.specs.Tasks.{tasks, accepted_by, released_by, kind}
use Rattle.fj_rules.specs.Queues.{taken_by}
use Rattle.fj_rules.specs.Statuses.{status}
use Rattle.fj_rules.specs.Completers.{pending}
use Rattle.fj_rules.specs.Places.{owner_by, place}
use Rattle.fj_story.specs.declared.row.TaskMoments.{TaskMoments}
use Rattle.fj_story.specs.declared.row.TaskRow.{TaskRow}

-- ---- when

-- the number of a task whose body this event ends
abbrev pub body_ended_by : Event → Option ℕ
body_ended_by (End t w) = Some t
body_ended_by _ = None

-- the completer that this event fires
abbrev pub fired_by : Event → Option ℕ
fired_by (Fire c how) = Some c
fired_by _ = None

-- the completer that this event passes
abbrev pub passed_by : Event → Option ℕ
passed_by (Pass c) = Some c
passed_by _ = None

-- the completer whose completion action this event ends
abbrev pub hooked_by : Event → Option ℕ
hooked_by (Hooked c) = Some c
hooked_by _ = None

-- whether it is this number
abbrev pub is_number : Option ℕ → ℕ → Bool
is_number (Some u) t = u == t
is_number None t = false

-- the number of the last of these events that says so of the task, where so many events came before them
unfoldable pub moment_from : (Event → Option ℕ) → ℕ → List Event → ℕ → Option ℕ
moment_from says before [] t = None
moment_from says before (e ∷ later) t = or_else (moment_from says (before + 1) later t) (number_if (is_number (says e) t) (before + 1))

-- the number, from 1, of the last event that says so of the task
unfoldable pub moment : (Event → Option ℕ) → List Event → ℕ → Option ℕ
moment says h t = moment_from says 0 h t

unfoldable pub moments : List Event → ℕ → TaskMoments
moments h t = record {
  accepted = moment accepted_by h t;
  taken = moment taken_by h t;
  ended = moment body_ended_by h t;
  fired = moment fired_by h t;
  passed = moment passed_by h t;
  hooked = moment hooked_by h t;
  released = moment released_by h t;
}

-- ---- who

-- the owner of the queue into which it was accepted
unfoldable pub home : List Event → ℕ → Option Owner
home h t = first_said (owner_by t) h

-- the worker that takes the task from its queue by this event, to run it or to skip it
abbrev pub taker_by : ℕ → Event → Option ℕ
taker_by t (Out u w) = if u == t then Some w else None
taker_by t (Skip u w) = if u == t then Some w else None
taker_by t _ = None

-- the last value that an event gives
abbrev pub last_said : {A : Type 0} → (Event → Option A) → List Event → Option A
last_said says [] = None
last_said says (e ∷ later) = or_else (last_said says later) (says e)

-- the worker that took it from its queue
unfoldable pub taker : List Event → ℕ → Option ℕ
taker h t = last_said (taker_by t) h

-- ---- rows

abbrev pub or_plain : Option Kind → Kind
or_plain (Some k) = k
or_plain None = Plain

-- the row of an accepted task
unfoldable pub row : List Event → ℕ → TaskRow
row h t = record {
  kind = or_plain (kind h t);
  queue = home h t;
  worker = taker h t;
  pending = pending h t;
  place = place h t;
  status = status h t;
  at = moments h t;
}

-- the rows of all accepted tasks, in order
unfoldable pub rows : List Event → List TaskRow
rows h = map (row h) (tasks h)
