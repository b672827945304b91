-- Which tasks a history has, and what they are. A history is the list of the events so far, the oldest first.
use Rattle.std.specs.Prelude.{ℕ, Bool, true, false, ◌&&◌, not, ◌==◌, if◌then◌else◌, List, length, Option, Some, None}
use Rattle.std.specs.List.{filter, filter_map}
use Rattle.fj_rules.specs.declared.event.Event.{Event}
use Rattle.fj_rules.specs.declared.event.Event.TheVariants.{Acc, Make, Rel}
use Rattle.fj_rules.specs.declared.kind.Kind.{Kind}
use Rattle.fj_rules.specs.declared.kind.Kind.TheVariants.{Plain, Completer}
use Rattle.fj_rules.specs.declared.kind.SubmittedKind.{SubmittedKind}
use Rattle.fj_rules.specs.declared.kind.SubmittedKind.TheVariants as submitted
use Rattle.fj_rules.specs.Lists.{is_in, first_said}

-- the number of a task that this event accepts
abbrev pub accepted_by : Event → Option ℕ
accepted_by (Acc t o k) = Some t
accepted_by (Make t k) = Some t
accepted_by _ = None

-- the accepted tasks, in order
unfoldable pub tasks : List Event → List ℕ
tasks h = filter_map accepted_by h

-- how many tasks were accepted
unfoldable pub accepted : List Event → ℕ
accepted h = length (tasks h)

abbrev pub released_by : Event → Option ℕ
released_by (Rel t) = Some t
released_by _ = None

unfoldable pub released : List Event → List ℕ
released h = filter_map released_by h

-- accepted and not released
unfoldable pub is_kept : List Event → ℕ → Bool
is_kept h t = is_in t (tasks h) && not (is_in t (released h))

-- how many tasks are kept
unfoldable pub live : List Event → ℕ
live h = length (filter (is_kept h) (tasks h))

-- the kind that the task was accepted with
abbrev pub kind_by : ℕ → Event → Option Kind
kind_by t (Acc u o k) = if u == t then Some k else None
kind_by t (Make u k) = if u == t then Some k else None
kind_by t _ = None

unfoldable pub kind : List Event → ℕ → Option Kind
kind h t = first_said (kind_by t) h

-- a submitted task has no parent
abbrev pub submitted_kind : SubmittedKind → Kind
submitted_kind submitted.Plain = Plain
submitted_kind (submitted.Completer relay count) = Completer relay count None

abbrev pub is_completer_kind : Option Kind → Bool
is_completer_kind (Some (Completer relay count parent)) = true
is_completer_kind (Some Plain) = false
is_completer_kind None = false

abbrev pub count_in : Option Kind → ℕ
count_in (Some (Completer relay count parent)) = count
count_in (Some Plain) = 0
count_in None = 0

abbrev pub relay_in : Option Kind → Bool
relay_in (Some (Completer relay count parent)) = relay
relay_in (Some Plain) = false
relay_in None = false

abbrev pub parent_in : Option Kind → Option ℕ
parent_in (Some (Completer relay count parent)) = parent
parent_in (Some Plain) = None
parent_in None = None

unfoldable pub is_completer : List Event → ℕ → Bool
is_completer h t = is_completer_kind (kind h t)

unfoldable pub parent : List Event → ℕ → Option ℕ
parent h t = parent_in (kind h t)
