-- How a script names its tasks: by numbers, or by names.
use Rattle.std.specs.Prelude.{ℕ, ◌≡◌, Bool, true, false, List, [], ◌∷◌, ◌++◌, length, Option, Some, None, option_map, unwrap_or, slice_get, codes, decimal}
use Rattle.std.specs.List.{list_any, position_or_len}
use Rattle.std.specs.Str.{bytes_eq}
use Rattle.fj_lines.specs.declared.read.TheConstants.{LINE_FEED}
use Rattle.fj_rules.specs.declared.kind.Kind.{Kind}
use Rattle.fj_rules.specs.declared.kind.Kind.TheVariants as kind
use Rattle.fj_lines.specs.Lines.{NamedKind}
use Rattle.fj_lines.specs.declared.line.ForkedKind.TheVariants as named
use Rattle.fj_rules.specs.declared.said.Said.{Said}
use Rattle.fj_rules.specs.declared.said.Said.TheVariants as said
use Rattle.fj_rules.specs.declared.event.Event.{Event}
use Rattle.fj_rules.specs.Bounds.{Bounds}
use Rattle.fj_rules.specs.Lists.{is_in}
use Rattle.fj_rules.specs.Tasks.{accepted, tasks}
use Rattle.fj_lines.specs.Words.{joined}
use Rattle.fj_lines.specs.Replies.{reply_words}
use Rattle.fj_replay.specs.declared.task_naming.TaskNaming.{TaskNaming}
use Rattle.fj_replay.specs.declared.task_naming.TaskNaming.TheVariants.{Numbers, Names}
use Rattle.fj_replay.specs.declared.replied.Replied.{Replied}
use Rattle.fj_replay.specs.declared.replied.Replied.TheVariants.{Said as Says, NameTaken, Sealed, Epoch}

-- ---- from names to numbers. Names are in the order in which their tasks were accepted, so each is at its task's number (`AreNamesOf`)

-- the number of the task with this name. A name that belongs to no task means the next number, which no task has yet
abbrev pub number_of : List (List ℕ) → List ℕ → ℕ
number_of names name = position_or_len (bytes_eq name) names

-- whether the name belongs to a task
abbrev pub is_taken : List (List ℕ) → List ℕ → Bool
is_taken names name = list_any (bytes_eq name) names

-- the kind, with the number of its parent, where this tells the number of a name
abbrev pub kind_by : (List ℕ → ℕ) → NamedKind → Kind
kind_by number named.Plain = kind.Plain
kind_by number (named.Completer relay count parent) = kind.Completer relay count (option_map number parent)

-- the same by the names so far
abbrev pub numbered_parent : List (List ℕ) → Option (List ℕ) → Option ℕ
numbered_parent names parent = option_map (number_of names) parent

abbrev pub numbered_kind : List (List ℕ) → NamedKind → Kind
numbered_kind names kind = kind_by (number_of names) kind

-- whether the name belongs to a task, by this naming
abbrev pub is_named : TaskNaming → List ℕ → Bool
is_named Numbers name = false
is_named (Names names) name = is_taken names name

-- with a name for the next task
abbrev pub with_name : TaskNaming → List ℕ → TaskNaming
with_name Numbers name = Numbers
with_name (Names names) name = Names (names ++ name ∷ [])

-- ---- from numbers to names

-- the name of a task
abbrev pub name_of : TaskNaming → ℕ → List ℕ
name_of Numbers t = decimal t
name_of (Names names) t = unwrap_or (slice_get names t) []

-- these are the names of the tasks of this history, each at its task's number. So each task has a name that means it alone, and a name
-- that is no task's means a number that no task has
pub record AreNamesOf (names : List (List ℕ)) (h : List Event) : Type 0 where
  pub count : length names ≡ accepted h
  pub own : (t : ℕ) → is_in t (tasks h) ≡ true → number_of names (name_of (Names names) t) ≡ t
  pub taken : (name : List ℕ) → is_taken names name ≡ true → name_of (Names names) (number_of names name) ≡ name
  pub free : (name : List ℕ) → is_taken names name ≡ false → is_in (number_of names name) (tasks h) ≡ false

-- the name is that of this task
pub record StandsFor (names : List (List ℕ)) (name : List ℕ) (t : ℕ) : Type 0 where
  pub taken : is_taken names name ≡ true
  pub number : number_of names name ≡ t

-- the task in a reply, with the first word
abbrev pub task_told : Said → Option (List ℕ × ℕ)
task_told (said.Task t) = Some (codes "task", t)
task_told (said.Run t) = Some (codes "run", t)
task_told (said.Skip t) = Some (codes "skip", t)
task_told (said.Counted t) = Some (codes "counted", t)
task_told (said.Hook t) = Some (codes "hook", t)
task_told (said.Spent t) = Some (codes "spent", t)
task_told (said.Early t) = Some (codes "early", t)
task_told (said.Root t) = Some (codes "root", t)
task_told _ = None

-- the words of a reply, where this names the tasks
abbrev pub words_by : (ℕ → List ℕ) → Option (List ℕ × ℕ) → List (List ℕ) → List (List ℕ)
words_by called None words = words
words_by called (Some told) words = told.0 ∷ called told.1 ∷ []

-- the words of a reply: a task in it has its name, and all else is as in version 1
abbrev pub said_words : TaskNaming → Bounds → Said → List (List ℕ)
said_words naming limits reply = words_by (name_of naming) (task_told reply) (reply_words limits reply)

abbrev pub replied_words : TaskNaming → Bounds → Replied → List (List ℕ)
replied_words naming limits (Says reply) = said_words naming limits reply
replied_words naming limits NameTaken = codes "refused" ∷ codes "16" ∷ []
replied_words naming limits (Sealed epoch events) = codes "sealed" ∷ decimal epoch ∷ decimal events ∷ []
replied_words naming limits (Epoch epoch events) = codes "epoch" ∷ decimal epoch ∷ decimal events ∷ []

-- a line of two words, the second the name of a task
abbrev pub told_line : List (List ℕ) → List ℕ → ℕ → List ℕ
told_line names verb t = joined (verb ∷ name_of (Names names) t ∷ []) ++ LINE_FEED ∷ []

-- the line of a reply of the machine
abbrev pub said_line : TaskNaming → Bounds → Said → List ℕ
said_line naming limits reply = joined (said_words naming limits reply) ++ LINE_FEED ∷ []

-- the line of a reply, with its line feed
unfoldable pub replied_line : TaskNaming → Bounds → Replied → List ℕ
replied_line naming limits reply = joined (replied_words naming limits reply) ++ LINE_FEED ∷ []
