-- What the words of a line mean, word by word. These mirror the reader, for its proof. `Lines` defines which lines there are; `written`,
-- `read` and `again` of `read_step`, `read_line2` and `read_head` say that these agree with it.
use Rattle.std.specs.Prelude.{ℕ, if◌then◌else◌, List, [], ◌∷◌, Option, Some, None, codes}
use Rattle.std.specs.Str.{bytes_eq}
use Rattle.fj_rules.specs.declared.mode.Mode.{Mode}
use Rattle.fj_rules.specs.declared.mode.Mode.TheVariants.{Async, Joining}
use Rattle.fj_lines.specs.declared.line.Line.{Line}
use Rattle.fj_lines.specs.declared.line.Line.TheVariants.{Shutdown, Stop, IsQuiescent, Seal, Epoch}
use Rattle.fj_lines.specs.Readings.Tasks.{TaskReader}
use Rattle.fj_lines.specs.Words.{◌>>=◌, words, word_first, number_first, if_last}
use Rattle.fj_lines.specs.Readings.Accept.{submit_in, fork_in, trigger_in}
use Rattle.fj_lines.specs.Readings.Take.{poll_in, help_in, join_in}
use Rattle.fj_lines.specs.Readings.End.{end_in, hook_in}
use Rattle.fj_lines.specs.Readings.Completer.{add_in, root_in}
use Rattle.fj_lines.specs.Readings.Settle.{fault_in, cancel_in}
use Rattle.fj_lines.specs.Readings.Query.{state_in}
use Rattle.fj_lines.specs.Readings.Release.{release_in}
pub mod Tasks
pub mod Accept
pub mod Take
pub mod End
pub mod Completer
pub mod Settle
pub mod Query
pub mod Release

-- ---- lines, by the first word and the words after it

module _ {T N : Type 0} where
  -- the lines of one word
  unfoldable pub word_said : List ℕ → List (List ℕ) → Option (Line T N)
  word_said verb ws =
      if bytes_eq verb (codes "shutdown") then if_last ws Shutdown
      else if bytes_eq verb (codes "stop") then if_last ws Stop
      else if bytes_eq verb (codes "quiet") then if_last ws IsQuiescent
      else if bytes_eq verb (codes "seal") then if_last ws Seal
      else if bytes_eq verb (codes "epoch") then if_last ws Epoch
      else None

  -- the other lines that name a task, and those above
  unfoldable pub task_said : TaskReader T N → List ℕ → List (List ℕ) → Option (Line T N)
  task_said reader verb ws =
      if bytes_eq verb (codes "root") then root_in reader ws
      else if bytes_eq verb (codes "fault") then fault_in reader ws
      else if bytes_eq verb (codes "cancel") then cancel_in reader ws
      else if bytes_eq verb (codes "state") then state_in reader ws
      else word_said verb ws

  -- the other lines of a worker, and those above
  unfoldable pub worker_said : TaskReader T N → List ℕ → List (List ℕ) → Option (Line T N)
  worker_said reader verb ws =
      if bytes_eq verb (codes "fork") then fork_in reader ws
      else if bytes_eq verb (codes "trigger") then trigger_in reader ws
      else if bytes_eq verb (codes "help") then help_in ws
      else if bytes_eq verb (codes "join") then join_in reader ws
      else if bytes_eq verb (codes "hook") then hook_in ws
      else if bytes_eq verb (codes "add") then add_in reader ws
      else task_said reader verb ws

  -- what a first word and those after it ask for, if it is a line. The most frequent come first: one each of accept, take, end and release
  unfoldable pub line_said : TaskReader T N → List ℕ → List (List ℕ) → Option (Line T N)
  line_said reader verb ws =
      if bytes_eq verb (codes "submit") then submit_in reader ws
      else if bytes_eq verb (codes "poll") then poll_in ws
      else if bytes_eq verb (codes "end") then end_in ws
      else if bytes_eq verb (codes "release") then release_in reader ws
      else worker_said reader verb ws

  -- what a line asks for, if it is one: the result of the reader
  unfoldable pub line_in : TaskReader T N → List ℕ → Option (Line T N)
  line_in reader line = do
    verb ← word_first (words line)
    line_said reader verb.0 verb.1

-- ---- headings

abbrev pub mode_in : List ℕ → Option Mode
mode_in word = if bytes_eq word (codes "async") then Some Async else if bytes_eq word (codes "joining") then Some Joining else None

-- the heading of a first word and those after it, if it is one
unfoldable pub head_said : List ℕ → List (List ℕ) → Option (Mode × List ℕ)
head_said verb ws = do
  mode ← mode_in verb
  workers ← number_first ws
  submitters ← number_first workers.1
  tasks ← number_first submitters.1
  events ← number_first tasks.1
  if_last events.1 (mode, workers.0 ∷ submitters.0 ∷ tasks.0 ∷ events.0 ∷ [])
