-- The lines of a script and of its replies.
use Rattle.std.specs.Prelude.{ℕ, Bool, true, false, ◌≡◌, List, [], ◌∷◌, ◌++◌, length, map, Option, Some, None, IfSome, codes, decimal}
use Rattle.std.specs.List.{AllByRecursion}
use Rattle.fj_lines.specs.declared.read.TheConstants.{LINE_FEED}
use Rattle.fj_lines.specs.declared.line.ForkedKind.{ForkedKind}
use Rattle.fj_lines.specs.declared.line.ForkedKind.TheVariants as forked
use Rattle.fj_lines.specs.declared.line.Line.{Line}
use Rattle.fj_lines.specs.declared.line.Line.TheVariants.{Submit, Fork, Trigger, Poll, Help, Join, End, HookDone, Add, QuietRoot, Fault, Cancel, Shutdown, Stop, IsQuiescent, State, Release, Seal, Epoch}
use Rattle.fj_rules.specs.declared.mode.Mode.{Mode}
use Rattle.fj_rules.specs.declared.mode.Mode.TheVariants.{Async, Joining}
use Rattle.fj_rules.specs.declared.kind.Kind.{Kind}
use Rattle.fj_rules.specs.declared.kind.Kind.TheVariants as kind
use Rattle.fj_rules.specs.declared.kind.SubmittedKind.{SubmittedKind}
use Rattle.fj_rules.specs.declared.kind.SubmittedKind.TheVariants as submitted
use Rattle.fj_rules.specs.declared.step.Ending.{Ending}
use Rattle.fj_rules.specs.declared.step.Ending.TheVariants as ending
use Rattle.fj_rules.specs.declared.step.Step.{Step}
use Rattle.fj_rules.specs.declared.step.Step.TheVariants as step
use Rattle.fj_rules.specs.declared.said.Said.{Said}
use Rattle.fj_rules.specs.Bounds.{Bounds}
use Rattle.fj_lines.specs.Replies.{reply_words}
use Rattle.fj_lines.specs.Tasks.{TaskWords, IsSmall, numbers, names}
use Rattle.fj_lines.specs.Readings.Tasks.{numbers_read, names_read}
use Rattle.fj_lines.specs.Words.{joined, words, ◌>>=◌, word_first}
use Rattle.fj_lines.specs.Readings.{line_in, head_said}

-- ---- the words after the first ones

abbrev pub relay_word : Bool → List ℕ
relay_word true = codes "relay"
relay_word false = codes "stop"

-- a parent's word, or `-` for none
abbrev pub word_or_dash : {T : Type 0} → (T → List ℕ) → Option T → List ℕ
word_or_dash word None = codes "-"
word_or_dash word (Some t) = word t

-- after the submitter
abbrev pub submitted_words : SubmittedKind → List (List ℕ)
submitted_words submitted.Plain = []
submitted_words (submitted.Completer relay count) = decimal count ∷ relay_word relay ∷ []

-- after the worker that forks
abbrev pub forked_words : {T : Type 0} → (T → List ℕ) → ForkedKind T → List (List ℕ)
forked_words word forked.Plain = []
forked_words word (forked.Completer relay count parent) = word_or_dash word parent ∷ decimal count ∷ relay_word relay ∷ []

-- after the worker whose task ends
abbrev pub ending_words : Ending → List (List ℕ)
ending_words ending.Ok = codes "ok" ∷ []
ending_words ending.Quiet = codes "quiet" ∷ []
ending_words ending.Try = codes "try" ∷ []
ending_words ending.Pass = codes "pass" ∷ []
ending_words ending.Complete = codes "complete" ∷ []
ending_words (ending.Fail code) = codes "fail" ∷ decimal code ∷ []

-- ---- lines, however they name a task

-- the words of a line
abbrev pub line_words : {T N : Type 0} → TaskWords T N → Line T N → List (List ℕ)
-- accept
line_words tasks (Submit label s kind) = codes "submit" ∷ tasks.front label ++ decimal s ∷ submitted_words kind
line_words tasks (Fork label w kind) = codes "fork" ∷ tasks.front label ++ decimal w ∷ forked_words tasks.word kind
line_words tasks (Trigger label w count) = codes "trigger" ∷ tasks.front label ++ decimal w ∷ decimal count ∷ []
-- take
line_words tasks (Poll w r) = codes "poll" ∷ decimal w ∷ decimal r ∷ []
line_words tasks (Help w r) = codes "help" ∷ decimal w ∷ decimal r ∷ []
line_words tasks (Join w t r) = codes "join" ∷ decimal w ∷ tasks.word t ∷ decimal r ∷ []
-- end
line_words tasks (End w how) = codes "end" ∷ decimal w ∷ ending_words how
line_words tasks (HookDone w) = codes "hook" ∷ decimal w ∷ []
-- completer
line_words tasks (Add w t n) = codes "add" ∷ decimal w ∷ tasks.word t ∷ decimal n ∷ []
line_words tasks (QuietRoot w t) = codes "root" ∷ decimal w ∷ tasks.word t ∷ []
-- settle
line_words tasks (Fault t code) = codes "fault" ∷ tasks.word t ∷ decimal code ∷ []
line_words tasks (Cancel t) = codes "cancel" ∷ tasks.word t ∷ []
-- shut
line_words tasks Shutdown = codes "shutdown" ∷ []
line_words tasks Stop = codes "stop" ∷ []
-- query
line_words tasks IsQuiescent = codes "quiet" ∷ []
line_words tasks (State t) = codes "state" ∷ tasks.word t ∷ []
-- release
line_words tasks (Release t) = codes "release" ∷ tasks.word t ∷ []
-- epoch
line_words tasks Seal = codes "seal" ∷ []
line_words tasks Epoch = codes "epoch" ∷ []

abbrev pub HasSmallSubmitted : SubmittedKind → Type 0
HasSmallSubmitted submitted.Plain = Unit {0}
HasSmallSubmitted (submitted.Completer relay count) = IsSmall count

abbrev pub HasSmallForked : {T : Type 0} → (T → Type 0) → ForkedKind T → Type 0
HasSmallForked IsTask forked.Plain = Unit {0}
HasSmallForked IsTask (forked.Completer relay count parent) = IfSome parent IsTask × IsSmall count

abbrev pub HasSmallEnding : Ending → Type 0
HasSmallEnding (ending.Fail code) = IsSmall code
HasSmallEnding _ = Unit {0}

-- what is asked for has a line: its numbers have 32 bits at most, and its tasks and its label have words
abbrev pub HasWords : {T N : Type 0} → TaskWords T N → Line T N → Type 0
-- accept
HasWords tasks (Submit label s kind) = tasks.IsLabel label × IsSmall s × HasSmallSubmitted kind
HasWords tasks (Fork label w kind) = tasks.IsLabel label × IsSmall w × HasSmallForked tasks.IsTask kind
HasWords tasks (Trigger label w count) = tasks.IsLabel label × IsSmall w × IsSmall count
-- take
HasWords tasks (Poll w r) = IsSmall w × IsSmall r
HasWords tasks (Help w r) = IsSmall w × IsSmall r
HasWords tasks (Join w t r) = IsSmall w × tasks.IsTask t × IsSmall r
-- end
HasWords tasks (End w how) = IsSmall w × HasSmallEnding how
HasWords tasks (HookDone w) = IsSmall w
-- completer
HasWords tasks (Add w t n) = IsSmall w × tasks.IsTask t × IsSmall n
HasWords tasks (QuietRoot w t) = IsSmall w × tasks.IsTask t
-- settle
HasWords tasks (Fault t code) = tasks.IsTask t × IsSmall code
HasWords tasks (Cancel t) = tasks.IsTask t
-- shut
HasWords tasks Shutdown = Unit {0}
HasWords tasks Stop = Unit {0}
-- query
HasWords tasks IsQuiescent = Unit {0}
HasWords tasks (State t) = tasks.IsTask t
-- release
HasWords tasks (Release t) = tasks.IsTask t
-- epoch
HasWords tasks Seal = Unit {0}
HasWords tasks Epoch = Unit {0}

-- ---- version 1: the line of a step, in which each task is a number

abbrev pub parent_word : Option ℕ → List ℕ
parent_word parent = word_or_dash decimal parent

-- the kind of a forked task, as in a line
abbrev pub forked_of : Kind → ForkedKind ℕ
forked_of kind.Plain = forked.Plain
forked_of (kind.Completer relay count parent) = forked.Completer relay count parent

-- what the line of a step asks for
abbrev pub line_of : Step → Line ℕ Unit
-- accept
line_of (step.Submit s kind) = Submit tt s kind
line_of (step.Fork w kind) = Fork tt w (forked_of kind)
line_of (step.Trigger w count) = Trigger tt w count
-- take
line_of (step.Poll w r) = Poll w r
line_of (step.Help w r) = Help w r
line_of (step.Join w t r) = Join w t r
-- end
line_of (step.End w how) = End w how
line_of (step.HookDone w) = HookDone w
-- completer
line_of (step.Add w t n) = Add w t n
line_of (step.QuietRoot w t) = QuietRoot w t
-- settle
line_of (step.Fault t code) = Fault t code
line_of (step.Cancel t) = Cancel t
-- shut
line_of step.Shutdown = Shutdown
line_of step.Stop = Stop
-- query
line_of step.IsQuiescent = IsQuiescent
line_of (step.State t) = State t
-- release
line_of (step.Release t) = Release t

-- the words of a step
abbrev pub step_words : Step → List (List ℕ)
step_words asked = line_words numbers (line_of asked)

-- the line of a step, without its line feed
abbrev pub step_line : Step → List ℕ
step_line asked = joined (step_words asked)

-- the step has a line: its numbers have 32 bits at most
abbrev pub HasLine : Step → Type 0
HasLine asked = HasWords numbers (line_of asked)

-- the kind of a forked task, from a line
abbrev pub kind_of : ForkedKind ℕ → Kind
kind_of forked.Plain = kind.Plain
kind_of (forked.Completer relay count parent) = kind.Completer relay count parent

-- the step that a line asks for: none for the lines of epochs, which version 1 does not have
abbrev pub step_of : Line ℕ Unit → Option Step
-- accept
step_of (Submit label s kind) = Some (step.Submit s kind)
step_of (Fork label w kind) = Some (step.Fork w (kind_of kind))
step_of (Trigger label w count) = Some (step.Trigger w count)
-- take
step_of (Poll w r) = Some (step.Poll w r)
step_of (Help w r) = Some (step.Help w r)
step_of (Join w t r) = Some (step.Join w t r)
-- end
step_of (End w how) = Some (step.End w how)
step_of (HookDone w) = Some (step.HookDone w)
-- completer
step_of (Add w t n) = Some (step.Add w t n)
step_of (QuietRoot w t) = Some (step.QuietRoot w t)
-- settle
step_of (Fault t code) = Some (step.Fault t code)
step_of (Cancel t) = Some (step.Cancel t)
-- shut
step_of Shutdown = Some step.Shutdown
step_of Stop = Some step.Stop
-- query
step_of IsQuiescent = Some step.IsQuiescent
step_of (State t) = Some (step.State t)
-- release
step_of (Release t) = Some (step.Release t)
-- epoch
step_of Seal = None
step_of Epoch = None

-- the step of a line, if it has one: the result of the reader
unfoldable pub step_in : List ℕ → Option Step
step_in line = do
  asked ← line_in numbers_read line
  step_of asked

-- ---- version 2: a line in which each task has a name

abbrev pub NamedKind : Type 0
NamedKind = ForkedKind (List ℕ)

abbrev pub Line2 : Type 0
Line2 = Line (List ℕ) (List ℕ)

-- the words after the worker that forks
abbrev pub named_kind_words : NamedKind → List (List ℕ)
named_kind_words kind = forked_words names.word kind

-- the words of a line
abbrev pub line2_words : Line2 → List (List ℕ)
line2_words asked = line_words names asked

-- the line, without its line feed
abbrev pub line2_text : Line2 → List ℕ
line2_text asked = joined (line2_words asked)

-- what is asked for has a line: its numbers have 32 bits at most, and its names are names
abbrev pub HasLine2 : Line2 → Type 0
HasLine2 asked = HasWords names asked

-- what a line asks for, if it is one: the result of the reader
unfoldable pub line2_in : List ℕ → Option Line2
line2_in line = line_in names_read line

-- ---- headings: a mode, and the numbers of workers, submitters, tasks and events

abbrev pub mode_word : Mode → List ℕ
mode_word Async = codes "async"
mode_word Joining = codes "joining"

-- the words of a heading
abbrev pub head_words : Mode × List ℕ → List (List ℕ)
head_words head = mode_word head.0 ∷ map decimal head.1

-- the line of a heading, without its line feed
abbrev pub head_line : Mode × List ℕ → List ℕ
head_line head = joined (head_words head)

-- the heading has a line: it has four numbers, of 32 bits at most
pub record HasHeadLine (head : Mode × List ℕ) : Type 0 where
  pub four : length head.1 ≡ 4
  pub small : AllByRecursion IsSmall head.1

-- the mode and the four numbers of a heading, if the line is one: the result of the reader
unfoldable pub head_in : List ℕ → Option (Mode × List ℕ)
head_in line = do
  verb ← word_first (words line)
  head_said verb.0 verb.1

-- ---- replies

-- the line of a reply, with its line feed
unfoldable pub reply_line : Bounds → Said → List ℕ
reply_line limits said = joined (reply_words limits said) ++ LINE_FEED ∷ []
