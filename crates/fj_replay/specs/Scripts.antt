-- The meaning of a script, and the replies to it. Two things can be done with a script: it is replayed, from the stage `Start` on, or,
-- if it is of version 1, it is written as version 2, from the stage `Old` on.
--
-- A script is of version 2, in which tasks have names, where its first line is `fj 2`: its heading is the second line, and in one of
-- version 1 the first.
use Rattle.std.specs.Prelude.{ℕ, Bool, false, ◌≡◌, List, [], ◌∷◌, ◌++◌, Option, Some, None}
use Rattle.fj_rules.specs.declared.step.Step.{Step}
use Rattle.fj_rules.specs.declared.said.Said.{Said}
use Rattle.fj_rules.specs.declared.said.Said.TheVariants.{Task}
use Rattle.fj_rules.specs.declared.event.Event.{Event}
use Rattle.fj_rules.specs.Bounds.{Bounds, Pool}
use Rattle.fj_rules.specs.Answers.{answer}
use Rattle.fj_rules.specs.Pasts.{Past, grown}
use Rattle.fj_rules.specs.Runs.{Runs}
use Rattle.fj_rules.specs.Epochs.{IsPast}
use Rattle.fj_lines.specs.Lines.{step_in, reply_line}
use Rattle.fj_lines.specs.Headings.{pool_in, start}
use Rattle.fj_replay.specs.declared.task_naming.TaskNaming.TheVariants.{Names}
use Rattle.fj_replay.specs.declared.asked.Asked.TheVariants.{Accept}
use Rattle.fj_replay.specs.declared.replied.Replied.TheVariants.{Said as Says}
use Rattle.fj_replay.specs.declared.script_stage.ScriptStage.{ScriptStage}
use Rattle.fj_replay.specs.declared.script_stage.ScriptStage.TheVariants.{Start, Plays, Old}
use Rattle.fj_streams.specs.Cuts.{lines}
use Rattle.fj_streams.specs.Rules.{state_from, text_from as written_from, is_good as is_allowed}
use Rattle.fj_replay.specs.Stages.{script_rules}
use Rattle.fj_replay.specs.Namings.{AreNamesOf, StandsFor}
use Rattle.fj_replay.specs.Plays.{Play, asked_in, replied, moves_told, AreMoves, is_title}

-- ---- from line to line

-- the stage after these lines, if each of them is allowed where it is
abbrev pub stage_from : ScriptStage → List (List ℕ) → Option ScriptStage
stage_from first ls = state_from script_rules first ls

-- what is written at these lines, up to the first that is not allowed where it is
abbrev pub text_from : ScriptStage → List (List ℕ) → List ℕ
text_from first ls = written_from script_rules first ls

-- whether each of the lines is allowed where it is
abbrev pub is_good : ScriptStage → List (List ℕ) → Bool
is_good first ls = is_allowed script_rules first ls

-- ---- from bytes to bytes

-- the replies to these bytes: none where the heading is missing, faulty or out of the limits
abbrev pub text : List ℕ → List ℕ
text b = text_from Start (lines b)

-- a script of version 1 as version 2: nothing where the heading is missing, faulty or out of the limits
abbrev pub up : List ℕ → List ℕ
up b = text_from Old (lines b)

-- the lines lead to a play, and what has happened in it is the history of a run, with seals or without
abbrev pub IsRun : List ℕ → Type 0
IsRun b = (play : Play) × (stage_from Start (lines b) ≡ Some (Plays play)) × IsPast play.past

-- ---- both versions, as moves of the machine

-- what these lines ask for from any play on, with the answers in the replies to them, leads to the play after them
abbrev pub MakesMoves : List (List ℕ) → Type 0
MakesMoves ls = (play later : Play) → stage_from (Plays play) ls ≡ Some (Plays later) → AreMoves play.past (moves_told play ls) later.past

-- ---- version 2: what its names mean

-- the lines lead to this past by names, which are these so far
abbrev pub LeadsBy : List ℕ → List (List ℕ) → Past → Type 0
LeadsBy b names past = stage_from Start (lines b) ≡ Some (Plays (record { past = past; naming = Names names }))

-- a line of these gave this name to this task: what it asked for under the name was replied to by `task`
pub record GivesName (b : List ℕ) (name : List ℕ) (t : ℕ) : Type 0 where
  pub before : List (List ℕ)
  pub line : List ℕ
  pub after : List (List ℕ)
  pub play : Play
  pub wanted : Step
  pub cut : lines b ≡ before ++ line ∷ after
  pub good : stage_from Start before ≡ Some (Plays play)
  pub asks : asked_in play.naming line ≡ Some (Accept name wanted)
  pub told : replied play (Accept name wanted) ≡ Says (Task t)

-- the names to which these bytes lead are those of the tasks there
abbrev pub NamesTasks : List ℕ → Type 0
NamesTasks b = (names : List (List ℕ)) (past : Past) → LeadsBy b names past → AreNamesOf names past.events

-- and each that a line of them gave means the task to which that line gave it
abbrev pub KeepsNames : List ℕ → Type 0
KeepsNames b = (names : List (List ℕ)) (past : Past) (name : List ℕ) (t : ℕ) → LeadsBy b names past → GivesName b name t → StandsFor names name t

-- ---- version 1, by itself

abbrev pub before_those : Option Step → List Step → List Step
before_those None steps = []
before_those (Some asked) steps = asked ∷ steps

-- the steps of the lines, up to the first line that is no step
abbrev pub steps_of : List (List ℕ) → List Step
steps_of [] = []
steps_of (line ∷ others) = before_those (step_in line) (steps_of others)

-- the replies to the steps at this past
abbrev pub replies : Past → List Step → List Said
replies past [] = []
replies past (asked ∷ later) = (answer past asked).0 ∷ replies (grown past (answer past asked).1) later

-- the history to which the steps lead from this past
abbrev pub history : Past → List Step → List Event
history past [] = past.events
history past (asked ∷ later) = history (grown past (answer past asked).1) later

-- the past to which they lead
abbrev pub after : Past → List Step → Past
after past asked = record past { events = history past asked }

-- the lines of the replies, concatenated
abbrev pub joined : Bounds → List Said → List ℕ
joined limits [] = []
joined limits (reply ∷ later) = reply_line limits reply ++ joined limits later

-- the replies of a new pool to the steps, if there is one
abbrev pub said : Option Pool → List Step → List ℕ
said None asked = []
said (Some p) asked = joined p.limits (replies (start p) asked)

-- the replies to the lines of a script of version 1
abbrev pub numbered_text : List (List ℕ) → List ℕ
numbered_text [] = []
numbered_text (head ∷ others) = said (pool_in head) (steps_of others)

-- the steps with these replies are a run of the pool
abbrev pub AreRun : Pool → List Step → Type 0
AreRun p asked = Runs p.mode p.limits asked (replies (start p) asked) (after (start p) asked)

-- whether the first line says that the script is of version 2
abbrev pub is_titled : List (List ℕ) → Bool
is_titled [] = false
is_titled (first ∷ others) = is_title first
