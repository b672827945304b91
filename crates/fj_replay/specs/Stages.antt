-- The stages of a script, and what a line means at each: the rules of a replay and of an upgrade.
use Rattle.std.specs.Prelude.{ℕ, Bool, true, false, ◌≡◌, if◌then◌else◌, List, [], Option, Some, None, option_map}
use Rattle.std.specs.Option.{option_map_or}
use Rattle.fj_rules.specs.Bounds.{Pool}
use Rattle.fj_rules.specs.Answers.{answer}
use Rattle.fj_rules.specs.Tasks.{accepted}
use Rattle.fj_rules.specs.Pasts.{Past, grown}
use Rattle.fj_lines.specs.declared.read.line2.TheConstants.{MAX_LINE2}
use Rattle.fj_lines.specs.Headings.{IsOutOfLimits, pool_in, start}
use Rattle.fj_lines.specs.Lines.{head_in, step_in}
use Rattle.fj_streams.specs.Rules.{Rules}
use Rattle.fj_replay.specs.declared.task_naming.TaskNaming.{TaskNaming}
use Rattle.fj_replay.specs.declared.task_naming.TaskNaming.TheVariants.{Numbers, Names}
use Rattle.fj_replay.specs.declared.script_stage.ScriptStage.{ScriptStage}
use Rattle.fj_replay.specs.declared.script_stage.ScriptStage.TheVariants.{Start, Titled, Plays, Old, Rewrites}
use Rattle.fj_replay.specs.declared.script_stop.ScriptStop.{ScriptStop}
use Rattle.fj_replay.specs.declared.script_stop.ScriptStop.TheVariants.{Faulty, Limits}
use Rattle.fj_replay.specs.Plays.{asked_in, play_after, reply_text, is_title}
use Rattle.fj_replay.specs.TaskNames.{named_line, titled_head}

-- ---- what follows a line, and what is written at it

-- at its steps, where the heading has a pool
abbrev pub opened : TaskNaming → Option Pool → Option ScriptStage
opened naming None = None
opened naming (Some p) = Some (Plays (record { past = start p; naming = naming }))

-- at the steps of a script that is written as version 2, where the heading has a pool
abbrev pub rewriting : Option Pool → Option ScriptStage
rewriting None = None
rewriting (Some p) = Some (Rewrites (start p))

-- the stage after one more line, if this line is allowed there
abbrev pub stage_after : ScriptStage → List ℕ → Option ScriptStage
stage_after Start line = if is_title line then Some Titled else opened Numbers (pool_in line)
stage_after Titled line = opened (Names []) (pool_in line)
stage_after (Plays play) line = option_map (λ asked. Plays (play_after play asked)) (asked_in play.naming line)
stage_after Old line = rewriting (pool_in line)
stage_after (Rewrites past) line = option_map (λ asked. Rewrites (grown past (answer past asked).1)) (step_in line)

-- what is written at the line: the reply to it, or the line in version 2, where the task that it may accept is named by the number of
-- tasks accepted before
abbrev pub line_text : ScriptStage → List ℕ → List ℕ
line_text Start line = []
line_text Titled line = []
line_text (Plays play) line = option_map_or (λ asked. reply_text play asked) (asked_in play.naming line) []
line_text Old line = titled_head line
line_text (Rewrites past) line = option_map_or (λ asked. named_line (accepted past.events) asked) (step_in line) []

-- ---- a line that is not allowed where it is

-- the line is not canonical at this stage: a heading must come first, or after `fj 2`, and then steps of that version. A script to
-- upgrade is of version 1
abbrev pub IsFaulty : ScriptStage → List ℕ → Type 0
IsFaulty Start line = (is_title line ≡ false) × (head_in line ≡ None)
IsFaulty Titled line = head_in line ≡ None
IsFaulty (Plays play) line = asked_in play.naming line ≡ None
IsFaulty Old line = head_in line ≡ None
IsFaulty (Rewrites past) line = step_in line ≡ None

-- whether the heading has come
abbrev pub has_heading : ScriptStage → Bool
has_heading Start = false
has_heading Titled = false
has_heading (Plays play) = true
has_heading Old = false
has_heading (Rewrites past) = true

-- no heading has come yet
abbrev pub IsHeadless : ScriptStage → Type 0
IsHeadless stage = has_heading stage ≡ false

-- why the line is not allowed at this stage
abbrev pub IsBarred : ScriptStage → List ℕ → ScriptStop → Type 0
IsBarred stage line Faulty = IsFaulty stage line
IsBarred stage line Limits = IsHeadless stage × IsOutOfLimits line

-- the rules of a replay and of an upgrade
abbrev pub script_rules : Rules ScriptStage ScriptStop
script_rules = record { after = stage_after; text = line_text; Stops = IsBarred; has_heading = has_heading; longest = MAX_LINE2 }
