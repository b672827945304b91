-- No line of a script has more than 66 bytes: a trace stops where a replay does.
use Rattle.std.proofs.Common.{ℕ, ◌≡◌, ◌<◌, List, [], length, Option, Some, None, refl}
use Rattle.std.specs.Prelude.{Bool, true, false, if◌then◌else◌, option_map}
use Rattle.fj_rules.specs.Bounds.{Pool}
use Rattle.fj_lines.specs.declared.read.line2.TheConstants.{MAX_LINE2}
use Rattle.fj_lines.specs.Headings.{pool_in}
use Rattle.fj_replay.specs.declared.asked.Asked.{Asked}
use Rattle.fj_replay.specs.declared.script_stage.ScriptStage.TheVariants as script
use Rattle.fj_replay.specs.declared.task_naming.TaskNaming.{TaskNaming}
use Rattle.fj_replay.specs.declared.task_naming.TaskNaming.TheVariants.{Numbers, Names}
use Rattle.fj_replay.specs.Plays.{Play, asked_in, is_title, play_after}
use Rattle.fj_replay.specs.Stages.{opened as script_opened}
use Rattle.fj_replay.specs.LongLines.{too_long as replay_too_long}
use Rattle.fj_record.specs.declared.trace_stage.TraceStage.{TraceStage}
use Rattle.fj_record.specs.declared.trace_stage.TraceStage.TheVariants as trace
use Rattle.fj_record.specs.Traces.{opened, stage_after}

unopened : (naming : TaskNaming) (o : Option Pool) → script_opened naming o ≡ None → opened naming o ≡ None
unopened naming None none = refl
unopened naming (Some p) none = absurd cc

unbegun : (title : Bool) (o : Option Pool) → (if title then Some script.Titled else script_opened Numbers o) ≡ None → (if title then Some trace.Titled else opened Numbers o) ≡ None
unbegun true o none = absurd cc
unbegun false o none = unopened Numbers o none

unasked : (play : Play) (o : Option Asked) → option_map (λ asked. script.Plays (play_after play asked)) o ≡ None → option_map (λ asked. trace.Going (play_after play asked)) o ≡ None
unasked play None none = refl
unasked play (Some asked) none = absurd cc

pub too_long_script : (stage : TraceStage) (line : List ℕ) → MAX_LINE2 < length line → stage_after stage line ≡ None
too_long_script trace.Start line long = unbegun (is_title line) (pool_in line) (replay_too_long script.Start line long)
too_long_script trace.Titled line long = unopened (Names []) (pool_in line) (replay_too_long script.Titled line long)
too_long_script (trace.Going play) line long = unasked play (asked_in play.naming line) (replay_too_long (script.Plays play) line long)
