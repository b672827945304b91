-- What a trace does at each line of a script: its rules, as a filter. It writes the history of the script's run, as it goes.
use Rattle.std.specs.Prelude.{ℕ, Bool, true, false, ◌≡◌, if◌then◌else◌, List, [], ◌∷◌, ◌++◌, map, Option, Some, None, option_map}
use Rattle.std.specs.Option.{option_map_or}
use Rattle.fj_rules.specs.declared.refusal.Refusal.{Refusal}
use Rattle.fj_rules.specs.Bounds.{Pool}
use Rattle.fj_rules.specs.Answers.{answer}
use Rattle.fj_rules.specs.Epochs.{seal_refusal}
use Rattle.fj_lines.specs.declared.read.TheConstants.{LINE_FEED}
use Rattle.fj_lines.specs.declared.read.line2.TheConstants.{MAX_LINE2}
use Rattle.fj_lines.specs.Lines.{head_in}
use Rattle.fj_lines.specs.Headings.{IsOutOfLimits, pool_in, start}
use Rattle.fj_history.specs.declared.entry.Entry.{Entry}
use Rattle.fj_history.specs.declared.entry.Entry.TheVariants.{Event, Seal}
use Rattle.fj_history.specs.Entries.{entries_text}
use Rattle.fj_streams.specs.Rules.{Rules, text_from}
use Rattle.fj_streams.specs.Cuts.{lines}
use Rattle.fj_replay.specs.declared.asked.Asked.{Asked}
use Rattle.fj_replay.specs.declared.asked.Asked.TheVariants as ask
use Rattle.fj_replay.specs.declared.script_stop.ScriptStop.{ScriptStop}
use Rattle.fj_replay.specs.declared.script_stop.ScriptStop.TheVariants.{Faulty, Limits}
use Rattle.fj_replay.specs.declared.task_naming.TaskNaming.{TaskNaming}
use Rattle.fj_replay.specs.declared.task_naming.TaskNaming.TheVariants.{Numbers, Names}
use Rattle.fj_replay.specs.Namings.{is_named}
use Rattle.fj_replay.specs.Plays.{Play, asked_in, is_title, play_after}
use Rattle.fj_record.specs.declared.trace_stage.TraceStage.{TraceStage}
use Rattle.fj_record.specs.declared.trace_stage.TraceStage.TheVariants.{Start, Titled, Going}

-- ---- what a line of a script adds to the history

-- a seal that is not refused
abbrev pub seal_entry : Option Refusal → List Entry
seal_entry None = Seal ∷ []
seal_entry (Some refusal) = []

-- the events of a step, or a seal. A name that belongs to a task is refused before the machine is asked, and `epoch` asks it for nothing
abbrev pub entries_of : Play → Asked → List Entry
entries_of play (ask.Step wanted) = map Event (answer play.past wanted).1
entries_of play (ask.Accept name wanted) = if is_named play.naming name then [] else map Event (answer play.past wanted).1
entries_of play ask.Seal = seal_entry (seal_refusal play.past)
entries_of play ask.Epoch = []

-- ---- lines

abbrev pub opened : TaskNaming → Option Pool → Option TraceStage
opened naming None = None
opened naming (Some p) = Some (Going (record { past = start p; naming = naming }))

-- the stage after one more line, if this line is allowed there: as in a replay
abbrev pub stage_after : TraceStage → List ℕ → Option TraceStage
stage_after Start line = if is_title line then Some Titled else opened Numbers (pool_in line)
stage_after Titled line = opened (Names []) (pool_in line)
stage_after (Going play) line = option_map (λ asked. Going (play_after play asked)) (asked_in play.naming line)

-- what is written at the line: the heading, and then the entries of each line
abbrev pub line_text : TraceStage → List ℕ → List ℕ
line_text Start line = if is_title line then [] else line ++ LINE_FEED ∷ []
line_text Titled line = line ++ LINE_FEED ∷ []
line_text (Going play) line = option_map_or (λ asked. entries_text (entries_of play asked)) (asked_in play.naming line) []

abbrev pub has_heading : TraceStage → Bool
has_heading Start = false
has_heading Titled = false
has_heading (Going play) = true

-- why the line is not allowed at this stage
abbrev pub IsBarredAt : TraceStage → List ℕ → ScriptStop → Type 0
IsBarredAt Start line Faulty = (is_title line ≡ false) × (head_in line ≡ None)
IsBarredAt Start line Limits = IsOutOfLimits line
IsBarredAt Titled line Faulty = head_in line ≡ None
IsBarredAt Titled line Limits = IsOutOfLimits line
IsBarredAt (Going play) line Faulty = asked_in play.naming line ≡ None
IsBarredAt (Going play) line Limits = ⊥

-- the rules of a trace
abbrev pub trace_rules : Rules TraceStage ScriptStop
trace_rules = record { after = stage_after; text = line_text; Stops = IsBarredAt; has_heading = has_heading; longest = MAX_LINE2 }

-- the history of the run of these bytes: nothing where the heading is missing, faulty or out of the limits
abbrev pub trace_text : List ℕ → List ℕ
trace_text b = text_from trace_rules Start (lines b)
