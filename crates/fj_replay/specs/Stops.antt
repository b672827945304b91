-- Why the line of a script was not handled, and the fault that comes of it.
use Rattle.std.specs.Prelude.{ℕ, ⊤, ◌≡◌, List, None, true, is_some}
use Rattle.fj_lines.specs.Lines.{head_in}
use Rattle.fj_lines.specs.Headings.{IsOutOfLimits, pool_in}
use Rattle.fj_streams.specs.declared.fault.LineStop.{LineStop}
use Rattle.fj_streams.specs.declared.fault.LineStop.TheVariants.{Stop, Memory, Write}
use Rattle.fj_streams.specs.declared.fault.FilterFault.{FilterFault}
use Rattle.fj_streams.specs.declared.fault.FilterFault.TheVariants as filter
use Rattle.fj_replay.specs.declared.fault.ReplayFault.{ReplayFault}
use Rattle.fj_replay.specs.declared.fault.ReplayFault.TheVariants as replay
use Rattle.fj_replay.specs.declared.script_stop.ScriptStop.{ScriptStop}
use Rattle.fj_replay.specs.declared.script_stop.ScriptStop.TheVariants.{Faulty, Limits}

-- why no pool was made by the heading in this line
abbrev pub IsHeadStop : List ℕ → LineStop ScriptStop → Type 0
IsHeadStop line (Stop Faulty) = head_in line ≡ None
IsHeadStop line (Stop Limits) = IsOutOfLimits line
IsHeadStop line Memory = is_some (pool_in line) ≡ true
IsHeadStop line Write = ⊥

-- a line that is allowed was not written whole
abbrev pub IsCutOff : LineStop ScriptStop → Type 0
IsCutOff (Stop stop) = ⊥
IsCutOff Memory = ⊤
IsCutOff Write = ⊤

-- the fault of a replay or an upgrade, by that of its filter
abbrev pub replay_fault : FilterFault ScriptStop → ReplayFault
replay_fault (filter.Stop n Faulty) = replay.Line n
replay_fault (filter.Stop n Limits) = replay.Limits
replay_fault (filter.Line n) = replay.Line n
replay_fault filter.Memory = replay.Memory
replay_fault filter.Read = replay.Read
replay_fault filter.Write = replay.Write
