-- What a check does at a line: its rules, as a filter. Whether an entry may come is a test here; it holds exactly where `MayCome` does.
use Rattle.std.proofs.Common.{ℕ, ◌≡◌, ◌+◌, ◌⊎◌, Bool, true, false, ◌&&◌, List, [], length, Option, Some, None}
use Rattle.std.specs.Prelude.{if◌then◌else◌, nat_lt, is_none, is_some}
use Rattle.std.specs.Option.{option_and_then, option_map_or}
use Rattle.fj_rules.specs.declared.event.Event.{Event}
use Rattle.fj_rules.specs.declared.event.Event.TheVariants.{Fire}
use Rattle.fj_rules.specs.Bounds.{Pool}
use Rattle.fj_rules.specs.Tasks.{is_completer}
use Rattle.fj_rules.specs.Hooks.{hand, goes_to}
use Rattle.fj_rules.specs.Climbs.{climbed_by}
use Rattle.fj_rules.specs.Pasts.{Past, limit}
use Rattle.fj_rules.specs.Epochs.{seal_refusal}
use Rattle.fj_rules.proofs.Samples.AllowedTest.{allowed_test}
use Rattle.fj_lines.specs.Lines.{head_in}
use Rattle.fj_lines.specs.Headings.{pool_in, start, IsOutOfLimits}
use Rattle.fj_history.specs.declared.entry.Entry.{Entry}
use Rattle.fj_history.specs.declared.entry.Entry.TheVariants as entry
use Rattle.fj_history.specs.Entries.{entry_in}
use Rattle.fj_history.specs.declared.read.TheConstants.{MAX_ENTRY}
use Rattle.fj_streams.specs.Rules.{Rules}
use Rattle.fj_streams.specs.declared.fault.LineStop.{LineStop}
use Rattle.fj_streams.specs.declared.fault.LineStop.TheVariants as fails
use Rattle.fj_check.specs.declared.history_check.HistoryCheck.{HistoryCheck}
use Rattle.fj_check.specs.declared.history_check.HistoryCheck.TheVariants.{Start, Going}
use Rattle.fj_check.specs.declared.history_stop.HistoryStop.{HistoryStop}
use Rattle.fj_check.specs.declared.history_stop.HistoryStop.TheVariants as stop
use Rattle.fj_check.specs.Entries.{MayCome, past_after}
use Rattle.fj_streams.specs.declared.fault.FilterFault.{FilterFault}
use Rattle.fj_streams.specs.declared.fault.FilterFault.TheVariants as filter
use Rattle.fj_check.specs.declared.fault.CheckFault.{CheckFault}
use Rattle.fj_check.specs.declared.fault.CheckFault.TheVariants as check

-- ---- the test

abbrev pub names_test : List Event → Event → Bool
names_test h e = option_map_or (λ c. is_completer h c) (climbed_by e) true

abbrev pub hand_free : Pool → List Event → Option ℕ → Bool
hand_free pool h None = false
hand_free pool h (Some w) = nat_lt w pool.limits.workers && is_none (hand h w)

abbrev pub hand_test : Pool → List Event → Event → Bool
hand_test pool h (Fire c how) = hand_free pool h (goes_to h c)
hand_test pool h _ = true

abbrev pub follows_test : Past → Event → Bool
follows_test past e = allowed_test past.pool past.events e && (names_test past.events e && (hand_test past.pool past.events e && nat_lt (length past.events) (limit past)))

abbrev pub can_come : Past → Entry → Bool
can_come past (entry.Event e) = follows_test past e
can_come past entry.Seal = is_none (seal_refusal past)

-- ---- lines

abbrev pub count_of : Entry → ℕ
count_of (entry.Event e) = 1
count_of entry.Seal = 0

abbrev pub opened : Option Pool → Option HistoryCheck
opened None = None
opened (Some p) = Some (Going (start p) 0)

abbrev pub came : Past → ℕ → Entry → Option HistoryCheck
came past n e = if can_come past e then Some (Going (past_after past e) (n + count_of e)) else None

-- the state after a line
abbrev pub after : HistoryCheck → List ℕ → Option HistoryCheck
after Start line = opened (pool_in line)
after (Going past n) line = option_and_then (came past n) (entry_in line)

abbrev pub has_heading : HistoryCheck → Bool
has_heading Start = false
has_heading (Going past n) = true

-- why it may not stand there
abbrev pub StopsHere : HistoryCheck → List ℕ → HistoryStop → Type 0
StopsHere Start line (stop.Objection why) = ⊥
StopsHere Start line stop.Line = head_in line ≡ None
StopsHere Start line stop.Limits = IsOutOfLimits line
StopsHere (Going past n) line (stop.Objection why) = (e : Entry) × (entry_in line ≡ Some e) × (MayCome past e → ⊥)
StopsHere (Going past n) line stop.Line = entry_in line ≡ None
StopsHere (Going past n) line stop.Limits = ⊥

-- what a fault at the heading says
abbrev pub IsHeadStop : List ℕ → LineStop HistoryStop → Type 0
IsHeadStop line (fails.Stop (stop.Objection why)) = ⊥
IsHeadStop line (fails.Stop stop.Line) = head_in line ≡ None
IsHeadStop line (fails.Stop stop.Limits) = IsOutOfLimits line
IsHeadStop line fails.Memory = is_some (pool_in line) ≡ true
IsHeadStop line fails.Write = ⊥

-- what a fault at an entry says: it may not come, or it may and memory was refused
abbrev pub IsStopAt : Past → Entry → LineStop HistoryStop → Type 0
IsStopAt past e (fails.Stop (stop.Objection why)) = MayCome past e → ⊥
IsStopAt past e (fails.Stop stop.Line) = ⊥
IsStopAt past e (fails.Stop stop.Limits) = ⊥
IsStopAt past e fails.Memory = can_come past e ≡ true
IsStopAt past e fails.Write = ⊥

-- what a fault behind the heading says: the line is that of no entry, or of one at which this is the fault
abbrev pub IsEntryStop : Past → List ℕ → LineStop HistoryStop → Type 0
IsEntryStop past line why = ((entry_in line ≡ None) × (why ≡ fails.Stop stop.Line)) ⊎ ((e : Entry) × (entry_in line ≡ Some e) × IsStopAt past e why)

-- the rules of a check: nothing is written
abbrev pub check_rules : Rules HistoryCheck HistoryStop
check_rules = record { after = after; text = λ state line. []; Stops = StopsHere; has_heading = has_heading; longest = MAX_ENTRY }

-- the fault of a check, by that of its filter
abbrev pub check_fault : FilterFault HistoryStop → CheckFault
check_fault (filter.Stop n (stop.Objection why)) = check.Objection n why
check_fault (filter.Stop n stop.Line) = check.Line n
check_fault (filter.Stop n stop.Limits) = check.Limits
check_fault (filter.Line n) = check.Line n
check_fault filter.Memory = check.Memory
check_fault filter.Read = check.Read
check_fault filter.Write = check.Memory

abbrev pub events_in : HistoryCheck → ℕ
events_in Start = 0
events_in (Going past n) = n
