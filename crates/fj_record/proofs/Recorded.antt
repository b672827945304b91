-- The text of a run of which nothing was sealed is a history.
use Rattle.std.proofs.Common.{◌≡◌, ◌≤◌, ◌^◌, List, [], ◌∷◌, ◌++◌, length, map, drop, Some, refl, ap, arith}
use Rattle.std.specs.Prelude.{Result, Ok, Err, OnOk}
use Rattle.std.proofs.lemmas.Bool.{le-leb}
use Rattle.fj_rules.specs.declared.epoch.Sealed.{Sealed}
use Rattle.fj_rules.specs.declared.event.Event.{Event}
use Rattle.fj_rules.specs.Bounds.{Bounds, IsWithin, Pool}
use Rattle.fj_rules.specs.Epochs.{IsPast}
use Rattle.fj_rules.specs.Follows.{AllFollow}
use Rattle.fj_rules.specs.Pasts.{Past, present}
use Rattle.fj_rules.specs.Tasks.{accepted}
use Rattle.fj_rules.proofs.Completers.Climbed.{climbs_none}
use Rattle.fj_lines.specs.declared.read.TheConstants.{LINE_FEED}
use Rattle.fj_lines.specs.Headings.{pool_in, start}
use Rattle.fj_lines.proofs.Reading.HeadLaws.{head_again}
use Rattle.fj_history.specs.declared.entry.Entry.TheVariants as entry
use Rattle.fj_history.specs.Entries.{AllHaveCodes, entries_text}
use Rattle.fj_history.specs.Headings.{heading, heading_line}
use Rattle.fj_check.specs.Entries.{event_count}
use Rattle.fj_check.specs.Histories.{IsHistory}
use Rattle.fj_replay.proofs.Version2.Accepted.{few_tasks}
use Rattle.fj_record.proofs.Printed.{heading_narrow}
use Rattle.fj_record.proofs.Traced.{events_small, follow_come}
use Rattle.fj_record.proofs.Whole.{history_of}
use Rattle.fj_record.specs.declared.fault.WriteFault.{WriteFault}
use Rattle.fj_record.specs.Texts.{history_text}
use Rattle.fj_record.proofs.Unsealed.{past_grown}

-- each limit is in its range
abbrev AreWithin : Bounds → Type 0
AreWithin l = IsWithin l.workers l.submitters l.tasks l.events

-- the heading of a pool is read as that pool
heading_opens : (pool : Pool) → AreWithin pool.limits → pool_in (heading_line pool.mode pool.limits) ≡ Some pool
heading_opens pool is =
    let l = pool.limits in
    let few_workers = is.few_workers in
    let few_submitters = is.few_submitters in
    let few_tasks = is.few_tasks in
    let few_events = is.few_events in
    rw (
      head_again (heading pool.mode l) (record { four = refl; small = (omega (arith, few_workers), (omega (arith, few_submitters), (omega (arith, few_tasks), (omega (arith, few_events), tt)))) }),
      le-leb 1 l.workers is.some_workers,
      le-leb l.workers 32 few_workers,
      le-leb 1 l.submitters is.some_submitters,
      le-leb l.submitters 32 few_submitters,
      le-leb 1 l.tasks is.some_tasks,
      le-leb l.tasks 4096 few_tasks,
      le-leb 1 l.events is.some_events,
      le-leb l.events 1048576 few_events,
    ) refl

-- ---- the whole

count_events : (es : List Event) → length es ≡ event_count (map entry.Event es)
count_events [] = refl
count_events (e ∷ es) = let others = count_events es in omega (arith, others)

-- of the events of a new pool, each of which follows those before it
events_history : (pool : Pool) (es : List Event) → AreWithin pool.limits → AllFollow (start pool) es → AllHaveCodes es → accepted es ≤ 2 ^ 32
    → IsHistory ((heading_line pool.mode pool.limits ++ LINE_FEED ∷ []) ++ entries_text (map entry.Event es)) (length es)
events_history pool es is follow codes few =
    let opens = heading_opens pool is in
    let small = events_small (start pool) es (heading_narrow (heading_line pool.mode pool.limits) pool opens) (record { allowed = tt; climbs = climbs_none }) follow codes few in
    rw (count_events es) (history_of (heading_line pool.mode pool.limits) pool (map entry.Event es) opens (follow_come (start pool) es follow) small)

recorded : (past : Past) → IsPast past → AreWithin past.pool.limits → past.seals ≡ 0 → AllHaveCodes (present past) → IsHistory (history_text past.pool [] (present past)) (length past.events)
recorded past run is none codes =
    let all = past_grown past run none in
    let now : present past ≡ past.events = ap (λ (p : Past). drop (length p.sealed) past.events) all.same in
    let few = few_tasks past past.pool.limits run (ap (λ (p : Past). p.sealed) all.same) refl is in
    rw now (events_history past.pool past.events is all.follow (rw now at codes) (omega (arith, few)))

pub written_history : {A : Type 0} (result : Result A WriteFault) (parts : List Sealed) (past : Past) → IsPast past → AreWithin past.pool.limits → OnOk result (AllHaveCodes (present past))
    → OnOk result (past.seals ≡ 0 → parts ≡ [] → IsHistory (history_text past.pool parts (present past)) (length past.events))
written_history (Ok x) parts past run is codes = λ none no_parts. rw no_parts (recorded past run is none codes)
written_history (Err fault) parts past run is codes = tt
