-- A heading, and what is written at the lines behind it, are a history.
use Rattle.std.proofs.Common.{ℕ, ◌≡◌, ◌≤◌, ◌^◌, Bool, true, false, List, [], ◌∷◌, ◌++◌, Option, Some, None, refl, ap, ◌∙◌, append_assoc}
use Rattle.std.specs.Prelude.{if◌then◌else◌}
use Rattle.std.specs.Option.{option_and_then, option_map_or}
use Rattle.fj_rules.specs.Bounds.{Pool}
use Rattle.fj_rules.specs.Tasks.{accepted}
use Rattle.fj_lines.specs.declared.read.TheConstants.{LINE_FEED}
use Rattle.fj_lines.specs.Headings.{pool_in, start}
use Rattle.fj_streams.specs.Cuts.{lines, rest}
use Rattle.fj_streams.specs.Rules.{state_from, text_from}
use Rattle.fj_history.specs.declared.entry.Entry.{Entry}
use Rattle.fj_history.specs.Entries.{entries_text}
use Rattle.fj_check.specs.Entries.{AllMayCome, event_count}
use Rattle.fj_check.specs.Histories.{AllHaveLines, IsHistory}
use Rattle.fj_replay.specs.declared.task_naming.TaskNaming.{TaskNaming}
use Rattle.fj_replay.specs.declared.task_naming.TaskNaming.TheVariants.{Numbers, Names}
use Rattle.fj_replay.specs.Plays.{Play, is_title}
use Rattle.fj_replay.proofs.Version2.FeedFree.{cut_one}
use Rattle.fj_record.specs.declared.trace_stage.TraceStage.TheVariants.{Start, Titled, Going}
use Rattle.fj_record.specs.Traced.{PrintsHistories}
use Rattle.fj_record.specs.Traces.{opened, trace_rules}
use Rattle.fj_record.proofs.Printed.{entries_cut, entries_left, heading_free, heading_narrow, left_one, prints}

-- some number of events makes these bytes a history
abbrev AreOne : List ℕ → Type 0
AreOne b = (n : ℕ) × IsHistory b n

-- a heading, and behind it entries that may come and have lines
pub history_of : (heading : List ℕ) (pool : Pool) (entries : List Entry) → pool_in heading ≡ Some pool → AllMayCome (start pool) entries → AllHaveLines entries
    → IsHistory ((heading ++ LINE_FEED ∷ []) ++ entries_text entries) (event_count entries)
history_of heading pool entries opens may small =
    let free = heading_free heading pool opens in
    let text : (heading ++ LINE_FEED ∷ []) ++ entries_text entries ≡ heading ++ LINE_FEED ∷ entries_text entries = append_assoc heading (LINE_FEED ∷ []) (entries_text entries) in
    record {
      pool = pool;
      entries = entries;
      lines = record {
        heading = heading;
        cut = ap lines text ∙ cut_one [] heading (entries_text entries) free ∙ ap (λ (ls : List (List ℕ)). heading ∷ ls) (entries_cut entries small);
        opens = opens;
        small = small;
        may = may;
      };
      ended = ap rest text ∙ left_one [] heading (entries_text entries) free ∙ entries_left entries small;
      count = refl;
    }

module _ (play : Play) (few : accepted play.past.events ≤ 2 ^ 32) where
  whole : (heading : List ℕ) (pool : Pool) (naming : TaskNaming) (ls : List (List ℕ)) → pool_in heading ≡ Some pool
      → state_from trace_rules (Going (record { past = start pool; naming = naming })) ls ≡ Some (Going play)
      → AreOne ((heading ++ LINE_FEED ∷ []) ++ text_from trace_rules (Going (record { past = start pool; naming = naming })) ls)
  whole heading pool naming ls opens is =
      let behind = prints (record { past = start pool; naming = naming }) play ls ([], [], refl) (heading_narrow heading pool opens) is in
      (event_count behind.entries, rw behind.text (history_of heading pool behind.entries opens behind.may (behind.small few)))

  titled : (ls : List (List ℕ)) → state_from trace_rules Titled ls ≡ Some (Going play) → AreOne (text_from trace_rules Titled ls)
  titled [] is = absurd cc
  titled (line ∷ ls) is = go (pool_in line) refl is
    where
      go : (o : Option Pool) → pool_in line ≡ o → option_and_then (λ next. state_from trace_rules next ls) (opened (Names []) o) ≡ Some (Going play)
          → AreOne (option_map_or (λ next. (line ++ LINE_FEED ∷ []) ++ text_from trace_rules next ls) (opened (Names []) o) [])
      go None found is = absurd cc
      go (Some pool) found is = whole line pool (Names []) ls found is

  from_start : (ls : List (List ℕ)) → state_from trace_rules Start ls ≡ Some (Going play) → AreOne (text_from trace_rules Start ls)
  from_start [] is = absurd cc
  from_start (line ∷ ls) is = go (is_title line) (pool_in line) refl is
    where
      go : (title : Bool) (o : Option Pool) → pool_in line ≡ o → option_and_then (λ next. state_from trace_rules next ls) (if title then Some Titled else opened Numbers o) ≡ Some (Going play)
          → AreOne (option_map_or (λ next. (if title then [] else line ++ LINE_FEED ∷ []) ++ text_from trace_rules next ls) (if title then Some Titled else opened Numbers o) [])
      go true o found is = titled ls is
      go false None found is = absurd cc
      go false (Some pool) found is = whole line pool Numbers ls found is

pub printed : PrintsHistories
printed b play is few = from_start play few (lines b) is
