-- The text of a trace, line by line, and as bytes.
use Rattle.std.proofs.Common.{ℕ, ◌≡◌, ◌≤◌, ◌^◌, Bool, true, false, not, ◌&&◌, List, [], ◌∷◌, ◌++◌, map, Option, Some, None, refl, sym, ap, ◌∙◌, subst, arith, append_assoc}
use Rattle.std.specs.Prelude.{◌==◌, nat_le, if◌then◌else◌, option_map}
use Rattle.std.specs.Option.{option_and_then}
use Rattle.std.proofs.lemmas.Bool.{and_parts, leb-true}
use Rattle.std.proofs.lemmas.Grind.{flat_map-append}
use Rattle.std.proofs.lemmas.List.Concat.{flat_map-cons}
use Rattle.fj_rules.specs.declared.mode.Mode.{Mode}
use Rattle.fj_rules.specs.Bounds.{Pool}
use Rattle.fj_rules.specs.Epochs.{IsPast}
use Rattle.fj_rules.specs.Pasts.{Past, grown, sealed_now}
use Rattle.fj_rules.specs.Tasks.{accepted}
use Rattle.fj_lines.specs.declared.read.TheConstants.{LINE_FEED}
use Rattle.fj_lines.specs.Lines.{head_in}
use Rattle.fj_lines.specs.Headings.{is_within, limits_of, pool_in, pool_of}
use Rattle.fj_lines.proofs.Reading.FeedLaws.{is_free}
use Rattle.fj_lines.proofs.Reading.HeadLaws.{head_found, head_free}
use Rattle.fj_lines.proofs.Reading.PartLaws.{some_is}
use Rattle.fj_streams.specs.Cuts.{cut, left}
use Rattle.fj_streams.specs.Rules.{state_from, text_from}
use Rattle.fj_history.specs.declared.entry.Entry.{Entry}
use Rattle.fj_history.specs.declared.entry.Entry.TheVariants as entry
use Rattle.fj_history.specs.Entries.{entries_text, entry_line}
use Rattle.fj_history.proofs.Entries.LineLaws.{entry_free}
use Rattle.fj_check.specs.Entries.{AllMayCome, past_after, past_from}
use Rattle.fj_check.specs.Histories.{AllHaveLines}
use Rattle.fj_replay.specs.declared.asked.Asked.{Asked}
use Rattle.fj_replay.specs.Plays.{Play, asked_in, play_after}
use Rattle.fj_replay.proofs.Runs.{play_past}
use Rattle.fj_replay.proofs.Version2.FeedFree.{cut_one}
use Rattle.fj_record.specs.declared.trace_stage.TraceStage.TheVariants.{Going}
use Rattle.fj_record.specs.Traces.{entries_of, trace_rules}
use Rattle.fj_record.proofs.Codes.{line_has}
use Rattle.fj_record.proofs.Small.{IsNarrow}
use Rattle.fj_record.proofs.Traced.{grows, line_leads, line_small}

-- ---- entries behind entries

both_come : (past : Past) (es fs : List Entry) → AllMayCome past es → AllMayCome (past_from past es) fs → AllMayCome past (es ++ fs)
both_come past [] fs first second = second
both_come past (e ∷ es) fs first second = (first.0, both_come (past_after past e) es fs first.1 second)

both_lead : (past : Past) (es fs : List Entry) → past_from past (es ++ fs) ≡ past_from (past_from past es) fs
both_lead past [] fs = refl
both_lead past (e ∷ es) fs = both_lead (past_after past e) es fs

both_have_lines : (es fs : List Entry) → AllHaveLines es → AllHaveLines fs → AllHaveLines (es ++ fs)
both_have_lines [] fs first second = second
both_have_lines (e ∷ es) fs first second = (first.0, both_have_lines es fs first.1 second)

more_accepted : (past : Past) (es : List Entry) → accepted past.events ≤ accepted (past_from past es).events
more_accepted past [] = omega arith
more_accepted past (entry.Event e ∷ es) =
    let one = grows past.events (e ∷ []) in
    let others = more_accepted (grown past (e ∷ [])) es in
    omega (arith, one, others)
more_accepted past (entry.Seal ∷ es) = more_accepted (sealed_now past) es

same_pool : (past : Past) (es : List Entry) → (past_from past es).pool ≡ past.pool
same_pool past [] = refl
same_pool past (entry.Event e ∷ es) = same_pool (grown past (e ∷ [])) es
same_pool past (entry.Seal ∷ es) = same_pool (sealed_now past) es

-- ---- lines behind the heading

-- what is written at these lines is these entries, which may come and lead to where the lines do
pub record Prints (play : Play) (ls : List (List ℕ)) (later : Play) : Type 0 where
  pub entries : List Entry
  pub text : text_from trace_rules (Going play) ls ≡ entries_text entries
  pub may : AllMayCome play.past entries
  pub leads : past_from play.past entries ≡ later.past
  pub small : accepted later.past.events ≤ 2 ^ 32 → AllHaveLines entries

one_more : (play : Play) (asked : Asked) (line : List ℕ) (ls : List (List ℕ)) (later : Play) → IsPast play.past → IsNarrow play.past.pool → asked_in play.naming line ≡ Some asked → Prints (play_after play asked) ls later
    → Prints play (line ∷ ls) later
one_more play asked line ls later run narrow reads others =
    let led = line_leads play asked run in
    let es = entries_of play asked in
    record {
      entries = es ++ others.entries;
      text = rw reads (ap (λ (b : List ℕ). entries_text es ++ b) others.text ∙ sym (flat_map-append (λ (e : Entry). entry_line e ++ LINE_FEED ∷ []) es others.entries));
      may = both_come play.past es others.entries led.0 (subst (λ (p : Past). AllMayCome p others.entries) (sym led.1) others.may);
      leads = both_lead play.past es others.entries ∙ ap (λ (p : Past). past_from p others.entries) led.1 ∙ others.leads;
      small = λ few.
          let before = more_accepted (play_after play asked).past others.entries in
          let same = ap (λ (p : Past). accepted p.events) others.leads in
          both_have_lines es others.entries (line_small play asked run narrow (line_has play.naming line asked reads) (omega (arith, before, same, few))) (others.small few);
    }

pub prints : (play : Play) (later : Play) (ls : List (List ℕ)) → IsPast play.past → IsNarrow play.past.pool → state_from trace_rules (Going play) ls ≡ Some (Going later) → Prints play ls later
prints play later [] run narrow is =
    let same : play ≡ later = cc in
    record { entries = []; text = refl; may = tt; leads = ap (λ (p : Play). p.past) same; small = λ few. tt }
prints play later (line ∷ ls) run narrow is = go (asked_in play.naming line) refl is (λ asked there. prints (play_after play asked) later ls (play_past play asked run) (narrow_after asked) there)
  where
    narrow_after : (asked : Asked) → IsNarrow (play_after play asked).past.pool
    narrow_after asked =
        let led = line_leads play asked run in
        let same : play.past.pool ≡ (play_after play asked).past.pool = sym (same_pool play.past (entries_of play asked)) ∙ ap (λ (p : Past). p.pool) led.1 in
        subst IsNarrow same narrow

    go : (o : Option Asked) → asked_in play.naming line ≡ o → option_and_then (λ next. state_from trace_rules next ls) (option_map (λ asked. Going (play_after play asked)) o) ≡ Some (Going later)
        → ((asked : Asked) → state_from trace_rules (Going (play_after play asked)) ls ≡ Some (Going later) → Prints (play_after play asked) ls later) → Prints play (line ∷ ls) later
    go None reads is each = absurd cc
    go (Some asked) reads is each = one_more play asked line ls later run narrow reads (each asked is)

-- ---- bytes

no_feed : (b : ℕ) → not (b == 10) ≡ true → (b == 10) ≡ false
no_feed b is = go (b == 10) is
  where
    go : (t : Bool) → not t ≡ true → t ≡ false
    go true is = absurd cc
    go false is = refl

pub left_one : (before line later : List ℕ) → is_free line ≡ true → left before (line ++ 10 ∷ later) ≡ left [] later
left_one before [] later free = refl
left_one before (b ∷ line) later free =
    let both = and_parts (not (b == 10)) (is_free line) free in
    rw (no_feed b both.0) (left_one (before ++ b ∷ []) line later both.1)

one_first : (e : Entry) (es : List Entry) → entries_text (e ∷ es) ≡ entry_line e ++ 10 ∷ entries_text es
one_first e es = flat_map-cons (λ (f : Entry). entry_line f ++ LINE_FEED ∷ []) e es ∙ append_assoc (entry_line e) (LINE_FEED ∷ []) (entries_text es)

pub entries_cut : (es : List Entry) → AllHaveLines es → cut [] (entries_text es) ≡ map entry_line es
entries_cut [] small = refl
entries_cut (e ∷ es) small =
    ap (cut []) (one_first e es) ∙ cut_one [] (entry_line e) (entries_text es) (entry_free e small.0) ∙ ap (λ (ls : List (List ℕ)). entry_line e ∷ ls) (entries_cut es small.1)

pub entries_left : (es : List Entry) → AllHaveLines es → left [] (entries_text es) ≡ []
entries_left [] small = refl
entries_left (e ∷ es) small = ap (left []) (one_first e es) ∙ left_one [] (entry_line e) (entries_text es) (entry_free e small.0) ∙ entries_left es small.1

-- ---- headings

pub heading_free : (heading : List ℕ) (pool : Pool) → pool_in heading ≡ Some pool → is_free heading ≡ true
heading_free heading pool opens = go (head_in heading) refl opens
  where
    go : (o : Option (Mode × List ℕ)) → head_in heading ≡ o → option_and_then pool_of o ≡ Some pool → is_free heading ≡ true
    go None reads is = absurd cc
    go (Some head) reads is = let found = head_found heading head reads in ap is_free found.1 ∙ head_free head found.0

pub heading_narrow : (heading : List ℕ) (pool : Pool) → pool_in heading ≡ Some pool → IsNarrow pool
heading_narrow heading pool opens = go (head_in heading) opens
  where
    within : (head : Mode × List ℕ) (b : Bool) → is_within (limits_of head.1) ≡ b → (if b then Some (record { mode = head.0; limits = limits_of head.1 }) else None) ≡ Some pool → IsNarrow pool
    within head true is there =
        let l = limits_of head.1 in
        let workers = nat_le 1 l.workers && nat_le l.workers 32 in
        let submitters = nat_le 1 l.submitters && nat_le l.submitters 32 in
        let first = and_parts workers _ is in
        let second = and_parts submitters _ first.1 in
        let few = leb-true l.workers 32 (and_parts (nat_le 1 l.workers) (nat_le l.workers 32) first.0).1 in
        let few2 = leb-true l.submitters 32 (and_parts (nat_le 1 l.submitters) (nat_le l.submitters 32) second.0).1 in
        subst IsNarrow (some_is (record { mode = head.0; limits = l }) pool there) (record { workers = few; submitters = few2 })
    within head false is there = absurd cc

    go : (o : Option (Mode × List ℕ)) → option_and_then pool_of o ≡ Some pool → IsNarrow pool
    go None is = absurd cc
    go (Some head) is = within head (is_within (limits_of head.1)) refl is
