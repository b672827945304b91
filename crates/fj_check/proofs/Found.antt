-- What a check has found when it stops.
use Rattle.std.proofs.Common.{ℕ, ◌≡◌, List, [], ◌∷◌, ◌++◌, Option, Some, None, true, false, refl, sym, ap, ◌∙◌, inl, inr, ⊎_elim, subst}
use Rattle.std.specs.Prelude.{⊤, IfErr, Result, Ok, Err, is_some}
use Rattle.std.proofs.lemmas.Bool.{true≢false}
use Rattle.std.proofs.lemmas.List.{append-nil}
use Rattle.fj_rules.specs.Bounds.{Pool}
use Rattle.fj_rules.specs.Pasts.{Past}
use Rattle.fj_lines.specs.Headings.{start}
use Rattle.fj_history.specs.declared.entry.Entry.{Entry}
use Rattle.fj_history.specs.Entries.{entry_in}
use Rattle.fj_streams.specs.declared.fault.FilterFault.{FilterFault}
use Rattle.fj_streams.specs.declared.fault.FilterFault.TheVariants as filter
use Rattle.fj_streams.specs.Cuts.{lines}
use Rattle.fj_streams.specs.Rules.{Rules, state_from, is_good}
use Rattle.fj_streams.specs.Tells.{FaultTells}
use Rattle.fj_streams.specs.Calls.{Calls}
use Rattle.fj_check.specs.declared.fault.CheckFault.TheVariants as check
use Rattle.fj_streams.specs.Faults.{StopsAtLine, EndsFrom, Finishes, FaultOf, Stands, IsNoLine}
use Rattle.fj_streams.specs.Starving.{StarvesAtLine}
use Rattle.fj_check.specs.declared.history_check.HistoryCheck.{HistoryCheck}
use Rattle.fj_check.specs.declared.history_check.HistoryCheck.TheVariants.{Start, Going}
use Rattle.fj_check.specs.declared.history_stop.HistoryStop.{HistoryStop}
use Rattle.fj_check.specs.declared.history_stop.HistoryStop.TheVariants as stop
use Rattle.fj_check.specs.Entries.{past_from, event_count}
use Rattle.fj_check.specs.Histories.{AreHistory}
use Rattle.fj_check.specs.Checks.{FailsToRead, IsChecked, IsReadAs, AreGood, IsNoEntry, IsFaulty, FaultMeans, StopsCheck}
use Rattle.fj_streams.specs.declared.fault.LineStop.{LineStop}
use Rattle.fj_streams.specs.declared.fault.LineStop.TheVariants as fails
use Rattle.fj_check.specs.Rules.{check_rules, has_heading, StopsHere, IsStopAt, IsEntryStop, check_fault, events_in}
use Rattle.fj_streams.proofs.Begun.{appends_nothing}
use Rattle.fj_check.proofs.Tested.{come_barred}
use Rattle.fj_check.proofs.Leading.{Leads, leads}

-- ---- where lines lead

are_good : (ls : List (List ℕ)) (last : HistoryCheck) → Leads ls last → AreGood ls
are_good ls last l = ⊎_elim (λ none. inl none.0) (λ some. inr (some.0, some.1, some.2)) l

good_lines : (ls : List (List ℕ)) → is_good check_rules Start ls ≡ true → AreGood ls
good_lines ls good = go (state_from check_rules Start ls) refl good
  where
    go : (o : Option HistoryCheck) → state_from check_rules Start ls ≡ o → is_some o ≡ true → AreGood ls
    go None is good = absurd cc
    go (Some last) is good = are_good ls last (leads ls last is)

headed : (ls : List (List ℕ)) (last : HistoryCheck) → Leads ls last → has_heading last ≡ true
    → (pool : Pool) × (entries : List Entry) × AreHistory ls pool entries × (last ≡ Going (past_from (start pool) entries) (event_count entries))
headed ls last l has = ⊎_elim (λ none. absurd (true≢false (sym has ∙ ap has_heading none.1))) (λ some. some) l

headless : (ls : List (List ℕ)) (last : HistoryCheck) → Leads ls last → has_heading last ≡ false → ls ≡ []
headless ls last l has = ⊎_elim (λ none. none.0) (λ some. absurd (true≢false (sym (ap has_heading some.3) ∙ has))) l

-- ---- at the end

pub checked : (last : HistoryCheck) (before ahead start now : Option (List ℕ)) → Finishes check_rules Start last before ahead start now → IsChecked (events_in last) before ahead
checked last before ahead start now done =
    let b = done.0 in
    let end = done.1 in
    let found = headed (lines b) last (leads (lines b) last end.input.good) end.input.headed in
    record {
      bytes = b;
      read = end.read;
      whole = end.whole;
      history = record { pool = found.0; entries = found.1; lines = found.2; ended = end.input.ended; count = ap events_in found.3 };
    }

-- the same, with the entries and what has happened after them
pub read_as : (past : Past) (n : ℕ) (before ahead start now : Option (List ℕ)) → Finishes check_rules Start (Going past n) before ahead start now → IsReadAs past before ahead
read_as past n before ahead begin now done =
    let b = done.0 in
    let end = done.1 in
    let found = headed (lines b) (Going past n) (leads (lines b) (Going past n) end.input.good) end.input.headed in
    record {
      bytes = b;
      read = end.read;
      whole = end.whole;
      pool = found.0;
      entries = found.1;
      lines = found.2;
      ended = end.input.ended;
      after = same past (past_from (start found.0) found.1) n (event_count found.1) found.3;
    }
  where
    same : (a b : Past) (m k : ℕ) → Going a m ≡ Going b k → a ≡ b
    same a b m k is = cc

pub read_checked : (past : Past) (before ahead : Option (List ℕ)) → IsReadAs past before ahead → (n : ℕ) × IsChecked n before ahead
read_checked past before ahead is = (
  event_count is.entries,
  record {
    bytes = is.bytes;
    read = is.read;
    whole = is.whole;
    history = record { pool = is.pool; entries = is.entries; lines = is.lines; ended = is.ended; count = refl };
  },
)

-- ---- at a fault

-- the stop of a line behind these, by its reason
stop_means : (n : ℕ) (why : HistoryStop) (b : List ℕ) (ahead : Option (List ℕ)) → Stands check_rules Start n why b → FaultMeans (check_fault (filter.Stop n why)) b ahead
stop_means n why b ahead at = go why at.reason (leads at.before at.state at.good)
  where
    behind : (past : Past) (k : ℕ) (why : HistoryStop) → at.state ≡ Going past k → StopsHere at.state at.line why → StopsHere (Going past k) at.line why
    behind past k why is reason = subst (λ (s : HistoryCheck). StopsHere s at.line why) is reason

    at_start : (why : HistoryStop) → at.state ≡ Start → StopsHere at.state at.line why → StopsHere Start at.line why
    at_start why is reason = subst (λ (s : HistoryCheck). StopsHere s at.line why) is reason

    first : at.before ≡ [] → lines b ≡ at.line ∷ at.later
    first none = at.cut ∙ ap (λ ls. ls ++ at.line ∷ at.later) none

    no_entry : {pool : Pool} {entries : List Entry} → AreHistory at.before pool entries → entry_in at.line ≡ None → IsNoEntry at.before at.line
    no_entry h none = subst (λ ls. IsNoEntry ls at.line) (sym h.cut) none

    go : (why : HistoryStop) → StopsHere at.state at.line why → Leads at.before at.state → FaultMeans (check_fault (filter.Stop n why)) b ahead
    go (stop.Objection o) reason l = ⊎_elim
        (λ none. absurd (at_start (stop.Objection o) none.1 reason))
        (λ some. let bar = behind _ _ (stop.Objection o) some.3 reason in record {
          before = at.before;
          line = at.line;
          later = at.later;
          pool = some.0;
          entries = some.1;
          entry = bar.0;
          cut = at.cut;
          number = at.number;
          good = some.2;
          reads = bar.1;
          barred = bar.2;
        }) l
    go stop.Line reason l = record {
      before = at.before;
      behind = at.line ∷ at.later;
      cut = at.cut;
      number = at.number;
      good = are_good at.before at.state l;
      wrong = inl (⊎_elim (λ none. subst (λ ls. IsNoEntry ls at.line) (sym none.0) (at_start stop.Line none.1 reason)) (λ some. no_entry some.2 (behind _ _ stop.Line some.3 reason)) l);
    }
    go stop.Limits reason l = ⊎_elim
        (λ none. record { heading = at.line; others = at.later; cut = first none.0; outside = at_start stop.Limits none.1 reason })
        (λ some. absurd (behind _ _ stop.Limits some.3 reason)) l

line_means : (n : ℕ) (b : List ℕ) (ahead : Option (List ℕ)) → IsNoLine check_rules Start n b ahead → IsFaulty n b ahead
line_means n b ahead found = ⊎_elim
    (λ long. record {
      before = long.before;
      behind = long.line ∷ long.later;
      cut = long.cut;
      number = long.number;
      good = are_good long.before long.state (leads long.before long.state long.good);
      wrong = inr long.long;
    })
    (λ unended. record {
      before = lines b;
      behind = [];
      cut = sym (append-nil (lines b));
      number = unended.0.number;
      good = good_lines (lines b) unended.0.good;
      wrong = ⊎_elim (λ long. inl long) (λ end. inr (end.0, ⊎_elim (λ some. inl some) (λ lacks. inr (headless (lines b) lacks.0 (leads (lines b) lacks.0 lacks.1) lacks.2)) end.1)) unended.1;
    }) found

fault_means : (fault : FilterFault HistoryStop) (b : List ℕ) (ahead start now : Option (List ℕ)) → FaultOf check_rules Start fault b ahead start now → FaultMeans (check_fault fault) b ahead
fault_means (filter.Stop n why) b ahead start now means = stop_means n why b ahead means.0
fault_means (filter.Line n) b ahead start now means = line_means n b ahead means.0
fault_means filter.Memory b ahead start now means = tt
fault_means filter.Read b ahead start now means = good_lines (lines b) means.0.good
fault_means filter.Write b ahead start now means = tt

pub stops : {Told : List ℕ → Type 0} (fault : FilterFault HistoryStop) (before ahead start now : Option (List ℕ)) → ((b : List ℕ) × EndsFrom check_rules Start fault b before ahead start now × Told b) → StopsCheck before ahead (check_fault fault)
stops fault before ahead start now s = (s.0, s.1.read, fault_means fault s.0 ahead start now s.1.means)

-- a check that failed to read is a filter that did
pub read_failed : {A : Type 0} (rules : Rules A HistoryStop) (first : A) (fault : FilterFault HistoryStop) (before ahead start now : Option (List ℕ)) (calls after written flushed : Option Calls)
    → ((b : List ℕ) × EndsFrom rules first fault b before ahead start now × FaultTells fault b calls after written flushed) → check_fault fault ≡ check.Read
    → FailsToRead (record { bytes = before; bytes_after = ahead; calls = calls; calls_after = after })
read_failed rules first (filter.Stop n (stop.Objection why)) before ahead start now calls after written flushed s is = absurd cc
read_failed rules first (filter.Stop n stop.Line) before ahead start now calls after written flushed s is = absurd cc
read_failed rules first (filter.Stop n stop.Limits) before ahead start now calls after written flushed s is = absurd cc
read_failed rules first (filter.Line n) before ahead start now calls after written flushed s is = absurd cc
read_failed rules first filter.Memory before ahead start now calls after written flushed s is = absurd cc
read_failed rules first filter.Write before ahead start now calls after written flushed s is = absurd cc
read_failed rules first filter.Read before ahead start now calls after written flushed s is =
    ⊎_elim (λ failed. inl failed) (λ many. inr (s.0, s.1.read, many)) s.2.0

-- ---- at one line

-- where nothing is ever written, nothing is where memory runs out
pub silent : {S T : Type 0} (r : Result T (LineStop S)) (old : Option (List ℕ)) → IfErr r (λ fault. StarvesAtLine {A = ⊤} (λ s l. ⊤) tt [] fault old old)
silent (Ok x) old = tt
silent (Err (fails.Stop stop)) old = tt
silent (Err fails.Memory) old = (tt, appends_nothing old)
silent (Err fails.Write) old = tt

-- a fault behind the heading, where nothing was written
pub entry_stops : (past : Past) (n : ℕ) (line : List ℕ) (why : LineStop HistoryStop) (old : Option (List ℕ)) → IsEntryStop past line why → StopsAtLine check_rules (Going past n) line why old old
entry_stops past n line why old found = ⊎_elim (λ none. no_entry none.0 why none.1) (λ some. at some.0 some.1 why some.2) found
  where
    no_entry : entry_in line ≡ None → (why : LineStop HistoryStop) → why ≡ fails.Stop stop.Line → StopsAtLine check_rules (Going past n) line why old old
    no_entry none (fails.Stop stop.Line) is = (rw none refl, none, appends_nothing old)
    no_entry none (fails.Stop (stop.Objection o)) is = absurd cc
    no_entry none (fails.Stop stop.Limits) is = absurd cc
    no_entry none fails.Memory is = absurd cc
    no_entry none fails.Write is = absurd cc

    at : (e : Entry) → entry_in line ≡ Some e → (why : LineStop HistoryStop) → IsStopAt past e why → StopsAtLine check_rules (Going past n) line why old old
    at e reads (fails.Stop (stop.Objection o)) bar = (rw (reads, come_barred past e bar) refl, (e, reads, bar), appends_nothing old)
    at e reads (fails.Stop stop.Line) bar = absurd bar
    at e reads (fails.Stop stop.Limits) bar = absurd bar
    at e reads fails.Memory may = (rw (reads, may) refl, (0, appends_nothing old))
    at e reads fails.Write bar = absurd bar
