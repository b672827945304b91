-- Where the lines of a history lead.
use Rattle.std.proofs.Common.{ℕ, ◌≡◌, ◌+◌, ◌⊎◌, Bool, true, false, List, [], ◌∷◌, map, Option, Some, None, refl, sym, ap, ◌∙◌, arith, inl, inr, subst}
use Rattle.std.specs.Prelude.{if◌then◌else◌}
use Rattle.std.specs.Option.{option_and_then}
use Rattle.fj_rules.specs.Bounds.{Pool}
use Rattle.fj_rules.specs.Pasts.{Past}
use Rattle.fj_lines.proofs.Reading.PartLaws.{some_is}
use Rattle.fj_lines.specs.Headings.{pool_in, start}
use Rattle.fj_history.specs.declared.entry.Entry.{Entry}
use Rattle.fj_history.specs.declared.entry.Entry.TheVariants as entry
use Rattle.fj_history.specs.Entries.{entry_in, entry_line, HasEntryLine}
use Rattle.fj_history.proofs.Entries.EntryLaws.{entry_found}
use Rattle.fj_streams.specs.Rules.{state_from}
use Rattle.fj_check.specs.declared.history_check.HistoryCheck.{HistoryCheck}
use Rattle.fj_check.specs.declared.history_check.HistoryCheck.TheVariants.{Start, Going}
use Rattle.fj_check.specs.Entries.{MayCome, AllMayCome, past_after, past_from, event_count}
use Rattle.fj_check.specs.Histories.{AllHaveLines, AreHistory}
use Rattle.fj_check.specs.Rules.{after, opened, came, can_come, count_of, check_rules}
use Rattle.fj_check.proofs.Tested.{come_told}

-- ---- one line behind the heading

-- the entry of a line that leads on, and where
record Comes (past : Past) (n : ℕ) (line : List ℕ) (next : HistoryCheck) : Type 0 where
  entry : Entry
  written : line ≡ entry_line entry
  small : HasEntryLine entry
  may : MayCome past entry
  leads : next ≡ Going (past_after past entry) (n + count_of entry)

comes : (past : Past) (n : ℕ) (line : List ℕ) (next : HistoryCheck) → after (Going past n) line ≡ Some next → Comes past n line next
comes past n line next is = read (entry_in line) refl is
  where
    at : (e : Entry) (b : Bool) → entry_in line ≡ Some e → can_come past e ≡ b → (if b then Some (Going (past_after past e) (n + count_of e)) else None) ≡ Some next → Comes past n line next
    at e true found holds is =
        let law = entry_found line e found in record { entry = e; written = law.1; small = law.0; may = come_told past e holds; leads = sym (some_is (Going (past_after past e) (n + count_of e)) next is) }
    at e false found bad is = absurd cc

    read : (o : Option Entry) → entry_in line ≡ o → option_and_then (came past n) o ≡ Some next → Comes past n line next
    read None found is = absurd cc
    read (Some e) found is = at e (can_come past e) found refl is

-- ---- lines behind the heading

-- the lines are those of these entries, each of which may come, and lead there
pub record Goes (past : Past) (n : ℕ) (ls : List (List ℕ)) (last : HistoryCheck) : Type 0 where
  pub entries : List Entry
  pub cut : ls ≡ map entry_line entries
  pub small : AllHaveLines entries
  pub may : AllMayCome past entries
  pub end : last ≡ Going (past_from past entries) (n + event_count entries)

one_more : (past : Past) (n : ℕ) (line : List ℕ) (ls : List (List ℕ)) (next last : HistoryCheck) (first : Comes past n line next) → Goes (past_after past first.entry) (n + count_of first.entry) ls last
    → Goes past n (line ∷ ls) last
one_more past n line ls next last first rest = record {
  entries = first.entry ∷ rest.entries;
  cut = rw (first.written, rest.cut) refl;
  small = (first.small, rest.small);
  may = (first.may, rest.may);
  end = rest.end ∙ ap (Going (past_from (past_after past first.entry) rest.entries)) (counted first.entry rest.entries);
}
  where
    counted : (e : Entry) (es : List Entry) → n + count_of e + event_count es ≡ n + event_count (e ∷ es)
    counted (entry.Event e) es = omega arith
    counted entry.Seal es = omega arith

pub goes : (past : Past) (n : ℕ) (ls : List (List ℕ)) (last : HistoryCheck) → state_from check_rules (Going past n) ls ≡ Some last → Goes past n ls last
goes past n [] last is = record { entries = []; cut = refl; small = tt; may = tt; end = sym (some_is (Going past n) last is) ∙ ap (Going past) (omega arith) }
goes past n (line ∷ ls) last is = there (after (Going past n) line) refl is (λ past2 n2 is. goes past2 n2 ls last is)
  where
    there : (o : Option HistoryCheck) → after (Going past n) line ≡ o → option_and_then (λ next. state_from check_rules next ls) o ≡ Some last
        → ((past2 : Past) (n2 : ℕ) → state_from check_rules (Going past2 n2) ls ≡ Some last → Goes past2 n2 ls last) → Goes past n (line ∷ ls) last
    there None found is more = absurd cc
    there (Some next) found is more =
        let first = comes past n line next found in
        one_more past n line ls next last first (more (past_after past first.entry) (n + count_of first.entry) (subst (λ (s : HistoryCheck). state_from check_rules s ls ≡ Some last) first.leads is))

-- ---- from the beginning

-- the lines are none, or a history that leads there
abbrev pub Leads : List (List ℕ) → HistoryCheck → Type 0
Leads ls last =
    ((ls ≡ []) × (last ≡ Start))
    ⊎ ((pool : Pool) × (entries : List Entry) × AreHistory ls pool entries × (last ≡ Going (past_from (start pool) entries) (event_count entries)))

pub leads : (ls : List (List ℕ)) (last : HistoryCheck) → state_from check_rules Start ls ≡ Some last → Leads ls last
leads [] last is = inl (refl, sym (some_is Start last is))
leads (heading ∷ ls) last is = inr (there (pool_in heading) refl is)
  where
    there : (o : Option Pool) → pool_in heading ≡ o → option_and_then (λ next. state_from check_rules next ls) (opened o) ≡ Some last
        → (pool : Pool) × (entries : List Entry) × AreHistory (heading ∷ ls) pool entries × (last ≡ Going (past_from (start pool) entries) (event_count entries))
    there None found is = absurd cc
    there (Some pool) found is =
        let rest = goes (start pool) 0 ls last is in
        (pool, rest.entries, record { heading = heading; cut = ap (λ ms. heading ∷ ms) rest.cut; opens = found; small = rest.small; may = rest.may }, rest.end ∙ ap (Going (past_from (start pool) rest.entries)) (omega arith))
