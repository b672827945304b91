-- No entry, and no heading, has a line of more than 68 bytes.
use Rattle.std.proofs.Common.{ℕ, ◌≡◌, ◌<◌, List, length, Option, Some, None, refl, ap, arith}
use Rattle.fj_rules.specs.declared.mode.Mode.{Mode}
use Rattle.fj_lines.specs.Lines.{head_in}
use Rattle.fj_lines.specs.Headings.{pool_in}
use Rattle.fj_lines.proofs.Reading.HeadLaws.{head_short}
use Rattle.fj_history.specs.declared.entry.Entry.{Entry}
use Rattle.fj_history.specs.declared.read.TheConstants.{MAX_ENTRY}
use Rattle.fj_history.specs.Entries.{entry_in}
use Rattle.fj_history.proofs.Entries.EntryLaws.{entry_found}
use Rattle.fj_history.proofs.Entries.LineLaws.{entry_short}
use Rattle.fj_check.specs.declared.history_check.HistoryCheck.{HistoryCheck}
use Rattle.fj_check.specs.declared.history_check.HistoryCheck.TheVariants.{Start, Going}
use Rattle.fj_check.specs.Rules.{after}

no_head : (l : List ℕ) (o : Option (Mode × List ℕ)) → head_in l ≡ o → MAX_ENTRY < length l → pool_in l ≡ None
no_head l None e long = rw e refl
no_head l (Some head) e long = let short = head_short l head e in absurd (omega (arith, short, long))

no_entry : (l : List ℕ) (o : Option Entry) → entry_in l ≡ o → MAX_ENTRY < length l → o ≡ None
no_entry l None e long = refl
no_entry l (Some found) e long =
    let is = entry_found l found e in
    let short = entry_short found is.0 in absurd (omega (arith, short, long, ap length is.1))

pub too_long : (state : HistoryCheck) (line : List ℕ) → MAX_ENTRY < length line → after state line ≡ None
too_long Start line long = rw (no_head line (head_in line) refl long) refl
too_long (Going past n) line long = rw (no_entry line (entry_in line) refl long) refl
