-- Notes that were read to the end of an input, or to a fault.
use Rattle.std.proofs.Common.{ℕ, ◌≡◌, ◌<◌, List, [], ◌∷◌, length, Option, Some, None, true, false, refl, sym, ap, ⊎_elim, inl, inr, arith}
use Rattle.std.specs.Prelude.{⊤, ◌&&◌, nat_le, is_some, if◌then◌else◌, Bool}
use Rattle.std.specs.Option.{option_and_then}
use Rattle.std.proofs.lemmas.Bool.{true≢false}
use Rattle.std.proofs.lemmas.List.{append-nil}
use Rattle.fj_lines.specs.declared.read.fault.LineFault.{LineFault}
use Rattle.fj_streams.specs.declared.fault.FilterFault.{FilterFault}
use Rattle.fj_streams.specs.declared.fault.FilterFault.TheVariants as filter
use Rattle.fj_streams.specs.Cuts.{lines}
use Rattle.fj_streams.specs.Rules.{state_from, is_good}
use Rattle.fj_streams.specs.Faults.{EndsFrom, Finishes, FaultOf, Stands, IsNoLine}
use Rattle.fj_notes.specs.declared.note.Note.{Note}
use Rattle.fj_notes.specs.declared.read.TheConstants.{MAX_NOTE}
use Rattle.fj_notes.specs.Notes.{note_in}
use Rattle.fj_notes.specs.Reading.{AreNotes, AreNotesOf, FaultMeans, IsFaulty, StopsNotes, note_rules, notes_fault}
use Rattle.fj_notes.proofs.Lines.NoteLaws.{note_found, note_short}

-- ---- one line

none_long : (line : List ℕ) (o : Option Note) → note_in line ≡ o → MAX_NOTE < length line → o ≡ None
none_long line None is long = refl
none_long line (Some n) is long =
    let found = note_found line n is in absurd (omega (arith, long, ap length found.1, note_short n found.0))

long_none : (line : List ℕ) → MAX_NOTE < length line → note_in line ≡ None
long_none line long = none_long line (note_in line) refl long

-- ---- many lines

one_more : (line : List ℕ) (n : Note) (ls : List (List ℕ)) → note_in line ≡ Some n → AreNotes ls → AreNotes (line ∷ ls)
one_more line n ls is (ns, cut, all) =
    let found = note_found line n is in (n ∷ ns, rw (found.1, cut) refl, (found.0, all))

pub leads : (ls : List (List ℕ)) (last : ⊤) → state_from note_rules tt ls ≡ Some last → AreNotes ls
leads [] last is = ([], refl, tt)
leads (line ∷ ls) last is = there (nat_le (length line) MAX_NOTE) (note_in line) refl is (λ more. leads ls last more)
  where
    there : (short : Bool) (o : Option Note) → note_in line ≡ o → option_and_then (λ next. state_from note_rules next ls) (if short && is_some o then Some tt else None) ≡ Some last
        → (state_from note_rules tt ls ≡ Some last → AreNotes ls) → AreNotes (line ∷ ls)
    there false o found is more = absurd cc
    there true None found is more = absurd cc
    there true (Some n) found is more = one_more line n ls found (more is)

good_lines : (ls : List (List ℕ)) → is_good note_rules tt ls ≡ true → AreNotes ls
good_lines ls good = go (state_from note_rules tt ls) refl good
  where
    go : (o : Option ⊤) → state_from note_rules tt ls ≡ o → is_some o ≡ true → AreNotes ls
    go None is good = absurd cc
    go (Some last) is good = leads ls last is

-- ---- at the end

pub read_whole : (last : ⊤) (before ahead start now : Option (List ℕ)) → Finishes note_rules tt last before ahead start now → AreNotesOf before ahead
read_whole last before ahead start now done =
    let end = done.1 in
    record { bytes = done.0; read = end.read; whole = end.whole; notes = leads (lines done.0) last end.input.good; ended = end.input.ended }

-- ---- at a fault

stop_means : (n : ℕ) (why : LineFault) (b : List ℕ) (ahead : Option (List ℕ)) → Stands note_rules tt n why b → IsFaulty n b ahead
stop_means n why b ahead at = record {
  before = at.before;
  behind = at.line ∷ at.later;
  cut = at.cut;
  number = at.number;
  good = leads at.before at.state at.good;
  wrong = at.reason;
}

line_means : (n : ℕ) (b : List ℕ) (ahead : Option (List ℕ)) → IsNoLine note_rules tt n b ahead → IsFaulty n b ahead
line_means n b ahead found = ⊎_elim
    (λ long. record {
      before = long.before;
      behind = long.line ∷ long.later;
      cut = long.cut;
      number = long.number;
      good = leads long.before long.state long.good;
      wrong = long_none long.line long.long;
    })
    (λ unended. record {
      before = lines b;
      behind = [];
      cut = sym (append-nil (lines b));
      number = unended.0.number;
      good = good_lines (lines b) unended.0.good;
      wrong = ⊎_elim (λ long. inl long) (λ end. inr (end.0, ⊎_elim (λ some. some) (λ lacks. absurd (true≢false lacks.2)) end.1)) unended.1;
    }) found

fault_means : (fault : FilterFault LineFault) (b : List ℕ) (ahead start now : Option (List ℕ)) → FaultOf note_rules tt fault b ahead start now → FaultMeans (notes_fault fault) b ahead
fault_means (filter.Stop n why) b ahead start now means = stop_means n why b ahead means.0
fault_means (filter.Line n) b ahead start now means = line_means n b ahead means.0
fault_means filter.Memory b ahead start now means = tt
fault_means filter.Read b ahead start now means = good_lines (lines b) means.0.good
fault_means filter.Write b ahead start now means = tt

pub stops : {Told : List ℕ → Type 0} (fault : FilterFault LineFault) (before ahead start now : Option (List ℕ)) → ((b : List ℕ) × EndsFrom note_rules tt fault b before ahead start now × Told b) → StopsNotes before ahead (notes_fault fault)
stops fault before ahead start now s = (s.0, s.1.read, fault_means fault s.0 ahead start now s.1.means)
