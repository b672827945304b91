-- Notes that are written one after another.
use Rattle.std.proofs.Common.{ℕ, ◌≡◌, List, [], ◌∷◌, ◌++◌, Option, Some, None, sym, ap, subst, ◌∙◌, append_assoc}
use Rattle.std.specs.Prelude.{Result, Ok, Err, IsErrAnd, OnOk}
use Rattle.std.specs.Io.KnownBytes.{Appends}
use Rattle.std.proofs.lemmas.List.{append-nil}
use Rattle.std.proofs.lemmas.Grind.{flat_map-append}
use Rattle.fj_lines.specs.declared.read.TheConstants.{LINE_FEED}
use Rattle.fj_streams.specs.Calls.{Calls, IsFine}
use Rattle.fj_streams.proofs.CallsMade.{fine_self}
use Rattle.fj_record.specs.declared.fault.WriteFault.{WriteFault}
use Rattle.fj_record.specs.declared.fault.WriteFault.TheVariants.{Memory}
use Rattle.fj_record.specs.Writes.{Writes}
use Rattle.fj_record.proofs.Written.{written_then}
use Rattle.fj_notes.specs.declared.note.Note.{Note}
use Rattle.fj_notes.specs.Notes.{AllHaveLines, HasNoteLine, note_line, notes_text}
use Rattle.fj_notebook.specs.Writes.{PushesNotes, WritesNotes}

lines_then : (xs ys : List Note) → notes_text (xs ++ ys) ≡ notes_text xs ++ notes_text ys
lines_then xs ys = flat_map-append (λ (n : Note). note_line n ++ LINE_FEED ∷ []) xs ys

have_then : (xs ys : List Note) → AllHaveLines xs → AllHaveLines ys → AllHaveLines (xs ++ ys)
have_then [] ys first second = second
have_then (x ∷ xs) ys first second = (first.0, have_then xs ys first.1 second)

-- ---- into a text

pub pushes_none : (text : List ℕ) → PushesNotes text text
pushes_none text = ([], (tt, sym (append-nil text)))

pub pushes_one : (old new : List ℕ) (n : Note) → HasNoteLine n → new ≡ old ++ (note_line n ++ LINE_FEED ∷ []) → PushesNotes old new
pushes_one old new n fits is = (n ∷ [], ((fits, tt), is ∙ ap (λ (t : List ℕ). old ++ t) (sym (append-nil (note_line n ++ LINE_FEED ∷ [])))))

pub pushes_then : (a b c : List ℕ) → PushesNotes a b → PushesNotes b c → PushesNotes a c
pushes_then a b c (xs, p) (ys, q) =
    (xs ++ ys, (have_then xs ys p.0 q.0, q.1 ∙ ap (λ (t : List ℕ). t ++ notes_text ys) p.1 ∙ append_assoc a (notes_text xs) (notes_text ys) ∙ ap (λ (t : List ℕ). a ++ t) (sym (lines_then xs ys))))

-- ---- to a writer

-- some notes were written so far
abbrev pub WroteNotes : Option (List ℕ) → Option (List ℕ) → Option Calls → Option Calls → Type 0
WroteNotes bytes bytes_after calls calls_after = (notes : List Note) × (AllHaveLines notes × (Appends bytes bytes_after (notes_text notes) × IsFine calls calls_after))

appends_none : (a : Option (List ℕ)) → Appends a a []
appends_none None = tt
appends_none (Some x) = sym (append-nil x)

pub wrote_none : (a : Option (List ℕ)) (i : Option Calls) → WroteNotes a a i i
wrote_none a i = ([], (tt, (appends_none a, fine_self i)))

pub writes_then : {A : Type 0} (result : Result A WriteFault) (a b c : Option (List ℕ)) (i j k : Option Calls) → WroteNotes a b i j → WritesNotes result b c j k → WritesNotes result a c i k
writes_then result a b c i j k (xs, p) (ys, q) =
    let both = written_then result a b c i j k (notes_text xs) (notes_text ys) p.1 q.1 in
    (xs ++ ys, (have_then xs ys p.0 q.0, rw (lines_then xs ys) both))

-- nothing was written, as memory ran out
pub writes_nothing : (a : Option (List ℕ)) (i : Option Calls) → WritesNotes {A = Unit} (Err Memory) a a i i
writes_nothing a i = ([], (tt, ((0, appends_none a), fine_self i)))

-- a text of notes was to be written
pub writes_text : {A : Type 0} (result : Result A WriteFault) (text : List ℕ) (a b : Option (List ℕ)) (i j : Option Calls) → PushesNotes [] text → Writes result a b i j text → WritesNotes result a b i j
writes_text result text a b i j (notes, p) written = (notes, (p.0, subst (λ (t : List ℕ). Writes result a b i j t) p.1 written))

-- the fault of a call that was to write notes is returned
pub writes_same : {A : Type 0} (result : Result A WriteFault) (fault : WriteFault) (a b : Option (List ℕ)) (i j : Option Calls) → IsErrAnd result (λ e. e ≡ fault) → WritesNotes {A = Unit} (Err fault) a b i j → WritesNotes result a b i j
writes_same (Ok x) fault a b i j is p = absurd is
writes_same (Err e) fault a b i j is (notes, p) = rw is (notes, p)

-- a line was to be appended to a text
pub pushes_note : {E : Type 0} (result : Result Unit E) (old new : List ℕ) (n : Note) → HasNoteLine n → OnOk result (new ≡ old ++ (note_line n ++ LINE_FEED ∷ [])) → OnOk result (PushesNotes old new)
pushes_note (Ok x) old new n fits is = pushes_one old new n fits is
pushes_note (Err e) old new n fits is = tt

-- lines were to be appended behind others
pub pushes_last : {E : Type 0} (result : Result Unit E) (a b c : List ℕ) → PushesNotes a b → OnOk result (PushesNotes b c) → OnOk result (PushesNotes a c)
pushes_last (Ok x) a b c p q = pushes_then a b c p q
pushes_last (Err e) a b c p q = tt

-- the lines that were appended to an empty text were to be written
pub writes_lines : {A : Type 0} (result : Result A WriteFault) (empty text written : List ℕ) (a b : Option (List ℕ)) (i j : Option Calls) → empty ≡ [] → written ≡ text → PushesNotes empty text → Writes result a b i j written → WritesNotes result a b i j
writes_lines result empty text written a b i j none same pushed writes =
    writes_text result text a b i j (subst (λ (t : List ℕ). PushesNotes t text) none pushed) (subst (λ (t : List ℕ). Writes result a b i j t) same writes)
