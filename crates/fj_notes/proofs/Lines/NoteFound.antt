-- A line that is read as a note is the line of that note.
use Rattle.std.proofs.Common.{◌≡◌, ℕ, true, List, [], ◌∷◌, ◌++◌, Some, None, ap, subst, ◌∙◌}
use Rattle.std.specs.Prelude.{codes}
use Rattle.std.specs.Fmt.{decimal}
use Rattle.std.specs.Str.{bytes_eq}
use Rattle.fj_lines.specs.Words.{◌>>=◌, joined, word_first, if_last}
use Rattle.fj_lines.proofs.Reading.PartLaws.{some_is, number_then, word_then, last_then, some_then, chosen, is_text}
use Rattle.fj_notes.specs.declared.note.Note.{Note}
use Rattle.fj_notes.specs.declared.note.Note.TheVariants.{Name, Time}
use Rattle.fj_notes.specs.Notes.{milestone_word, note_line, HasNoteLine}
use Rattle.fj_notes.specs.NoteReadings.{nanos_in, milestone_said, label_said, name_in, time_in, note_said}
use Rattle.fj_notes.proofs.Lines.NanosLaws.{nanos_found}
use Rattle.fj_notes.proofs.Lines.PartLaws.{milestone_found, label_found}

-- the words make the line of a note that has one
abbrev pub AreNote : Note → List (List ℕ) → Type 0
AreNote n ws = HasNoteLine n × (joined ws ≡ note_line n)

-- the same, where the first word is this text
with_verb : (verb text : List ℕ) (ws : List (List ℕ)) (s : Note) → bytes_eq verb text ≡ true → AreNote s (text ∷ ws) → AreNote s (verb ∷ ws)
with_verb verb text ws s is p = (p.0, ap (λ (v : List ℕ). joined (v ∷ ws)) (is_text verb text is) ∙ p.1)

name_found : (ws : List (List ℕ)) (s : Note) → name_in ws ≡ Some s → AreNote s (codes "name" ∷ ws)
unfolding name_in
name_found ws s e =
    number_then ws (λ t. label_said t.1 >>= λ label. Some (Name t.0 label)) s e (λ t rest small first said.
    some_then (label_said rest) (λ label. Some (Name t label)) s said (λ label read is.
    let found = label_found rest label read in
    let line = ap (λ (vs : List (List ℕ)). joined (codes "name" ∷ vs)) first ∙ ap (λ (l : List ℕ). codes "name" ++ 32 ∷ l) (found.1 (decimal t)) in
    subst (λ (n : Note). AreNote n (codes "name" ∷ ws)) (some_is (Name t label) s is) ((small, found.0), line)))

time_found : (ws : List (List ℕ)) (s : Note) → time_in ws ≡ Some s → AreNote s (codes "time" ∷ ws)
unfolding time_in
time_found ws s e =
    number_then ws (λ t. word_first t.1 >>= λ word. milestone_said word.0 >>= λ m. word_first word.1 >>= λ number. nanos_in number.0 >>= λ nanos. if_last number.1 (Time t.0 m nanos)) s e (λ t rest1 small first said1.
    word_then rest1 (λ word. milestone_said word.0 >>= λ m. word_first word.1 >>= λ number. nanos_in number.0 >>= λ nanos. if_last number.1 (Time t m nanos)) s said1 (λ word rest2 second said2.
    some_then (milestone_said word) (λ m. word_first rest2 >>= λ number. nanos_in number.0 >>= λ nanos. if_last number.1 (Time t m nanos)) s said2 (λ m milestone said3.
    word_then rest2 (λ number. nanos_in number.0 >>= λ nanos. if_last number.1 (Time t m nanos)) s said3 (λ number rest3 third said4.
    some_then (nanos_in number) (λ nanos. if_last rest3 (Time t m nanos)) s said4 (λ nanos read said5.
    last_then rest3 (Time t m nanos) s said5 (λ none is.
    let text = milestone_found word m milestone in
    let found = nanos_found number nanos read in
    let number_is = found.1 in
    let all : ws ≡ decimal t ∷ milestone_word m ∷ decimal nanos ∷ [] = cc in
    subst (λ (n : Note). AreNote n (codes "time" ∷ ws)) is ((small, found.0), ap (λ (vs : List (List ℕ)). joined (codes "time" ∷ vs)) all)))))))

pub said_found : (verb : List ℕ) (ws : List (List ℕ)) (s : Note) → note_said verb ws ≡ Some s → AreNote s (verb ∷ ws)
unfolding note_said
said_found verb ws s e =
    chosen (bytes_eq verb (codes "name")) (name_in ws) _ (Some s) e (λ is said. with_verb verb (codes "name") ws s is (name_found ws s said)) (λ e1.
    chosen (bytes_eq verb (codes "time")) (time_in ws) None (Some s) e1 (λ is said. with_verb verb (codes "time") ws s is (time_found ws s said)) (λ e2.
    absurd cc))
