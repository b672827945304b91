-- The line of a note is read as that note.
use Rattle.std.proofs.Common.{◌≡◌, ℕ, ◌^◌, ◌<◌, true, List, [], ◌∷◌, Some, refl, ap, ◌∙◌}
use Rattle.std.specs.Prelude.{codes}
use Rattle.std.specs.Fmt.{decimal}
use Rattle.std.specs.List.{list_all}
use Rattle.fj_lines.specs.Words.{joined, words}
use Rattle.fj_lines.specs.Tasks.{IsSmall}
use Rattle.fj_lines.proofs.Reading.NumberLaws.{number_again}
use Rattle.fj_lines.proofs.Reading.WordLaws.{is_word, number_is_word, words_again}
use Rattle.fj_notes.specs.declared.milestone.Milestone.{Milestone}
use Rattle.fj_notes.specs.declared.note.Note.{Note}
use Rattle.fj_notes.specs.declared.note.Note.TheVariants.{Name, Time}
use Rattle.fj_notes.specs.Labels.{IsLabel}
use Rattle.fj_notes.specs.Notes.{milestone_word, note_line, note_in, HasNoteLine}
use Rattle.fj_notes.specs.NoteReadings.{name_in, time_in, note_said}
use Rattle.fj_notes.proofs.Lines.NanosLaws.{nanos_again, nanos_is_word}
use Rattle.fj_notes.proofs.Lines.PartLaws.{milestone_again, milestone_is_word, label_again, split_more}

name_again : (t : ℕ) (label : List ℕ) → IsSmall t → IsLabel label → name_in (decimal t ∷ words label) ≡ Some (Name t label)
unfolding name_in
name_again t label small is = rw (number_again t small, label_again label is) refl

name_words : (t : ℕ) (label : List ℕ) → IsSmall t → words (joined (codes "name" ∷ decimal t ∷ label ∷ [])) ≡ codes "name" ∷ decimal t ∷ words label
name_words t label small =
    split_more (codes "name") (joined (decimal t ∷ label ∷ [])) refl ∙ ap (λ (rest : List (List ℕ)). codes "name" ∷ rest) (split_more (decimal t) label (number_is_word t small))

time_again : (t : ℕ) (m : Milestone) (nanos : ℕ) → IsSmall t → nanos < 2 ^ 64 → time_in (decimal t ∷ milestone_word m ∷ decimal nanos ∷ []) ≡ Some (Time t m nanos)
unfolding time_in
time_again t m nanos small fits = rw (number_again t small, milestone_again m, nanos_again nanos fits) refl

time_are_words : (t : ℕ) (m : Milestone) (nanos : ℕ) → IsSmall t → nanos < 2 ^ 64 → list_all is_word (codes "time" ∷ decimal t ∷ milestone_word m ∷ decimal nanos ∷ []) ≡ true
time_are_words t m nanos small fits =
    let first = number_is_word t small in
    rw (first, milestone_is_word m, nanos_is_word nanos fits) refl

said_again : (line verb : List ℕ) (ws : List (List ℕ)) (s : Note) → words line ≡ verb ∷ ws → note_said verb ws ≡ Some s → note_in line ≡ Some s
unfolding note_in
said_again line verb ws s all said = rw all said

-- the line of a note is read as that note
pub note_again : (s : Note) → HasNoteLine s → note_in (note_line s) ≡ Some s
unfolding note_said
note_again (Name t label) fits = said_again (note_line (Name t label)) (codes "name") (decimal t ∷ words label) (Name t label) (name_words t label fits.0) (name_again t label fits.0 fits.1)
note_again (Time t m nanos) fits =
    let rest = decimal t ∷ milestone_word m ∷ decimal nanos ∷ [] in
    said_again (note_line (Time t m nanos)) (codes "time") rest (Time t m nanos) (words_again (codes "time") rest (time_are_words t m nanos fits.0 fits.1)) (time_again t m nanos fits.0 fits.1)
