use Rattle.std.proofs.Common.{sym, subst, List, ℕ}
use Rattle.fj_notes.specs.declared.note.Note.TheVariants.{Name}
use Rattle.fj_notes.specs.Labels.{IsLabel}
use Rattle.fj_notes.specs.Notes.{HasNoteLine}
use Rattle.fj_notebook.proofs.Written.{pushes_none, pushes_note}
use Rattle.fj_notebook.proofs.writing.push_name.Goals as goal

pub returns-in-Some : goal.returns-in-Some
returns-in-Some g c =
    let fits : HasNoteLine (Name c.args.t c.copied.result) = (c.requires, subst (λ (l : List ℕ). IsLabel l) (sym c.copied.ensures) c.as_bytes-bytes.ensures.label) in
    pushes_note c.push_line.result _ _ (Name c.args.t c.copied.result) fits c.push_line.ensures

pub returns-in-None : goal.returns-in-None
returns-in-None g c = pushes_none _
