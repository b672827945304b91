use Rattle.fj_notes.specs.declared.note.Note.TheVariants.{Time}
use Rattle.fj_notes.specs.Notes.{HasNoteLine}
use Rattle.fj_notebook.proofs.Written.{pushes_none, pushes_note}
use Rattle.fj_notebook.proofs.writing.push_time.Goals as goal

pub returns-in-Some : goal.returns-in-Some
returns-in-Some g c =
    let fits : HasNoteLine (Time c.args.t c.args.milestone c.in-Some.nanos) = (c.requires, c.in-Some.ensures) in
    pushes_note c.push_line.result _ _ (Time c.args.t c.args.milestone c.in-Some.nanos) fits c.push_line.ensures

pub returns-in-None : goal.returns-in-None
returns-in-None g c = pushes_none _
