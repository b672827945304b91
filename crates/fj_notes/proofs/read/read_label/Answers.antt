use Rattle.fj_notes.proofs.Lines.PartLaws.{label_whole}
use Rattle.fj_notes.proofs.read.read_label.Goals as goal

pub returns-in-Some : goal.returns-in-Some
returns-in-Some c = rw (c.in-Some.ensures.cases.0, label_whole c.in-Some.text.now) c.label_of.ensures
