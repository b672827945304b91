use Rattle.fj_lines.proofs.write.push_status.Goals as goal

pub returns-in-Exceptional-clause-words : goal.returns-in-Exceptional-clause-words
returns-in-Exceptional-clause-words c = rw (c.in-Exceptional.is, ← c.into.ensures) c.push_numbered.ensures.words
