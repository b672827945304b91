use Rattle.fj_lazy.proofs.lazy.Lazy.fork.Goals as goal

pub keep-requires-clause-total : goal.keep-requires-clause-total
keep-requires-clause-total g c = rw (c.body_of.ensures.parts, c.in-Err.ensures.err, c.body_of.ensures.key) c.requires.total

pub returns-in-Err-clause-lighter : goal.returns-in-Err-clause-lighter
returns-in-Err-clause-lighter g c = rw (c.body_of.ensures.parts, c.in-Err.ensures.err) at c.keep.ensures.lighter
