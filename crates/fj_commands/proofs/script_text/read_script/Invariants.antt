use Rattle.fj_streams.specs.Calls.{GoesOn}
use Rattle.fj_commands.proofs.script_text.read_script.Given as goal

-- no read failed so far
abbrev pub invariant-loop-reads : goal.invariant-loop-reads
invariant-loop-reads g l = GoesOn (g.R.Source.calls l.fn.r) (g.R.Source.calls l.r) l._reads
