use Rattle.std.specs.Prelude.{⊤}
use Rattle.fj_crew.proofs.threads.start_all.Given as goal

abbrev pub invariant-loop-worker : goal.invariant-loop-worker
invariant-loop-worker g l = ⊤
