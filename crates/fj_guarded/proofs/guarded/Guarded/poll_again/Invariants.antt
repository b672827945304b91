use Rattle.std.proofs.Common.{ℕ, ◌≡◌, [], None}
use Rattle.fj_body.specs.Fitting.{Fits}
use Rattle.fj_guarded.specs.Keeping.{KeepsOthers}
use Rattle.fj_guarded.specs.Working.{Skips}
use Rattle.fj_guarded.proofs.guarded.Guarded.poll_again.Given as goal

-- so far each poll has skipped a task
abbrev pub invariant-loop-skip : goal.invariant-loop-skip
invariant-loop-skip g l = record {
  skipped : (n : ℕ) × Skips n l.fn.self l.fn.hand l.self l.hand;
  fits : Fits l.self.store.past l.hand;
  idle : (l.hand.stack ≡ []) × (l.hand.hook ≡ None);
  others : KeepsOthers l.fn.hand.worker l.fn.self.store.past l.self.store.past;
  worker : l.hand.worker ≡ l.fn.hand.worker;
}
