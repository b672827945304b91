use Rattle.std.proofs.Common.{◌∙◌, ap, arith}
use Rattle.fj_lazy.specs.PartsAside.{around, beside, outside}
use Rattle.fj_lazy.proofs.Around.{around-snoc}
use Rattle.fj_lazy.proofs.Asking.{nearer_more}
use Rattle.fj_lazy.proofs.Joined.{joins_forked}
use Rattle.fj_lazy.proofs.lazy.Lazy.after_fork.Goals as goal

pub go_within-requires-clause-total : goal.go_within-requires-clause-total
go_within-requires-clause-total g c = around-snoc (outside g.J.Divide.value g.J.Divide.combined) _ _ _ ∙ c.requires.total

pub go_without-requires-clause-total : goal.go_without-requires-clause-total
go_without-requires-clause-total g c =
    ap (λ y. around (outside g.J.Divide.value g.J.Divide.combined) c.args.self.now.parts.outer.items (g.J.Divide.combined (around (beside g.J.Divide.key_of g.J.Divide.value g.J.Divide.combined) c.args.self.now.parts.inner.items (g.J.Divide.value (g.J.Divide.key_of c.args.leaf))) y)) c.in-Some.ensures.value
    ∙ c.requires.total

pub returns-in-Task-clause-asks : goal.returns-in-Task-clause-asks
returns-in-Task-clause-asks g c = record {
  rightly = c.go_within.ensures.asks.rightly;
  nearer = c.go_within.ensures.asks.nearer;
  as_job = c.go_within.ensures.asks.as_job;
  joins = rw c.in-Task.is (joins_forked c.args.self.now.parts.outer.items c.in-Task.task c.args.key _ c.go_within.result c.go_within.ensures.asks.joins);
}
