use Rattle.std.proofs.Common.{◌≡◌, ◌+◌}
use Rattle.fj_lazy.specs.PartsAside.{branches, forked_in, weigh, weight, whole}
use Rattle.fj_lazy.proofs.lazy.Lazy.go_on.Given as goal

abbrev pub invariant-loop-next : goal.invariant-loop-next
invariant-loop-next g l =
    (whole g.J.Divide.key_of g.J.Divide.value g.J.Divide.combined l.self.parts.outer.items l.self.parts.inner.items (g.J.Divide.value (g.J.Divide.key_of l.job)) ≡ g.J.Divide.value l.self.key)
    × (l.self.key ≡ l.initial.self.key)
    × (l.self.forks ≡ l.initial.self.forks)
    × (forked_in l.self.parts.outer.items ≡ forked_in l.initial.self.parts.outer.items)

abbrev pub decreases-loop-next : goal.decreases-loop-next
decreases-loop-next g l = weigh (weight g.J.Divide.size) l.self.parts.inner.items + branches (g.J.Divide.size l.job)
