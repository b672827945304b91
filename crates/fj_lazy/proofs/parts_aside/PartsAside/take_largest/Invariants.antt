use Rattle.std.proofs.Common.{◌≡◌, ◌≤◌}
use Rattle.std.specs.VecDeque.{deque_len}
use Rattle.fj_lazy.specs.PartsAside.{whole, weight, weigh, forked_in}
use Rattle.fj_lazy.proofs.parts_aside.PartsAside.take_largest.Given as goal

abbrev pub invariant-loop-self : goal.invariant-loop-self
invariant-loop-self g l =
    ((v : _) → whole g.J.Divide.key_of g.J.Divide.value g.J.Divide.combined l.self.outer.items l.self.inner.items v ≡ whole g.J.Divide.key_of g.J.Divide.value g.J.Divide.combined l.fn.self.outer.items l.fn.self.inner.items v)
    × (weigh (weight g.J.Divide.size) l.self.inner.items ≤ weigh (weight g.J.Divide.size) l.fn.self.inner.items)
    × (forked_in l.self.outer.items ≡ forked_in l.fn.self.outer.items)

abbrev pub decreases-loop-self : goal.decreases-loop-self
decreases-loop-self g l = deque_len l.self.inner
