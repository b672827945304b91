use Rattle.std.proofs.Common.{◌≡◌, ◌≤◌}
use Rattle.std.specs.VecDeque.{deque_len}
use Rattle.fj_lazy.specs.PartsAside.{around, beside, weight, weigh}
use Rattle.fj_lazy.proofs.parts_aside.PartsAside.climb.Given as goal

abbrev pub invariant-loop-part : goal.invariant-loop-part
invariant-loop-part g l =
    (around (beside g.J.Divide.key_of g.J.Divide.value g.J.Divide.combined) l.self.inner.items l.value ≡ around (beside g.J.Divide.key_of g.J.Divide.value g.J.Divide.combined) l.fn.self.inner.items l.fn.value)
    × (weigh (weight g.J.Divide.size) l.self.inner.items ≤ weigh (weight g.J.Divide.size) l.fn.self.inner.items)
    × (l.self.outer.items ≡ l.fn.self.outer.items)

abbrev pub decreases-loop-part : goal.decreases-loop-part
decreases-loop-part g l = deque_len l.self.inner
