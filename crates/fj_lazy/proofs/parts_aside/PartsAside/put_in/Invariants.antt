use Rattle.std.proofs.Common.{◌≡◌, ◌≤◌, ◌+◌, vec_len}
use Rattle.std.specs.VecDeque.{deque_len, deque_capacity}
use Rattle.fj_lazy.specs.PartsAside.{around, inside, beside, weight, weigh}
use Rattle.fj_lazy.proofs.parts_aside.PartsAside.put_in.Given as goal

abbrev pub invariant-loop-part : goal.invariant-loop-part
invariant-loop-part g l =
    ((v : _) → around (beside g.J.Divide.key_of g.J.Divide.value g.J.Divide.combined) l.self.inner.items (inside (beside g.J.Divide.key_of g.J.Divide.value g.J.Divide.combined) l.descent.around.items v)
    ≡ around (beside g.J.Divide.key_of g.J.Divide.value g.J.Divide.combined) l.fn.self.inner.items (inside (beside g.J.Divide.key_of g.J.Divide.value g.J.Divide.combined) l.fn.descent.around.items v))
    × (weigh (weight g.J.Divide.size) l.self.inner.items + weigh (weight g.J.Divide.size) l.descent.around.items ≡ weigh (weight g.J.Divide.size) l.fn.self.inner.items + weigh (weight g.J.Divide.size) l.fn.descent.around.items)
    × (l.self.outer.items ≡ l.fn.self.outer.items)
    × (deque_len l.self.inner + vec_len l.descent.around ≤ deque_capacity l.self.inner)

abbrev pub decreases-loop-part : goal.decreases-loop-part
decreases-loop-part g l = vec_len l.descent.around
