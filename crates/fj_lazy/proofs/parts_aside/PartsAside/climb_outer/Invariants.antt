use Rattle.std.proofs.Common.{◌≡◌, vec_len}
use Rattle.fj_lazy.specs.PartsAside.{around, outside, forked_in}
use Rattle.fj_lazy.proofs.parts_aside.PartsAside.climb_outer.Given as goal

abbrev pub invariant-loop-part : goal.invariant-loop-part
invariant-loop-part g l =
    (around (outside g.J.Divide.value g.J.Divide.combined) l.self.outer.items l.value ≡ around (outside g.J.Divide.value g.J.Divide.combined) l.fn.self.outer.items l.fn.value)
    × (forked_in l.self.outer.items ≡ forked_in l.fn.self.outer.items)
    × (l.self.inner.items ≡ l.fn.self.inner.items)

abbrev pub decreases-loop-part : goal.decreases-loop-part
decreases-loop-part g l = vec_len l.self.outer
