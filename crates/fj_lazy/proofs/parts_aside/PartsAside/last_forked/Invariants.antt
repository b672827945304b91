use Rattle.std.proofs.Common.{◌≡◌, vec_len}
use Rattle.fj_lazy.specs.PartsAside.{forked_in}
use Rattle.fj_lazy.proofs.parts_aside.PartsAside.last_forked.Given as goal

abbrev pub invariant-loop-part : goal.invariant-loop-part
invariant-loop-part g l = forked_in l.self.outer.items ≡ forked_in l.fn.self.outer.items

abbrev pub decreases-loop-part : goal.decreases-loop-part
decreases-loop-part g l = vec_len l.self.outer
