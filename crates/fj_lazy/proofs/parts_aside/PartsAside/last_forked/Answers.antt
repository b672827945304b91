use Rattle.std.proofs.Common.{◌∙◌, refl, sym}
use Rattle.fj_lazy.specs.PartsAside.{task_of}
use Rattle.fj_lazy.proofs.Joins.{forked_more, forked_same, one_fewer}
use Rattle.fj_lazy.proofs.parts_aside.PartsAside.last_forked.Goals as goal

pub returns-in-Forked-clause-some : goal.returns-in-Forked-clause-some
returns-in-Forked-clause-some g c = sym c.loop-part.invariant ∙ forked_more task_of _ _ c.in-Some.part _ c.in-Some.ensures.items (rw c.in-Forked.is refl)

pub returns-in-Forked-clause-fewer : goal.returns-in-Forked-clause-fewer
returns-in-Forked-clause-fewer g c = one_fewer _ _ c.in-Forked.task (sym c.loop-part.invariant ∙ forked_more task_of _ _ c.in-Some.part _ c.in-Some.ensures.items (rw c.in-Forked.is refl))

pub loop-part-preserved-in-Done : goal.loop-part-preserved-in-Done
loop-part-preserved-in-Done g c = sym (forked_same task_of _ _ c.in-Some.part c.in-Some.ensures.items (rw c.in-Done.is refl)) ∙ c.loop-part.invariant
