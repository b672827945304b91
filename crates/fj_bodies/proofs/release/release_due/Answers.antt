use Rattle.std.proofs.Common.{◌==◌, length, ap, sym, ◌∙◌}
use Rattle.fj_bodies.specs.Waits.{waits}
use Rattle.fj_bodies.proofs.Upwards.{none_taken}
use Rattle.fj_bodies.proofs.release.release_due.Goals as goal

pub returns-then-is_empty-clause-releases : goal.returns-then-is_empty-clause-releases
returns-then-is_empty-clause-releases c =
    none_taken (waits c.args.machine.now c.args.taken.now) c.args.stuck.now (sym (c.is_empty.ensures ∙ ap (λ ts. length ts == 0) c.as_slice.ensures) ∙ c.if-is_empty.true)
