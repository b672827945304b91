use Rattle.std.proofs.Common.{◌<◌, length, get_or, ap, sym, ◌∙◌, arith}
use Rattle.fj_bodies.specs.Waits.{waits}
use Rattle.fj_bodies.proofs.Chains.{end_went}
use Rattle.fj_bodies.proofs.Upwards.{first_only, up_from}
use Rattle.fj_bodies.proofs.release.release_from.Goals as goal

pub returns-then-i-as_slice-clause-releases : goal.returns-then-i-as_slice-clause-releases
returns-then-i-as_slice-clause-releases c = end_went (waits c.args.machine.now c.args.taken.now) c.args.i (omega (arith, ap length c.as_slice.ensures))

pub returns-clause-releases : goal.returns-clause-releases
returns-clause-releases c =
    let t = c.index-as_slice-i.result in
    let w = waits c.args.machine.now c.args.taken.now in
    let within : c.args.i < length c.args.taken.now.items = omega (arith, ap length c.as_slice.ensures) in
    up_from c.args.i t w _ c.release_up.result
    (first_only c.args.i t w within (sym (c.index-as_slice-i.is ∙ ap (λ ts. get_or ts c.args.i t) c.as_slice-2.ensures)) c.requires.none) c.release_up.ensures.releases
