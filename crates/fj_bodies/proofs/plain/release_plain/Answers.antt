use Rattle.std.proofs.Common.{not, sym, ◌∙◌}
use Rattle.std.proofs.lemmas.Bool.{and_parts, not-true}
use Rattle.fj_rules.specs.Tasks.{is_kept, is_completer}
use Rattle.fj_bodies.proofs.Releases.{release_replies}
use Rattle.fj_bodies.proofs.plain.release_plain.Goals as goal

pub returns-in-Done-clause-releases : goal.returns-in-Done-clause-releases
returns-in-Done-clause-releases c =
    let h = c.args.machine.now.events in
    let plain = and_parts (is_kept h c.args.t) (not (is_completer h c.args.t)) (sym c.is_plain.ensures ∙ c.if-not-is_plain.false) in
    (not-true (is_completer h c.args.t) plain.1, rw c.in-Done.is at c.step.ensures.step)

pub returns-in-Refused-clause-releases : goal.returns-in-Refused-clause-releases
returns-in-Refused-clause-releases c = c.step.ensures.refused _ c.in-Refused.is

pub unreachable-requires : goal.unreachable-requires
unreachable-requires c = release_replies c.args.machine.now c.args.t c.step.result c.step.ensures.step.0 c.in_default.not-Done c.in_default.not-Refused
