use Rattle.std.proofs.Common.{◌≡◌, ◌≤◌, ◌<◌, ◌∙◌, ap, arith, length, sym}
use Rattle.fj_nodes.proofs.Steps.{fate_told, fates_all, fates_more, left_more, or_first}
use Rattle.fj_nodes.proofs.progress.Progress.tell.Goals as goal

pub loop-number-preserved : goal.loop-number-preserved
loop-number-preserved g c =
    let self = c.loop-number.self in
    let nodes = g.G.NamedGraph.graph in
    let old = c.loop-number.stopped in
    let new = c.sees_stop-stopped.result in
    let n = c.loop-number.number in
    let fate = c.in-Some.fate in
    let told = c.sees_stop-stopped.ensures in
    let graph : length c.args.graph.now ≡ length nodes = ap length c.requires.same in
    let test = c.loop-number-test.true in
    let count = c.count-number-end.ensures in
    let within : n < length nodes = omega arith in (
      fates_more nodes old new self.course.items self.fates.items n fate (or_first old _ new told) c.loop-number.invariant.0 (fate_told nodes old new self.course.items n fate told c.in-Some.ensures),
      λ stopped. left_more nodes old self.course.items n fate within c.in-Some.ensures c.loop-number.invariant.1 (sym told ∙ stopped),
    )

pub returns : goal.returns
returns g c =
    let self = c.loop-number.self in
    let fates = self.fates.ok.0 in
    let states_and_fates = self.all.1 in
    let all : length self.fates.items ≡ length g.G.NamedGraph.graph = omega arith in
    let graph : length c.args.graph.now ≡ length g.G.NamedGraph.graph = ap length c.requires.same in
    let past = c.loop-number-test.false in
    let count = c.count-number-end.ensures in
    let end : length g.G.NamedGraph.graph ≤ c.loop-number.number = omega arith in
    fates_all g.G.NamedGraph.graph c.loop-number.stopped self.course.items self.fates.items c.loop-number.number all end c.loop-number.invariant.0 c.loop-number.invariant.1
