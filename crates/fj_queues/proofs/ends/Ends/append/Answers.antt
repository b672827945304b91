use Rattle.std.proofs.Common.{arith, ap, ◌+◌}
use Rattle.fj_queues.specs.declared.ends.Ends.{Ends}
use Rattle.fj_queues.proofs.Chains.ChainEnds.{appended, newest_within}
use Rattle.fj_queues.proofs.ends.Ends.append.Goals as goal
use Rattle.fj_queues.proofs.ends.Ends.append.Goals.{then-self-eq0, else-self-eq0}

pub join-requires-clause-older : goal.join-requires-clause-older
join-requires-clause-older c = newest_within c.args.cells.now.table.items c.args.self.now c.requires.queue

pub returns-clause-appended : goal.returns-clause-appended
returns-clause-appended c =
    appended c.args.cells.now.table.items c.join.new.self.table.items c.args.self.now _ c.args.number c.requires.alone c.join.ensures.joined
    (elim c.if-self-eq0.branch [ then-self-eq0 w ↦ ap (λ (e : Ends). e.newest) w.self-is | else-self-eq0 w ↦ ap (λ (e : Ends). e.newest) w.self-is ])
    (elim c.if-self-eq0.branch [ then-self-eq0 w ↦ ap (λ (e : Ends). e.len + 1) w.self-is | else-self-eq0 w ↦ ap (λ (e : Ends). e.len + 1) w.self-is ])
    (λ empty. elim c.if-self-eq0.branch [ then-self-eq0 w ↦ ap (λ (e : Ends). e.oldest) w.self-is | else-self-eq0 w ↦ absurd (omega (arith, w.if-self-eq0.false)) ])
    (λ filled. elim c.if-self-eq0.branch [ then-self-eq0 w ↦ absurd (omega (arith, w.if-self-eq0.true)) | else-self-eq0 w ↦ ap (λ (e : Ends). e.oldest) w.self-is ])
