use Rattle.fj_queues.specs.declared.cells.Cell.{Cell}
use Rattle.fj_queues.specs.declared.ends.Ends.{Ends}
use Rattle.fj_queues.specs.Cells.{blank, newer_at}
use Rattle.fj_queues.proofs.Chains.ChainEnds.{first_lost, oldest_named, newer_within}
use Rattle.fj_queues.proofs.Chains.Links.{is_none, is_not_none}
use Rattle.std.proofs.Common.{arith, ap, ◌-◌, ◌≡◌}
use Rattle.std.proofs.lemmas.List.{get_or_read}
use Rattle.fj_queues.proofs.ends.Ends.detach_oldest.Goals as goal
use Rattle.fj_queues.proofs.ends.Ends.detach_oldest.Goals.{After-index, then-is_none, else-is_none}

pub index-requires : goal.index-requires
index-requires c = omega (arith, c.args.cells.now.table.ok.0, oldest_named c.args.cells.now.table.items c.args.self.now c.requires.queue c.in_ok-number.number c.in_ok-number.was)

-- the cell that was read is the one at that end
read : (c : After-index) → c.index.result.now.newer ≡ newer_at c.args.cells.now.table.items c.in_ok-number.number
read c =
    let within = oldest_named c.args.cells.now.table.items c.args.self.now c.requires.queue c.in_ok-number.number c.in_ok-number.was in
    ap (λ (cell : Cell). cell.newer) (get_or_read c.args.cells.now.table.items _ _ within c.index.ensures blank)

pub join-requires-clause-newer : goal.join-requires-clause-newer
join-requires-clause-newer c =
    newer_within c.args.cells.now.table.items c.args.self.now c.requires.queue c.in_ok-number.number c.index.result.now.newer c.in_ok-number.was (read (goal.at.join-requires-clause-newer c).After-index)

pub returns-clause-rest : goal.returns-clause-rest
returns-clause-rest c =
    first_lost c.args.cells.now.table.items c.join.new.self.table.items c.args.self.now _ c.in_ok-number.number c.index.result.now.newer
    (read (goal.at.returns-clause-rest c).After-index)
    c.join.ensures.joined
    (elim c.if-is_none.branch [ then-is_none w ↦ ap (λ (e : Ends). e.oldest) w.self-is | else-is_none w ↦ ap (λ (e : Ends). e.oldest) w.self-is ])
    (elim c.if-is_none.branch [ then-is_none w ↦ ap (λ (e : Ends). e.len - 1) w.self-is | else-is_none w ↦ ap (λ (e : Ends). e.len - 1) w.self-is ])
    (λ none. elim c.if-is_none.branch [ then-is_none w ↦ ap (λ (e : Ends). e.newest) w.self-is | else-is_none w ↦ absurd (is_not_none c.index.result.now.newer w.if-is_none.ensures none) ])
    (λ some. elim c.if-is_none.branch [ then-is_none w ↦ absurd (some (is_none c.index.result.now.newer w.if-is_none.ensures)) | else-is_none w ↦ ap (λ (e : Ends). e.newest) w.self-is ])
