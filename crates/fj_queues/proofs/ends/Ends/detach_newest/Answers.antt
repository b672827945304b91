use Rattle.fj_queues.specs.declared.cells.Cell.{Cell}
use Rattle.fj_queues.specs.declared.ends.Ends.{Ends}
use Rattle.fj_queues.specs.Cells.{blank, older_at}
use Rattle.fj_queues.proofs.Chains.ChainEnds.{last_lost, newest_named, older_within}
use Rattle.fj_queues.proofs.Chains.Links.{is_none, is_not_none}
use Rattle.std.proofs.Common.{arith, ap, ◌-◌, ◌≡◌}
use Rattle.std.proofs.lemmas.List.{get_or_read}
use Rattle.fj_queues.proofs.ends.Ends.detach_newest.Goals as goal
use Rattle.fj_queues.proofs.ends.Ends.detach_newest.Goals.{After-index, then-is_none, else-is_none}

pub index-requires : goal.index-requires
index-requires c = omega (arith, c.args.cells.now.table.ok.0, newest_named c.args.cells.now.table.items c.args.self.now c.requires.queue c.in_ok-number.number c.in_ok-number.was)

-- the cell that was read is the one at that end
read : (c : After-index) → c.index.result.now.older ≡ older_at c.args.cells.now.table.items c.in_ok-number.number
read c =
    let within = newest_named c.args.cells.now.table.items c.args.self.now c.requires.queue c.in_ok-number.number c.in_ok-number.was in
    ap (λ (cell : Cell). cell.older) (get_or_read c.args.cells.now.table.items _ _ within c.index.ensures blank)

pub join-requires-clause-older : goal.join-requires-clause-older
join-requires-clause-older c =
    older_within c.args.cells.now.table.items c.args.self.now c.requires.queue c.in_ok-number.number c.index.result.now.older c.in_ok-number.was (read (goal.at.join-requires-clause-older c).After-index)

pub returns-clause-rest : goal.returns-clause-rest
returns-clause-rest c =
    last_lost c.args.cells.now.table.items c.join.new.self.table.items c.args.self.now _ c.in_ok-number.number c.index.result.now.older
    (read (goal.at.returns-clause-rest c).After-index)
    c.join.ensures.joined
    (elim c.if-is_none.branch [ then-is_none w ↦ ap (λ (e : Ends). e.newest) w.self-is | else-is_none w ↦ ap (λ (e : Ends). e.newest) w.self-is ])
    (elim c.if-is_none.branch [ then-is_none w ↦ ap (λ (e : Ends). e.len - 1) w.self-is | else-is_none w ↦ ap (λ (e : Ends). e.len - 1) w.self-is ])
    (λ none. elim c.if-is_none.branch [ then-is_none w ↦ ap (λ (e : Ends). e.oldest) w.self-is | else-is_none w ↦ absurd (is_not_none c.index.result.now.older w.if-is_none.ensures none) ])
    (λ some. elim c.if-is_none.branch [ then-is_none w ↦ absurd (some (is_none c.index.result.now.older w.if-is_none.ensures)) | else-is_none w ↦ ap (λ (e : Ends). e.oldest) w.self-is ])
