use Rattle.std.proofs.Common.{◌<◌, Some, length, ap, sym, ◌∙◌, arith}
use Rattle.std.proofs.lemmas.List.{get_or_read}
use Rattle.fj_rules.specs.Lists.{last_of}
use Rattle.fj_queues.specs.declared.cells.Cell.{Cell}
use Rattle.fj_queues.specs.Cells.{blank}
use Rattle.fj_queues.specs.Queues.{Lists, queue_at}
use Rattle.fj_queues.specs.Tables.{no_ends}
use Rattle.fj_queues.proofs.Chains.ChainEnds.{newest_named}
use Rattle.fj_queues.proofs.Table.EndsSeen.{newest_seen}
use Rattle.fj_queues.proofs.Table.Owners.{owner_within}
use Rattle.fj_queues.proofs.Table.QueueSteps.{no_newest}
use Rattle.fj_queues.proofs.Table.TableSteps.{queue_of}
use Rattle.fj_queues.proofs.queues.Queues.newest.Goals as goal
use Rattle.fj_queues.proofs.queues.Queues.newest.Goals.{After-index}

owned : (c : After-index) → c.args.o < length c.self.inside.ends.items
owned c = let q = c.self.inside in owner_within q.cells.table.items q.ends.items q.room c.args.self.now c.args.o c.self.view_is c.requires

pub returns-in_err-cell : goal.returns-in_err-cell
returns-in_err-cell c =
    let q = c.self.inside in
    let within = owned (goal.at.returns-in_err-cell c).After-index in
    let none = no_newest q.cells.table.items q.cells.free q.ends.items c.args.o _ c.self.invariant.table within (get_or_read q.ends.items _ _ within c.index.ensures no_ends) c.in_err-cell.was in
    c.from_residual.ensures ∙ sym (ap last_of (ap (λ (qs : Lists). queue_at qs c.args.o) (sym c.self.view_is) ∙ none))

pub index-requires-2 : goal.index-requires-2
index-requires-2 c =
    let q = c.self.inside in
    let within = owned (goal.at.index-requires-2 c).After-index in
    let inside = newest_named q.cells.table.items _ (queue_of q.cells.table.items _ _ _ c.self.invariant.table c.args.o within _ (get_or_read q.ends.items _ _ within c.index.ensures no_ends)) c.in_ok-cell.cell c.in_ok-cell.was in
    omega (arith, inside, q.cells.table.ok.0)

pub returns : goal.returns
returns c =
    let q = c.self.inside in
    let at = (goal.at.returns c).After-index in
    let within = owned at in
    let found = get_or_read q.ends.items _ _ within c.index.ensures no_ends in
    let inside : c.in_ok-cell.cell < length q.cells.table.items = newest_named q.cells.table.items _ (queue_of q.cells.table.items _ _ _ c.self.invariant.table c.args.o within _ found) c.in_ok-cell.cell c.in_ok-cell.was in
    let read = ap (λ (x : Cell). x.serial) (get_or_read q.cells.table.items _ _ inside c.index-2.ensures blank) in
    rw (← c.self.view_is) (ap Some read ∙ newest_seen q.cells.table.items q.cells.free q.ends.items c.in_ok-cell.cell c.args.o _ c.self.invariant.table within found c.in_ok-cell.was)
