use Rattle.fj_queues.specs.Queues.{Lists, queue_at}
use Rattle.fj_queues.specs.Tables.{no_ends}
use Rattle.fj_queues.proofs.Table.TableSteps.{len_seen}
use Rattle.std.proofs.Common.{[], ap, ◌∙◌, length}
use Rattle.std.proofs.lemmas.List.{get_or_read}
use Rattle.fj_queues.proofs.Table.Owners.{owner_within}
use Rattle.fj_queues.proofs.queues.Queues.len.Goals as goal

pub returns : goal.returns
returns c =
    let q = c.self.inside in
    let within = owner_within q.cells.table.items q.ends.items q.room c.args.self.now c.args.o c.self.view_is c.requires in
    len_seen q.cells.table.items q.cells.free q.ends.items [] c.self.invariant.table c.args.o within _ (get_or_read q.ends.items _ _ within c.index.ensures no_ends)
    ∙ ap (λ (qs : Lists). length (queue_at qs c.args.o)) c.self.view_is
