use Rattle.fj_queues.specs.Tables.{no_ends}
use Rattle.fj_queues.proofs.Table.Owners.{owner_within}
use Rattle.fj_queues.proofs.Table.TableSteps.{chain_of, apart_of}
use Rattle.std.proofs.Common.{[], get_or}
use Rattle.std.proofs.lemmas.List.{get_or_read}
use Rattle.fj_queues.proofs.queues.Queues.numbers.Goals as goal

pub invariant_of-result : goal.invariant_of-result
invariant_of-result c =
    let q = c.self.inside in
    let table = c.self.invariant.table in
    let within = owner_within q.cells.table.items q.ends.items q.room c.args.self.now c.args.o c.self.view_is c.requires in
    let chain = chain_of q.cells.table.items q.cells.free q.ends.items [] table c.args.o within c.index-ends.result.now (get_or_read q.ends.items _ _ within c.index-ends.ensures no_ends) in
    record {
      chain = get_or table.chains c.args.o [];
      first = chain.oldest;
      counted = chain.counted;
      leads = rw c.as_slice.ensures.value chain.leads;
      within = rw c.as_slice.ensures.value (apart_of q.cells.table.items q.cells.free q.ends.items [] table c.args.o within).within;
    }
