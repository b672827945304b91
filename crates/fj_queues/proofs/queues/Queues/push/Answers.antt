use Rattle.fj_queues.specs.Queues.{Lists, all_in, total}
use Rattle.fj_queues.specs.Tables.{no_ends, lists_of, IsTable}
use Rattle.fj_queues.proofs.Table.Owners.{owner_within, list_within}
use Rattle.fj_queues.proofs.Table.TableSteps.{free_within, none_free, filled, queue_of}
use Rattle.fj_queues.proofs.Table.QueueSteps.{loose_within, len_below, grown, push_steps, count_pushed}
use Rattle.std.proofs.Common.{arith, ap, subst, sym, ◌≡◌, ◌<◌, ◌+◌, ◌∷◌, ◌++◌, [], List, ℕ, None, length, get_or}
use Rattle.std.proofs.Math.ListN.{set}
use Rattle.std.proofs.lemmas.List.{get_or_read}
use Rattle.fj_queues.proofs.queues.Queues.push.Goals as goal
use Rattle.fj_queues.proofs.queues.Queues.push.Goals.{After-alone, After-fill-number, After-append}

-- where no cell is free, there are fewer cells than the room
few : (c : After-alone) → c.self.inside.cells.free ≡ None → length c.self.inside.cells.table.items < c.self.inside.room
few c none =
    let q = c.self.inside in
    omega (arith, none_free q.cells.table.items q.cells.free q.ends.items c.self.invariant.table none, ap total c.self.view_is, ap (λ (qs : Lists). qs.room) c.self.view_is, c.requires.room)

-- there is such an owner
owned : (c : After-alone) → c.args.o < length c.self.inside.ends.items
owned c = let q = c.self.inside in owner_within q.cells.table.items q.ends.items q.room c.args.self.now c.args.o c.self.view_is c.requires.owner

-- the cell that was filled is in no chain
loose : (c : After-fill-number) → IsTable c.fill-number.new.self.table.items c.fill-number.new.self.free c.self.inside.ends.items (c.fill-number.result ∷ [])
loose c = filled c.self.inside.cells.table.items _ _ _ _ _ _ c.self.invariant.table c.fill-number.ensures.written c.fill-number.ensures.next

pub fill-number-requires-clause-free : goal.fill-number-requires-clause-free
fill-number-requires-clause-free c = let q = c.self.inside in free_within q.cells.table.items q.cells.free q.ends.items [] c.self.invariant.table

pub fill-number-requires-clause-room : goal.fill-number-requires-clause-room
fill-number-requires-clause-room c none = omega (arith, few (goal.at.fill-number-requires-clause-room c).After-alone none, c.self.invariant.reserved)

pub append-requires-clause-queue : goal.append-requires-clause-queue
append-requires-clause-queue c =
    let within = owned (goal.at.append-requires-clause-queue c).After-alone in
    queue_of c.fill-number.new.self.table.items _ _ _ (loose (goal.at.append-requires-clause-queue c).After-fill-number) c.args.o within _ (get_or_read c.self.inside.ends.items _ _ within c.index.ensures no_ends)

pub append-requires-clause-cell : goal.append-requires-clause-cell
append-requires-clause-cell c = loose_within c.fill-number.new.self.table.items _ _ _ (loose (goal.at.append-requires-clause-cell c).After-fill-number)

pub append-requires-clause-len : goal.append-requires-clause-len
append-requires-clause-len c =
    let within = owned (goal.at.append-requires-clause-len c).After-alone in
    len_below c.fill-number.new.self.table.items _ _ _ c.args.o _ (loose (goal.at.append-requires-clause-len c).After-fill-number) within (get_or_read c.self.inside.ends.items _ _ within c.index.ensures no_ends)

-- the table after both steps, and what is seen of it
steps : (c : After-append) → IsTable c.append.new.cells.table.items c.append.new.cells.free (set c.self.inside.ends.items c.args.o c.append.new.self) []
    × (lists_of c.append.new.cells.table.items (set c.self.inside.ends.items c.args.o c.append.new.self)
    ≡ set (lists_of c.self.inside.cells.table.items c.self.inside.ends.items) c.args.o (get_or (lists_of c.self.inside.cells.table.items c.self.inside.ends.items) c.args.o [] ++ c.args.serial ∷ []))
steps c =
    let q = c.self.inside in
    let within = owner_within q.cells.table.items q.ends.items q.room c.args.self.now c.args.o c.self.view_is c.requires.owner in
    let all = push_steps q.cells.table.items c.fill-number.new.self.table.items c.append.new.cells.table.items q.cells.free c.fill-number.new.self.free
    q.ends.items c.fill-number.result c.args.o c.index.result.now c.append.new.self c.alone.result
    c.self.invariant.table within (get_or_read q.ends.items _ _ within c.index.ensures no_ends) c.fill-number.ensures.written c.fill-number.ensures.next c.append.ensures.appended c.append.ensures.table in (
      subst (λ free. IsTable c.append.new.cells.table.items free (set q.ends.items c.args.o c.append.new.self) []) (sym c.append.ensures.free) all.0,
      rw c.alone.ensures at all.1,
    )

-- how many numbers there are then
counted : (c : After-append) → all_in (lists_of c.append.new.cells.table.items (set c.self.inside.ends.items c.args.o c.append.new.self)) ≡ all_in (lists_of c.self.inside.cells.table.items c.self.inside.ends.items) + 1
counted c =
    let q = c.self.inside in
    let within = owner_within q.cells.table.items q.ends.items q.room c.args.self.now c.args.o c.self.view_is c.requires.owner in
    count_pushed (lists_of q.cells.table.items q.ends.items) _ c.args.o c.args.serial (list_within q.cells.table.items q.ends.items c.args.o within) (steps c).1

pub invariant_of-self : goal.invariant_of-self
invariant_of-self c =
    let q = c.self.inside in
    let after = (goal.at.invariant_of-self c).After-append in
    record {
      table = (steps after).0;
      counted = omega (arith, counted after, c.self.invariant.counted);
      within = omega (arith, c.append.ensures.table, grown q.cells.table.items _ _ _ _ q.room c.fill-number.ensures.next (few (goal.at.invariant_of-self c).After-alone) c.self.invariant.within);
      reserved = omega (arith, c.append.ensures.capacity, c.fill-number.ensures.capacity, c.self.invariant.reserved);
    }

pub returns-clause-pushed : goal.returns-clause-pushed
returns-clause-pushed c =
    rw (← c.self.view_is) (ap (λ (lists : List (List ℕ)). let qs : Lists = record { lists = lists; room = c.self.inside.room } in qs) (steps (goal.at.returns-clause-pushed c).After-append).1)

pub returns-clause-counted : goal.returns-clause-counted
returns-clause-counted c = rw (← c.self.view_is) (counted (goal.at.returns-clause-counted c).After-append)
