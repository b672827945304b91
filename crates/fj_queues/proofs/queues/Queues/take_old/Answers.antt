use Rattle.fj_queues.specs.Queues.{Lists, all_in, queue_at, without_first}
use Rattle.fj_queues.specs.declared.cells.Cells.{Cells}
use Rattle.fj_queues.specs.Cells.{serial_at}
use Rattle.fj_queues.specs.Tables.{no_ends, lists_of, IsTable}
use Rattle.fj_queues.proofs.Table.Owners.{owner_within, list_within}
use Rattle.fj_queues.proofs.Table.TableSteps.{queue_of, first_moved}
use Rattle.fj_queues.proofs.Table.QueueSteps.{loose_within, take_old_steps, no_oldest, count_without_first}
use Rattle.fj_queues.proofs.Table.QueueWrites.{untouched}
use Rattle.fj_queues.proofs.Table.Counts.{one_in_all}
use Rattle.fj_rules.specs.Lists.{first_of}
use Rattle.std.proofs.Common.{arith, ap, subst, sym, ◌∙◌, ◌≡◌, ◌<◌, ◌+◌, ◌∷◌, [], List, ℕ, Some, None, length, get_or}
use Rattle.std.proofs.Math.ListN.{set}
use Rattle.std.proofs.lemmas.List.{get_or_read}
use Rattle.std.proofs.lemmas.Option.{slice_get_within}
use Rattle.fj_queues.proofs.queues.Queues.take_old.Goals as goal
use Rattle.fj_queues.proofs.queues.Queues.take_old.Goals.{After-index, After-index_mut, After-give_back}

-- there is such an owner
owned : (c : After-index) → c.args.o < length c.self.inside.ends.items
owned c = let q = c.self.inside in owner_within q.cells.table.items q.ends.items q.room c.args.self.now c.args.o c.self.view_is c.requires

pub detach_oldest-requires : goal.detach_oldest-requires
detach_oldest-requires c =
    let q = c.self.inside in
    let within = owned (goal.at.detach_oldest-requires c).After-index in
    record { queue = queue_of q.cells.table.items _ _ _ c.self.invariant.table c.args.o within _ (get_or_read q.ends.items _ _ within c.index.ensures no_ends) }

-- where the queue has no such end, it is empty
empty : (c : After-index) → c.index.result.now.oldest ≡ None → queue_at c.args.self.now c.args.o ≡ []
empty c none =
    let q = c.self.inside in
    let within = owned c in
    ap (λ (qs : Lists). queue_at qs c.args.o) (sym c.self.view_is)
    ∙ no_oldest q.cells.table.items q.cells.free q.ends.items c.args.o _ c.self.invariant.table within (get_or_read q.ends.items _ _ within c.index.ensures no_ends) none

pub returns-in_err-number-clause-taken : goal.returns-in_err-number-clause-taken
returns-in_err-number-clause-taken c =
    let none = empty (goal.at.returns-in_err-number-clause-taken c).After-index (sym c.in_err-number.ensures.taken) in
    c.from_residual.ensures ∙ sym (ap first_of none)

pub returns-in_err-number-clause-rest : goal.returns-in_err-number-clause-rest
returns-in_err-number-clause-rest c =
    let none = empty (goal.at.returns-in_err-number-clause-rest c).After-index (sym c.in_err-number.ensures.taken) in
    ap (λ (cells : Cells). let qs : Lists = record { lists = lists_of cells.table.items c.self.inside.ends.items; room = c.self.inside.room } in qs) c.in_err-number.ensures.stays.1
    ∙ c.self.view_is
    ∙ sym (untouched c.args.self.now c.args.o (without_first (queue_at c.args.self.now c.args.o)) (ap (λ ts. length (without_first ts)) none) (ap length none))

-- the cell that was unlinked is in no chain, and its number is the one at that end
unlinked : (c : After-index_mut) → IsTable c.detach_oldest.new.cells.table.items c.detach_oldest.new.cells.free (set c.self.inside.ends.items c.args.o c.detach_oldest.new.self) (c.in_ok-number.number ∷ [])
    × (Some (serial_at c.detach_oldest.new.cells.table.items c.in_ok-number.number) ≡ first_of (get_or (lists_of c.self.inside.cells.table.items c.self.inside.ends.items) c.args.o []))
unlinked c =
    let q = c.self.inside in
    let within = owner_within q.cells.table.items q.ends.items q.room c.args.self.now c.args.o c.self.view_is c.requires in
    let all = first_moved q.cells.table.items c.detach_oldest.new.cells.table.items c.detach_oldest.new.cells.free
    q.ends.items c.in_ok-number.number c.args.o c.index.result.now c.detach_oldest.new.self
    (subst (λ free. IsTable q.cells.table.items free q.ends.items []) (sym c.in_ok-number.ensures.free) c.self.invariant.table) within (get_or_read q.ends.items _ _ within c.index.ensures no_ends)
    c.in_ok-number.ensures.table (sym c.in_ok-number.ensures.taken) c.in_ok-number.ensures.rest in
    (all.0, all.2)

pub overflow_sub-self : goal.overflow_sub-self
overflow_sub-self c =
    let q = c.self.inside in
    let within = owned (goal.at.overflow_sub-self c).After-index in
    let lists = lists_of q.cells.table.items q.ends.items in
    omega (
      arith,
      slice_get_within (get_or lists c.args.o []) _ _ (sym (unlinked (goal.at.overflow_sub-self c).After-index_mut).1),
      one_in_all lists c.args.o (list_within q.cells.table.items q.ends.items c.args.o within),
      c.self.invariant.counted,
    )

pub give_back-requires : goal.give_back-requires
give_back-requires c = loose_within c.detach_oldest.new.cells.table.items _ _ _ (unlinked (goal.at.give_back-requires c).After-index_mut).0

-- the table after both steps, and what is seen of it
steps : (c : After-give_back) → IsTable c.give_back.new.self.table.items c.give_back.new.self.free (set c.self.inside.ends.items c.args.o c.detach_oldest.new.self) []
    × (lists_of c.give_back.new.self.table.items (set c.self.inside.ends.items c.args.o c.detach_oldest.new.self)
    ≡ set (lists_of c.self.inside.cells.table.items c.self.inside.ends.items) c.args.o (without_first (get_or (lists_of c.self.inside.cells.table.items c.self.inside.ends.items) c.args.o [])))
    × (Some (serial_at c.detach_oldest.new.cells.table.items c.in_ok-number.number) ≡ first_of (get_or (lists_of c.self.inside.cells.table.items c.self.inside.ends.items) c.args.o []))
steps c =
    let q = c.self.inside in
    let within = owner_within q.cells.table.items q.ends.items q.room c.args.self.now c.args.o c.self.view_is c.requires in
    let all = take_old_steps q.cells.table.items c.detach_oldest.new.cells.table.items c.give_back.new.self.table.items c.detach_oldest.new.cells.free
    q.ends.items c.in_ok-number.number c.args.o c.index.result.now c.detach_oldest.new.self
    (subst (λ free. IsTable q.cells.table.items free q.ends.items []) (sym c.in_ok-number.ensures.free) c.self.invariant.table) within (get_or_read q.ends.items _ _ within c.index.ensures no_ends)
    (sym c.in_ok-number.ensures.taken) c.in_ok-number.ensures.rest c.in_ok-number.ensures.table c.give_back.ensures.written c.give_back.ensures.len in
    (subst (λ free. IsTable c.give_back.new.self.table.items free (set q.ends.items c.args.o c.detach_oldest.new.self) []) (sym c.give_back.ensures.first) all.0, all.1, all.2)

-- how many numbers there are then
counted : (c : After-give_back) → all_in (lists_of c.give_back.new.self.table.items (set c.self.inside.ends.items c.args.o c.detach_oldest.new.self)) + 1 ≡ all_in (lists_of c.self.inside.cells.table.items c.self.inside.ends.items)
counted c =
    let q = c.self.inside in
    let within = owner_within q.cells.table.items q.ends.items q.room c.args.self.now c.args.o c.self.view_is c.requires in
    count_without_first (lists_of q.cells.table.items q.ends.items) _ c.args.o _ (list_within q.cells.table.items q.ends.items c.args.o within) (steps c).2 (steps c).1

pub invariant_of-self-2 : goal.invariant_of-self-2
invariant_of-self-2 c =
    record {
      table = (steps c).0;
      counted = omega (arith, counted c, c.self.invariant.counted);
      within = omega (arith, c.give_back.ensures.len, c.in_ok-number.ensures.table, c.self.invariant.within);
      reserved = omega (arith, c.give_back.ensures.capacity, c.in_ok-number.ensures.capacity, c.self.invariant.reserved);
    }

pub returns-clause-taken : goal.returns-clause-taken
returns-clause-taken c = rw (← c.self.view_is) (ap Some c.give_back.ensures.serial ∙ (steps c).2)

pub returns-clause-rest : goal.returns-clause-rest
returns-clause-rest c =
    rw (← c.self.view_is) (ap (λ (lists : List (List ℕ)). let qs : Lists = record { lists = lists; room = c.self.inside.room } in qs) (steps c).1)

pub returns-clause-counted : goal.returns-clause-counted
returns-clause-counted c = rw (← c.self.view_is) (counted c)
