use Rattle.fj_rules.specs.Lists.{is_empty}
use Rattle.fj_queues.specs.Queues.{first_filled, places_from}
use Rattle.fj_queues.specs.Tables.{no_ends, numbers_from, lists_of}
use Rattle.fj_queues.proofs.Table.Scans.{all_empty, none_in_empty, scan_step, is_empty_no, is_empty_yes}
use Rattle.fj_queues.proofs.Table.TableSteps.{len_seen}
use Rattle.std.proofs.Common.{[], ap, ◌<◌, ◌≡◌, ◌+◌, ◌%◌, ◌-◌, None, length, arith, get_or, sym, ◌∙◌, true, false}
use Rattle.std.proofs.Math.Nat.{mod-add-mod}
use Rattle.std.proofs.lemmas.List.{get_or_read, length-map}
use Rattle.fj_queues.proofs.queues.Queues.first_from.Goals as goal
use Rattle.fj_queues.proofs.queues.Queues.first_from.Goals.{After-index}

-- the queue that is looked at
place : (c : After-index) → c.round-o.result ≡ (c.args.r + c.loop-i.i) % c.len-owners.result
place c = c.round-o.ensures ∙ mod-add-mod c.args.r c.len-owners.result c.loop-i.i

-- how many numbers it has
read : (c : After-index) → c.index.result.now.len ≡ length (get_or (lists_of c.self.inside.cells.table.items c.self.inside.ends.items) ((c.args.r + c.loop-i.i) % c.len-owners.result) [])
read c =
    let q = c.self.inside in
    let owners = c.len-owners.result in
    let within : c.round-o.result < length q.ends.items = rw c.round-o.ensures (omega (arith, q.ends.ok.0)) in
    len_seen q.cells.table.items q.cells.free q.ends.items [] c.self.invariant.table _ within _ (get_or_read q.ends.items _ _ within c.index.ensures no_ends)
    ∙ ap (λ o. length (get_or (lists_of q.cells.table.items q.ends.items) o [])) (place c)

pub returns-then-index-gt0-clause-scan : goal.returns-then-index-gt0-clause-scan
returns-then-index-gt0-clause-scan c =
    let q = c.self.inside in
    let lists = lists_of q.cells.table.items q.ends.items in
    let owners = c.len-owners.result in
    let o = (c.args.r + c.loop-i.i) % owners in
    let count : length lists ≡ owners = omega (arith, length-map q.ends.items (λ e. numbers_from q.cells.table.items e.len e.oldest), q.ends.ok.0) in
    let some : is_empty (get_or lists o []) ≡ false = is_empty_no (get_or lists o []) (omega (arith, read (goal.at.returns-then-index-gt0-clause-scan c).After-index)) in
    let step = rw some at (scan_step lists c.args.r owners c.loop-i.i c.loop-i-test.true) in
    rw (← c.self.view_is, count, place (goal.at.returns-then-index-gt0-clause-scan c).After-index) (sym step ∙ c.loop-i.invariant)

pub returns-then-index-gt0-clause-filled : goal.returns-then-index-gt0-clause-filled
returns-then-index-gt0-clause-filled c =
    rw (← c.self.view_is, place (goal.at.returns-then-index-gt0-clause-filled c).After-index) (omega (arith, read (goal.at.returns-then-index-gt0-clause-filled c).After-index))

pub loop-i-preserved : goal.loop-i-preserved
loop-i-preserved c =
    let q = c.self.inside in
    let lists = lists_of q.cells.table.items q.ends.items in
    let owners = c.len-owners.result in
    let o = (c.args.r + c.loop-i.i) % owners in
    let none : is_empty (get_or lists o []) ≡ true = is_empty_yes (get_or lists o []) (omega (arith, read (goal.at.loop-i-preserved c).After-index)) in
    rw none at (sym (scan_step lists c.args.r owners c.loop-i.i c.loop-i-test.true)) ∙ c.loop-i.invariant

pub returns-clause-none : goal.returns-clause-none
returns-clause-none c =
    let q = c.self.inside in
    let lists = lists_of q.cells.table.items q.ends.items in
    let owners = c.len-owners.result in
    let count : length lists ≡ owners = omega (arith, length-map q.ends.items (λ e. numbers_from q.cells.table.items e.len e.oldest), q.ends.ok.0) in
    let over : owners - c.loop-i.i ≡ 0 = omega arith in
    let none : first_filled lists (places_from (length lists) c.args.r) ≡ None = rw count (sym (rw over at c.loop-i.invariant)) in
    rw (← c.self.view_is) (none_in_empty lists (all_empty lists c.args.r none))
