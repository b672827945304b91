use Rattle.fj_queues.specs.declared.cells.Cell.{Cell}
use Rattle.fj_queues.specs.Cells.{blank, cell_at}
use Rattle.fj_queues.specs.Tables.{numbers_from}
use Rattle.fj_queues.proofs.Chains.Walks.{next_within, goes_on, gives_first}
use Rattle.std.proofs.Common.{arith, rules, ap, sym, ◌∷◌, ◌-◌, ◌∙◌, ◌≡◌, get_or}
use Rattle.std.proofs.lemmas.List.{get_or_read}
use Rattle.fj_queues.proofs.numbers.NumbersIterator.next.Goals as goal
use Rattle.fj_queues.proofs.numbers.NumbersIterator.next.Goals.{After-index-self-branch}

pub offset_bounds-self-inside-branch : goal.offset_bounds-self-inside-branch
offset_bounds-self-inside-branch c =
    let within = next_within c.self.inside.table.now c.self.inside.next c.self.inside.left c.in_ok-cell.field-0 c.self.invariant c.in_ok-cell.was in
    grind (arith, within)

pub bounds-self-inside-branch : goal.bounds-self-inside-branch
bounds-self-inside-branch c = next_within c.self.inside.table.now c.self.inside.next c.self.inside.left c.in_ok-cell.field-0 c.self.invariant c.in_ok-cell.was

-- the cell that is read
read : (c : After-index-self-branch) → get_or c.self.inside.table.now c.in_ok-cell.field-0 c.index-self-branch.result ≡ cell_at c.self.inside.table.now c.in_ok-cell.field-0
read c =
    let within = next_within c.self.inside.table.now c.self.inside.next c.self.inside.left c.in_ok-cell.field-0 c.self.invariant c.in_ok-cell.was in
    sym c.index-self-branch.is ∙ get_or_read c.self.inside.table.now _ _ within c.index-self-branch.is blank

pub invariant_of-self : goal.invariant_of-self
invariant_of-self c =
    goes_on c.self.inside.table.now c.self.inside.next c.self.inside.left c.in_ok-cell.field-0 _ c.self.invariant c.in_ok-cell.was (ap (λ (cell : Cell). cell.newer) (read (goal.at.invariant_of-self c).After-index-self-branch))

pub returns-clause-steps : goal.returns-clause-steps
returns-clause-steps c =
    let cell = read (goal.at.returns-clause-steps c).After-index-self-branch in
    let later = (get_or c.self.inside.table.now c.in_ok-cell.field-0 c.index-self-branch.result).newer in
    sym c.self.view_is
    ∙ gives_first c.self.inside.table.now c.self.inside.next c.self.inside.left c.in_ok-cell.field-0 _ c.self.invariant c.in_ok-cell.was (ap (λ (x : Cell). x.newer) cell)
    ∙ ap (λ (x : Cell). x.serial ∷ numbers_from c.self.inside.table.now (c.self.inside.left - 1) later) (sym cell)

pub returns-clause-goes : goal.returns-clause-goes
returns-clause-goes c = let steps = returns-clause-steps c in search (rules, steps)
