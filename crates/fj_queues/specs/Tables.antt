-- A table in which each cell is in one queue, or is free.
use Rattle.std.specs.Prelude.{◌≡◌, ◌≤◌, ◌<◌, ◌+◌, ℕ, List, [], length, Option, None, get_or, map}
use Rattle.std.specs.List.{sum_by}
use Rattle.fj_rules.specs.Lists.{times_in}
use Rattle.fj_queues.specs.declared.cells.Cell.{Cell}
use Rattle.fj_queues.specs.declared.ends.Ends.{Ends}
use Rattle.fj_queues.specs.Cells.{serial_at, newer_at}
use Rattle.fj_queues.specs.Chains.{head_or, Leads, IsChain, walk}
use Rattle.fj_queues.specs.Queues.{all_in}

-- the ends of an empty queue
abbrev pub no_ends : Ends
no_ends = record { oldest = None; newest = None; len = 0 }

-- at most so many numbers, from this cell on along the newer neighbours
abbrev pub numbers_from : List Cell → ℕ → Option ℕ → List ℕ
numbers_from cells n start = map (serial_at cells) (walk (newer_at cells) n start)

-- the numbers between each owner's ends
abbrev pub lists_of : List Cell → List Ends → List (List ℕ)
lists_of cells ends = map (λ e. numbers_from cells e.len e.oldest) ends

-- how often a cell is in the chains of the owners, in the chain of the free cells, and among the loose cells, which are in neither
abbrev pub times_named : ℕ → List (List ℕ) → List ℕ → List ℕ → ℕ
times_named c chains spare loose = sum_by (times_in c) chains + (times_in c spare + times_in c loose)

-- each owner has a chain, the free cells have theirs, and no cell occurs twice; the loose cells are in no chain
pub record IsTable (cells : List Cell) (free : Option ℕ) (ends : List Ends) (loose : List ℕ) : Type 0 where
  pub chains : List (List ℕ)
  pub owners : length chains ≡ length ends
  pub linked : (o : ℕ) → o < length ends → IsChain cells (get_or ends o no_ends) (get_or chains o [])
  pub spare : List ℕ
  pub first : free ≡ head_or None spare
  pub leads : Leads (newer_at cells) spare None
  pub once : (c : ℕ) → times_named c chains spare loose ≤ 1
  pub within : (c : ℕ) → 0 < times_named c chains spare loose → c < length cells
  pub all : all_in chains + (length spare + length loose) ≡ length cells

-- from this cell on so many cells are linked
pub record IsWalk (cells : List Cell) (start : Option ℕ) (n : ℕ) : Type 0 where
  pub chain : List ℕ
  pub first : start ≡ head_or None chain
  pub counted : n ≡ length chain
  pub leads : Leads (newer_at cells) chain None
  pub within : (c : ℕ) → 0 < times_in c chain → c < length cells
