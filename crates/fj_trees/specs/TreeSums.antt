-- What is kept while the values of a tree's nodes are computed, the last node first.
use Rattle.std.specs.Prelude.{ℕ, ◌≡◌, ◌+◌, ◌%◌, ◌<◌, ◌≤◌, List, [], ◌∷◌, length, map, slice_index, slice_set}
use Rattle.fj_trees.specs.declared.node.Node.{Node}
use Rattle.fj_trees.specs.TreeValues.{children_from, node_value, weighted}

-- one of the sums, raised by so much
abbrev pub with_more : List ℕ → ℕ → ℕ → List ℕ
with_more sums i n = slice_set sums i ((slice_index sums i + n) % 1000000007)

abbrev pub total : List ℕ → ℕ
total [] = 0
total (v ∷ vs) = v + total vs

-- the values of the nodes from i on, and of each node the sums over its children among them, plain and weighted
pub record IsSummed (nodes : List Node) (i : ℕ) (vs ps ws : List ℕ) : Type 0 where
  pub all : (length vs ≡ length nodes) × (length ps ≡ length nodes) × (length ws ≡ length nodes)
  pub values : (k : ℕ) → i ≤ k → k < length nodes → slice_index vs k ≡ node_value nodes k
  pub plain : (p : ℕ) → p < length nodes → slice_index ps p ≡ total (map (node_value nodes) (children_from nodes i p)) % 1000000007
  pub weights : (p : ℕ) → p < length nodes → slice_index ws p ≡ weighted 1 (map (node_value nodes) (children_from nodes i p)) % 1000000007
