-- The values of the nodes of a tree.
use Rattle.std.specs.Prelude.{ℕ, zero, suc, Bool, false, ◌≡◌, ◌+◌, ◌-◌, ◌*◌, ◌%◌, ◌<◌, ◌==◌, List, [], ◌∷◌, length, map, Option, Some, None, get_or, slice_index}
use Rattle.std.specs.List.{filter, range_with_len}
use Rattle.fj_trees.specs.declared.node.Node.{Node}

-- the node with this number
abbrev pub node_at : List Node → ℕ → Node
node_at nodes i = get_or nodes i (record { parent = None; value = 0 })

-- whether p is the parent
abbrev pub names : ℕ → Option ℕ → Bool
names p None = false
names p (Some q) = p == q

-- the nodes from number i on whose parent is p, by rising number
abbrev pub children_from : List Node → ℕ → ℕ → List ℕ
children_from nodes i p = filter (λ c. names p (node_at nodes c).parent) (range_with_len i (length nodes - i))

-- the children of p, by rising number
abbrev pub children : List Node → ℕ → List ℕ
children nodes p = children_from nodes 0 p

-- k times the first, k + 1 times the second, and so on
abbrev pub weighted : ℕ → List ℕ → ℕ
weighted k [] = 0
weighted k (v ∷ vs) = k * v + weighted (k + 1) vs

-- a node's own value and k times the value of its k-th child, modulo 1,000,000,007, from the values of its children
abbrev pub combined_value : List Node → (ℕ → ℕ) → ℕ → ℕ
combined_value nodes value i = ((node_at nodes i).value + weighted 1 (map value (children nodes i))) % 1000000007

-- the value of a node below which there are fewer generations than this
abbrev pub value_within : List Node → ℕ → ℕ → ℕ
value_within nodes zero i = 0
value_within nodes (suc generations) i = combined_value nodes (value_within nodes generations) i

-- the value of a node: a tree has fewer generations than nodes
abbrev pub node_value : List Node → ℕ → ℕ
node_value nodes i = value_within nodes (length nodes) i

-- these are the values of the nodes, by their numbers
pub record AreValues (nodes : List Node) (values : List ℕ) : Type 0 where
  pub all : length values ≡ length nodes
  pub each : (i : ℕ) → i < length nodes → slice_index values i ≡ node_value nodes i
  -- each is combined from those of its children
  pub combined : (i : ℕ) → i < length nodes → node_value nodes i ≡ combined_value nodes (node_value nodes) i
