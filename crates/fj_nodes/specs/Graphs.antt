-- A graph is the inputs of each of its nodes, by number.
use Rattle.std.specs.Prelude.{ℕ, zero, suc, ◌≡◌, ◌<◌, ◌≤◌, ◌^◌, ◌++◌, List, [], ◌∷◌, get_or, length, map, slice_index, slice_set}
use Rattle.fj_nodes.specs.declared.node.NodeId.{NodeId}
use Rattle.fj_nodes.specs.declared.node.Node.{Node}
use Rattle.fj_nodes.specs.declared.fault.GraphFault.{GraphFault}
use Rattle.fj_nodes.specs.declared.fault.GraphFault.TheVariants.{Missing, OutOfMemory}

-- the number of a node
abbrev pub number_of : NodeId → ℕ
number_of node = node.0

-- the inputs of nodes
abbrev pub graph_of : List Node → List (List ℕ)
graph_of nodes = map (λ node. map number_of node.inputs.items) nodes

-- the inputs of this node; none where there is no such node
abbrev pub inputs_at : List (List ℕ) → ℕ → List ℕ
inputs_at graph n = get_or graph n []

-- each input is a node, and so many nodes have numbers
pub record AreNodes (graph : List (List ℕ)) : Type 0 where
  pub few : length graph < 2 ^ 32
  pub inputs : (n k : ℕ) → k < length (inputs_at graph n) → slice_index (inputs_at graph n) k < length graph

-- n needs i, besides what it needs already
abbrev pub with_input : List (List ℕ) → ℕ → ℕ → List (List ℕ)
with_input graph n i = slice_set graph n (inputs_at graph n ++ i ∷ [])

-- why a node cannot be made to need an input: what is missing is the first of them that is not a node; where an allocation fails both are
abbrev pub FaultIn : List (List ℕ) → NodeId → NodeId → GraphFault → Type 0
FaultIn graph node input (Missing missing) = (length graph ≤ missing.0) × (length graph ≤ node.0 → missing ≡ node) × (node.0 < length graph → missing ≡ input)
FaultIn graph node input OutOfMemory = (node.0 < length graph) × (input.0 < length graph)

-- m is an input of n
abbrev pub HasInput : List (List ℕ) → ℕ → ℕ → Type 0
HasInput graph n m = (k : ℕ) × (k < length (inputs_at graph n)) × (slice_index (inputs_at graph n) k ≡ m)

-- n leads to m by so many steps, each from a node to an input of it
abbrev pub leads : List (List ℕ) → ℕ → ℕ → ℕ → Type 0
leads graph zero n m = n ≡ m
leads graph (suc steps) n m = (i : ℕ) × leads graph steps n i × HasInput graph i m

-- n is m, or needs it, however far away
abbrev pub LeadsTo : List (List ℕ) → ℕ → ℕ → Type 0
LeadsTo graph n m = (steps : ℕ) × leads graph steps n m

-- n needs itself, however far away
abbrev pub IsOnCycle : List (List ℕ) → ℕ → Type 0
IsOnCycle graph n = (i : ℕ) × LeadsTo graph n i × HasInput graph i n

-- n is on a cycle, or needs a node that is, however far away
abbrev pub NeedsCycle : List (List ℕ) → ℕ → Type 0
NeedsCycle graph n = (m : ℕ) × LeadsTo graph n m × IsOnCycle graph m

-- each input of n has a lower rank
abbrev pub IsAbove : (ℕ → ℕ) → List (List ℕ) → ℕ → Type 0
IsAbove rank graph n = (k : ℕ) → k < length (inputs_at graph n) → rank (slice_index (inputs_at graph n) k) < rank n

-- there is no cycle: nodes have ranks, and each input of a node a lower one than the node
abbrev pub IsAcyclic : List (List ℕ) → Type 0
IsAcyclic graph = (rank : ℕ → ℕ) × ((n : ℕ) → n < length graph → IsAbove rank graph n)
