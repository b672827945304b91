-- What a reader of a tree keeps, and what one byte does to it.
use Rattle.std.specs.Prelude.{ℕ, ◌≡◌, ◌≢◌, ◌+◌, ◌≤◌, ◌⊎◌, List, [], ◌∷◌, ◌++◌, length}
use Rattle.fj_trees.specs.declared.node.Node.{Node}
use Rattle.fj_trees.specs.declared.tree_fault.TreeFault.{TreeFault}
use Rattle.fj_trees.specs.declared.tree_fault.TreeFault.TheVariants.{Line, Memory, Read}
use Rattle.fj_trees.specs.Separators.{Without}
use Rattle.fj_trees.specs.Trees.{AreNodes, IsNodeAt, IsNoNode, node_line, tree_text}

-- the nodes of the whole lines, and the unfinished line
pub record Kept : Type 0 where
  pub nodes : List Node
  pub line : List ℕ

-- before anything was read
abbrev pub nothing_kept : Kept
nothing_kept = record { nodes = []; line = [] }

-- these bytes are the lines of the kept nodes and the unfinished line
pub record IsAt (b : List ℕ) (v : Kept) : Type 0 where
  pub bytes : b ≡ tree_text v.nodes ++ v.line
  pub good : AreNodes 0 v.nodes
  pub unended : Without 10 v.line

-- the byte ends the line of a node, or is appended to the line
abbrev pub Goes : Kept → ℕ → Kept → Type 0
Goes v x next =
    ((x ≡ 10) × ((node : Node) × IsNodeAt (length v.nodes) node × (v.line ≡ node_line node) × (next.nodes ≡ v.nodes ++ node ∷ []) × (next.line ≡ [])))
    ⊎ ((x ≢ 10) × (next.nodes ≡ v.nodes) × (next.line ≡ v.line ++ x ∷ []))

-- what a fault at a byte says: there are 4,000 nodes, or the line may not be there, or is too long; memory runs out only at a line that may
-- be there
abbrev pub FaultAt : TreeFault → Kept → ℕ → Type 0
FaultAt (Line n) v x = (n ≡ length v.nodes + 1) × ((4000 ≤ length v.nodes) ⊎ ((x ≡ 10) × IsNoNode (length v.nodes) v.line) ⊎ ((x ≢ 10) × (64 ≤ length v.line)))
FaultAt Memory v x = (x ≡ 10) × ((node : Node) × IsNodeAt (length v.nodes) node × (v.line ≡ node_line node))
FaultAt Read v x = ⊥
