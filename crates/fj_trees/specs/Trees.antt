-- Trees of nodes, and how they are written.
use Rattle.std.specs.Prelude.{ℕ, ⊤, ◌≡◌, ◌≢◌, ◌+◌, ◌<◌, ◌≤◌, List, [], ◌∷◌, ◌++◌, length, Option, Some, None, decimal}
use Rattle.fj_lines.specs.Lines.{parent_word}
use Rattle.fj_trees.specs.declared.node.Node.{Node}
use Rattle.fj_trees.specs.declared.tree_fault.TreeFault.{TreeFault}
use Rattle.fj_trees.specs.declared.tree_fault.TreeFault.TheVariants.{Line, Memory, Read}

-- ---- trees

-- node 0 has no parent, each other node an earlier one
abbrev pub HasParentAt : ℕ → Option ℕ → Type 0
HasParentAt i None = i ≡ 0
HasParentAt i (Some p) = p < i

-- the parent that a word denotes at this place; None where it denotes none that may be there
abbrev pub ReadsParent : List ℕ → ℕ → Option (Option ℕ) → Type 0
ReadsParent word i None = (p : Option ℕ) → HasParentAt i p → word ≢ parent_word p
ReadsParent word i (Some p) = HasParentAt i p × (word ≡ parent_word p)

-- the node may be the one with this number
abbrev pub IsNodeAt : ℕ → Node → Type 0
IsNodeAt i node = (i < 4000) × HasParentAt i node.parent × (node.value ≤ 1000000006)

-- the nodes may have the numbers from i on
abbrev pub AreNodes : ℕ → List Node → Type 0
AreNodes i [] = ⊤
AreNodes i (node ∷ nodes) = IsNodeAt i node × AreNodes (i + 1) nodes

-- 1 to 4,000 nodes, each with an earlier parent but the first
abbrev pub IsTree : List Node → Type 0
IsTree nodes = AreNodes 0 nodes × (0 < length nodes)

-- ---- how they are written

-- the line of a node, without its line feed: its parent's number or `-`, a space, its value
abbrev pub node_line : Node → List ℕ
node_line node = parent_word node.parent ++ 32 ∷ decimal node.value

-- the lines of the nodes, each with its line feed
abbrev pub tree_text : List Node → List ℕ
tree_text [] = []
tree_text (node ∷ nodes) = node_line node ++ 10 ∷ tree_text nodes

-- ---- faults

-- no node with this number has this line
abbrev pub IsNoNode : ℕ → List ℕ → Type 0
IsNoNode i line = (node : Node) → IsNodeAt i node → line ≢ node_line node

-- the bytes do not begin with the line of a node with this number
abbrev pub BeginsWithNoNode : ℕ → List ℕ → Type 0
BeginsWithNoNode i bytes = (node : Node) → IsNodeAt i node → (after : List ℕ) → bytes ≢ node_line node ++ 10 ∷ after

-- the lines before line n, counted from 1, are those of the first nodes of a tree, and line n is none, or does not end; where the input
-- ends after line n - 1, n is 1
pub record IsFirstFault (n : ℕ) (bytes : List ℕ) : Type 0 where
  pub nodes : List Node
  pub behind : List ℕ
  pub input : bytes ≡ tree_text nodes ++ behind
  pub good : AreNodes 0 nodes
  pub number : n ≡ length nodes + 1
  pub faulty : BeginsWithNoNode (length nodes) behind
  pub missing : behind ≡ [] → nodes ≡ []

-- what a fault says of the whole input
abbrev pub FaultOf : TreeFault → List ℕ → Type 0
FaultOf (Line n) input = IsFirstFault n input
FaultOf Memory input = ⊤
FaultOf Read input = ⊤
