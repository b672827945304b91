-- The nodes of a tree with their first children and their next siblings.
use Rattle.std.specs.Prelude.{ℕ, ◌≡◌, ◌+◌, ◌<◌, ◌≤◌, List, length, map, Option, Some, None, get_or, slice_get, slice_set}
use Rattle.fj_trees.specs.declared.node.Node.{Node}
use Rattle.fj_trees.specs.Trees.{IsTree}
use Rattle.fj_trees.specs.TreeValues.{node_at, children, children_from}
use Rattle.fj_trees.specs.declared.member.Member.{Member}

-- the first child of p with a number from i on
abbrev pub child_from : List Node → ℕ → ℕ → Option ℕ
child_from nodes i p = slice_get (children_from nodes i p) 0

-- c is a child of p
abbrev pub IsChild : List Node → ℕ → ℕ → Type 0
IsChild nodes p c = (c < length nodes) × ((node_at nodes c).parent ≡ Some p)

-- this is the node with number i, with its first child, and with the next child of its parent, if it has one
pub record IsMember (nodes : List Node) (i : ℕ) (member : Member) : Type 0 where
  pub node : member.node ≡ node_at nodes i
  pub children : member.children ≡ length (children nodes i)
  pub first : member.first ≡ child_from nodes 0 i
  pub next : (p : ℕ) → (node_at nodes i).parent ≡ Some p → member.next ≡ child_from nodes (i + 1) p

-- ---- the members of a family

-- a node without links
abbrev pub alone : Node → Member
alone node = record { node = node; children = 0; first = None; next = None }

-- the member with this number
abbrev pub member_at : List Member → ℕ → Member
member_at members i = get_or members i (alone (record { parent = None; value = 0 }))

-- their nodes
abbrev pub nodes_of : List Member → List Node
nodes_of members = map (λ m. m.node) members

-- the member before this sibling
abbrev pub before_sibling : Member → Option ℕ → Member
before_sibling member next = record member { next = next }

-- the member with this child before its others
abbrev pub with_child : Member → ℕ → Member
with_child member c = record member { first = Some c; children = member.children + 1 }

-- c is linked to p, before the other children of p
abbrev pub with_joined : List Member → ℕ → ℕ → List Member
with_joined members p c =
    slice_set (slice_set members c (before_sibling (member_at members c) (member_at members p).first)) p (with_child (member_at members p) c)

-- each node is linked to its children that have numbers from i on: to the first of them, and each of these to the next one
pub record IsJoined (nodes : List Node) (i : ℕ) (members : List Member) : Type 0 where
  pub all : nodes_of members ≡ nodes
  pub children : (p : ℕ) → p < length nodes → (member_at members p).children ≡ length (children_from nodes i p)
  pub first : (p : ℕ) → p < length nodes → (member_at members p).first ≡ child_from nodes i p
  pub next : (c p : ℕ) → i ≤ c → c < length nodes → (node_at nodes c).parent ≡ Some p → (member_at members c).next ≡ child_from nodes (c + 1) p

-- a tree, each of whose nodes is linked to all of its children
pub record IsFamily (members : List Member) : Type 0 where
  pub tree : IsTree (nodes_of members)
  pub joined : IsJoined (nodes_of members) 0 members
