-- The nodes of a tree are joined to their children.
use Rattle.std.specs.Prelude.{Some, None, slice_set}
use Rattle.std.proofs.Common.{ℕ, ◌≡◌, ◌≢◌, ◌+◌, ◌-◌, ◌<◌, ◌≤◌, ◌∙◌, inl, inr, List, [], ◌∷◌, length, map, refl, sym, ap, arith}
use Rattle.std.proofs.Math.ListN.{get_or-map}
use Rattle.std.proofs.Math.Seq.{map-set_same}
use Rattle.std.proofs.lemmas.Bool.{cases_eq, eq-eqb, ne_eqb}
use Rattle.std.proofs.lemmas.List.{get_or-set_same, get_or-set_other, length-set, length-map}
use Rattle.fj_trees.specs.declared.node.Node.{Node}
use Rattle.fj_trees.specs.Trees.{AreNodes, IsTree}
use Rattle.fj_trees.specs.TreeValues.{node_at, children_from}
use Rattle.fj_trees.proofs.TreeValues.{children_step, children_end, good_at}
use Rattle.fj_trees.proofs.Children.{few_children}
use Rattle.fj_trees.specs.declared.member.Member.{Member}
use Rattle.fj_trees.specs.Families.{IsJoined, alone, before_sibling, member_at, nodes_of, with_child, with_joined}

-- ---- each alone

nodes_alone : (nodes : List Node) → nodes_of (map alone nodes) ≡ nodes
nodes_alone [] = refl
nodes_alone (node ∷ nodes) = ap (λ rest. node ∷ rest) (nodes_alone nodes)

alone_at : (nodes : List Node) (i : ℕ) → member_at (map alone nodes) i ≡ alone (node_at nodes i)
alone_at nodes i = get_or-map alone nodes i (record { parent = None; value = 0 })

-- nobody is joined yet
pub joined_start : (nodes : List Node) (members : List Member) → members ≡ map alone nodes → IsJoined nodes (length nodes) members
joined_start nodes members e = record {
  all = ap nodes_of e ∙ nodes_alone nodes;
  children = λ p lt. rw (e, alone_at nodes p, children_end nodes (length nodes) p (omega arith)) refl;
  first = λ p lt. rw (e, alone_at nodes p, children_end nodes (length nodes) p (omega arith)) refl;
  next = λ c p le lt named. absurd (omega arith);
}

pub start_all : (members : List Member) → members ≡ map alone (nodes_of members) → IsJoined (nodes_of members) (length (nodes_of members) - 0) members
start_all members e = let same : length (nodes_of members) - 0 ≡ length (nodes_of members) = omega arith in rw same (joined_start (nodes_of members) members e)

-- what was made of a tree is that tree
pub still_nodes : (nodes ns : List Node) (members lent : List Member) → ns ≡ nodes → members ≡ map alone ns → lent ≡ members → nodes_of lent ≡ nodes
still_nodes nodes ns members lent same made is = ap nodes_of is ∙ ap nodes_of made ∙ nodes_alone ns ∙ same

pub still_tree : (nodes ns : List Node) (members lent : List Member) → IsTree nodes → ns ≡ nodes → members ≡ map alone ns → lent ≡ members → IsTree (nodes_of lent)
still_tree nodes ns members lent tree same made is = rw (still_nodes nodes ns members lent same made is) tree

pub still_alone : (nodes ns : List Node) (members lent : List Member) → ns ≡ nodes → members ≡ map alone ns → lent ≡ members → lent ≡ map alone (nodes_of lent)
still_alone nodes ns members lent same made is = is ∙ made ∙ ap (map alone) (same ∙ sym (still_nodes nodes ns members lent same made is))

-- ---- one more

-- the child stands before the others, and its parent does not know it yet
abbrev half : List Member → ℕ → ℕ → List Member
half members p c = slice_set members c (before_sibling (member_at members c) (member_at members p).first)

parent_at : (members : List Member) (p c : ℕ) → p < length members → member_at (with_joined members p c) p ≡ with_child (member_at members p) c
parent_at members p c lt =
    let within : p < length (half members p c) = rw (length-set members c (before_sibling (member_at members c) (member_at members p).first)) lt in
    get_or-set_same (half members p c) p (with_child (member_at members p) c) (alone (record { parent = None; value = 0 })) within

child_at : (members : List Member) (p c : ℕ) → c < length members → c ≢ p → member_at (with_joined members p c) c ≡ before_sibling (member_at members c) (member_at members p).first
child_at members p c lt other =
    get_or-set_other (half members p c) p c (with_child (member_at members p) c) (alone (record { parent = None; value = 0 })) other
    ∙ get_or-set_same members c (before_sibling (member_at members c) (member_at members p).first) (alone (record { parent = None; value = 0 })) lt

other_at : (members : List Member) (p c i : ℕ) → i ≢ p → i ≢ c → member_at (with_joined members p c) i ≡ member_at members i
other_at members p c i apart other =
    get_or-set_other (half members p c) p i (with_child (member_at members p) c) (alone (record { parent = None; value = 0 })) apart
    ∙ get_or-set_other members c i (before_sibling (member_at members c) (member_at members p).first) (alone (record { parent = None; value = 0 })) other

nodes_kept : (members : List Member) (p c : ℕ) → p ≢ c → nodes_of (with_joined members p c) ≡ nodes_of members
nodes_kept members p c other =
    let above : member_at (half members p c) p ≡ member_at members p = get_or-set_other members c p (before_sibling (member_at members c) (member_at members p).first) (alone (record { parent = None; value = 0 })) other in
    map-set_same (λ m. m.node) (half members p c) p (with_child (member_at members p) c) (alone (record { parent = None; value = 0 })) (ap (λ m. m.node) (sym above))
    ∙ map-set_same (λ m. m.node) members c (before_sibling (member_at members c) (member_at members p).first) (alone (record { parent = None; value = 0 })) refl

-- a root is no node's child
joined_root : (nodes : List Node) (i : ℕ) (members : List Member) → i < length nodes → (node_at nodes i).parent ≡ None → IsJoined nodes (i + 1) members → IsJoined nodes i members
joined_root nodes i members lt root at =
    let same : (p : ℕ) → children_from nodes i p ≡ children_from nodes (i + 1) p = λ p. children_step nodes i p lt ∙ rw root refl in
    record {
      all = at.all;
      children = λ p within. rw (same p) (at.children p within);
      first = λ p within. rw (same p) (at.first p within);
      next = λ c p le within named. elim (cases_eq c i) [
        | inl here ↦ absurd (let other : (node_at nodes i).parent ≡ Some p = rw here at named in cc)
        | inr other ↦ at.next c p (omega arith) within named
      ];
    }

-- any other node is a child of its parent, before those that are joined already
joined_child : (nodes : List Node) (i q : ℕ) (members : List Member) → i < length nodes → q < i → (node_at nodes i).parent ≡ Some q → IsJoined nodes (i + 1) members → IsJoined nodes i (with_joined members q i)
joined_child nodes i q members lt below child at =
    let all : length members ≡ length nodes = sym (length-map members (λ m. m.node)) ∙ ap length at.all in
    let mine : children_from nodes i q ≡ i ∷ children_from nodes (i + 1) q = children_step nodes i q lt ∙ rw (child, eq-eqb q q refl) refl in
    let others : (p : ℕ) → p ≢ q → children_from nodes i p ≡ children_from nodes (i + 1) p = λ p other. children_step nodes i p lt ∙ rw (child, ne_eqb p q other) refl in
    let apart : i ≢ q = (λ e. omega arith) in
    let inside : q < length members = omega arith in
    let here : i < length members = omega arith in
    let has : q < length nodes = omega arith in
    let above = parent_at members q i inside in
    let self = child_at members q i here apart in
    record {
      all = nodes_kept members q i (λ e. apart (sym e)) ∙ at.all;
      children = λ p within. elim (cases_eq p q) [
        | inl same ↦ rw (same, above, mine) (let count = at.children q has in omega arith)
        | inr other ↦ elim (cases_eq p i) [
          | inl same ↦ rw (same, self, others i apart) (at.children i lt)
          | inr away ↦ rw (other_at members q i p other away, others p other) (at.children p within)
        ]
      ];
      first = λ p within. elim (cases_eq p q) [
        | inl same ↦ rw (same, above, mine) refl
        | inr other ↦ elim (cases_eq p i) [
          | inl same ↦ rw (same, self, others i apart) (at.first i lt)
          | inr away ↦ rw (other_at members q i p other away, others p other) (at.first p within)
        ]
      ];
      next = λ c p le within named. elim (cases_eq c i) [
        | inl same ↦
            let other : (node_at nodes i).parent ≡ Some p = rw same at named in
            let whose : p ≡ q = cc in
            rw (same, self, whose) (at.first q has)
        | inr away ↦ rw (other_at members q i c (λ e. omega arith) away) (at.next c p (omega arith) within named)
      ];
    }

-- ---- as the code joins them

node_of : (nodes : List Node) (members : List Member) (i : ℕ) → nodes_of members ≡ nodes → node_at nodes i ≡ (member_at members i).node
node_of nodes members i e = ap (λ ns. node_at ns i) (sym e) ∙ get_or-map (λ m. m.node) members i (alone (record { parent = None; value = 0 }))

pub step_root : (nodes : List Node) (members : List Member) (i j : ℕ) → i < length nodes → j ≡ i → (member_at members j).node.parent ≡ None → IsJoined nodes (i + 1) members → IsJoined nodes i members
step_root nodes members i j lt here root at = joined_root nodes i members lt (ap (λ node. node.parent) (node_of nodes members i at.all) ∙ rw here at root) at

pub parent_is : (nodes : List Node) (members : List Member) (i q : ℕ) → AreNodes 0 nodes → i < length nodes → (member_at members i).node.parent ≡ Some q → nodes_of members ≡ nodes → ((node_at nodes i).parent ≡ Some q) × (q < i)
parent_is nodes members i q good lt child same =
    let named : (node_at nodes i).parent ≡ Some q = ap (λ node. node.parent) (node_of nodes members i same) ∙ child in
    (named, rw named at (good_at nodes i good lt).1)

pub step_child : (nodes : List Node) (members new : List Member) (i j q : ℕ) → AreNodes 0 nodes → i < length nodes → j ≡ i → (member_at members j).node.parent ≡ Some q → new ≡ with_joined members q j → IsJoined nodes (i + 1) members → IsJoined nodes i new
step_child nodes members new i j q good lt here child is at =
    let parent = parent_is nodes members i q good lt (rw here at child) at.all in
    rw (is, here) (joined_child nodes i q members lt parent.1 parent.0 at)

pub tree_small : (nodes : List Node) → IsTree nodes → length nodes ≤ 4000
tree_small nodes tree =
    let some = tree.1 in
    let last = (good_at nodes (length nodes - 1) tree.0 (omega arith)).0 in
    omega arith

pub few_joined : (nodes : List Node) (members : List Member) (i q : ℕ) → IsTree nodes → q < length nodes → IsJoined nodes (i + 1) members → (member_at members q).children < 4000
few_joined nodes members i q tree lt at =
    let small = tree_small nodes tree in
    let count = at.children q lt in
    let few = few_children nodes (i + 1) q in
    omega arith

-- ---- each member
