-- The value of a node is summed, child by child.
use Rattle.std.specs.Prelude.{Option, Some, None, IfSome}
use Rattle.std.proofs.Common.{ℕ, ◌≡◌, ◌+◌, ◌*◌, ◌%◌, ◌<◌, ◌≤◌, ◌∙◌, List, length, map, sym, ap, arith}
use Rattle.std.proofs.Math.Nat.{mod-add-mod, mod-lt, add_assoc, mul-le-mul_right}
use Rattle.fj_trees.specs.declared.node.Node.{Node}
use Rattle.fj_trees.specs.Trees.{IsTree}
use Rattle.fj_trees.specs.TreeValues.{node_at, children_from, node_value, weighted}
use Rattle.fj_trees.proofs.TreeValues.{good_at, value_combined}
use Rattle.fj_trees.specs.declared.child_sum.ChildSum.{ChildSum}
use Rattle.fj_trees.specs.Families.{IsChild, child_from}
use Rattle.fj_trees.specs.Tallies.{IsTally, from_child, numbers_from}
use Rattle.fj_trees.proofs.Children.{parent_below, children_at, first_from, from_first, fewer_behind}

weighted_child : (nodes : List Node) (i p w : ℕ) (o : Option ℕ) → i ≤ length nodes → o ≡ child_from nodes i p → ((c : ℕ) → i ≤ c → IsChild nodes p c → w ≤ c) → IfSome o (λ c. IsChild nodes p c × (w ≤ c))
weighted_child nodes i p w None le e up = tt
weighted_child nodes i p w (Some c) le e up = let first = first_from nodes i p c le (sym e) in (first.child, up c first.from first.child)

-- no child yet
pub tally_new : (nodes : List Node) (p v : ℕ) (first : Option ℕ) → IsTree nodes → p < length nodes → first ≡ child_from nodes 0 p → v ≡ (node_at nodes p).value → IsTally nodes (record { node = p; child = first; weight = 1; sum = v })
tally_new nodes p v first tree lt e own = record {
  node = lt;
  weight = omega arith;
  child = weighted_child nodes 0 p 1 first (omega arith) e (λ c le child. let below = parent_below nodes p c tree.0 child in omega arith);
  small = let good = (good_at nodes p tree.0 lt).2 in omega arith;
  value = rw (from_first nodes 0 p first (omega arith) e, own) (sym (value_combined nodes p tree.0 lt));
}

-- no child left
pub tally_done : (nodes : List Node) (t : ChildSum) → IsTally nodes t → t.child ≡ None → t.sum ≡ node_value nodes t.node
tally_done nodes t tally is =
    let all : (t.sum + 0) % 1000000007 ≡ node_value nodes t.node = rw is at tally.value in
    let small = tally.small in
    omega arith

one_more : (a k v r whole : ℕ) → (a + (k * v + r)) % 1000000007 ≡ whole → ((a + k * v) % 1000000007 + r) % 1000000007 ≡ whole
one_more a k v r whole e = mod-add-mod (a + k * v) 1000000007 r ∙ ap (λ n. n % 1000000007) (add_assoc a (k * v) r) ∙ e

-- one child more
pub tally_more : (nodes : List Node) (t : ChildSum) (c v w s : ℕ) (next : Option ℕ) → IsTally nodes t → t.child ≡ Some c → v ≡ node_value nodes c → ((p : ℕ) → (node_at nodes c).parent ≡ Some p → next ≡ child_from nodes (c + 1) p) → w ≡ t.weight + 1
    → s ≡ (t.sum + t.weight * v) % 1000000007 → IsTally nodes (record { node = t.node; child = next; weight = w; sum = s })
tally_more nodes t c v w s next tally is value behind more sum =
    let child : IsChild nodes t.node c × (t.weight ≤ c) = rw is at tally.child in
    let lt = child.0.0 in
    let le = child.1 in
    let e = behind t.node child.0.1 in
    let all : (t.sum + weighted t.weight (map (node_value nodes) (from_child nodes t.node (Some c)))) % 1000000007 ≡ node_value nodes t.node = rw is at tally.value in
    let here : (t.sum + (t.weight * node_value nodes c + weighted (t.weight + 1) (map (node_value nodes) (children_from nodes (c + 1) t.node)))) % 1000000007 ≡ node_value nodes t.node = rw (children_at nodes t.node c child.0) at all in
    record {
      node = tally.node;
      weight = omega arith;
      child = weighted_child nodes (c + 1) t.node w next (omega arith) e (λ d up other. omega arith);
      small = rw sum (mod-lt (t.sum + t.weight * v) (omega arith));
      value = rw (from_first nodes (c + 1) t.node next (omega arith) e, sum, more, value) (one_more _ _ _ _ _ here);
    }

-- a weight is small, and so is what a value comes to with it
pub weight_small : (nodes : List Node) (t : ChildSum) (c : ℕ) → IsTree nodes → IsTally nodes t → t.child ≡ Some c → t.weight < 4000
weight_small nodes t c tree tally is =
    let child : IsChild nodes t.node c × (t.weight ≤ c) = rw is at tally.child in
    let few = (good_at nodes c tree.0 child.0.0).0 in
    let le = child.1 in
    omega arith

pub product_small : (k v : ℕ) → k < 4000 → v < 1000000007 → k * v ≤ 4000 * 1000000007
product_small k v few small =
    let more : k * v ≤ 4000 * v = mul-le-mul_right v (omega arith) in
    omega arith

-- behind it the next child of the same node comes
pub next_after : (nodes : List Node) (t : ChildSum) (c : ℕ) (next : Option ℕ) → IsTally nodes t → t.child ≡ Some c → ((p : ℕ) → (node_at nodes c).parent ≡ Some p → next ≡ child_from nodes (c + 1) p)
    → next ≡ child_from nodes (c + 1) t.node
next_after nodes t c next tally is behind =
    let child : IsChild nodes t.node c × (t.weight ≤ c) = rw is at tally.child in
    behind t.node child.0.1

-- behind it fewer are left
pub fewer_left : (nodes : List Node) (t : ChildSum) (c : ℕ) (next : Option ℕ) → IsTally nodes t → t.child ≡ Some c → ((p : ℕ) → (node_at nodes c).parent ≡ Some p → next ≡ child_from nodes (c + 1) p)
    → numbers_from (length nodes) next < numbers_from (length nodes) t.child
fewer_left nodes t c next tally is behind =
    let child : IsChild nodes t.node c × (t.weight ≤ c) = rw is at tally.child in
    rw is (fewer_behind nodes t.node c next child.0 (behind t.node child.0.1))
