-- The sums over the children of each node, the last node first.
use Rattle.std.specs.Prelude.{Some, None, slice_set}
use Rattle.std.proofs.Common.{ℕ, ◌≡◌, ◌≢◌, ◌+◌, ◌-◌, ◌*◌, ◌%◌, ◌<◌, ◌≤◌, ◌∙◌, inl, inr, List, [], ◌∷◌, length, map, slice_index, refl, sym, ap, arith}
use Rattle.std.proofs.Math.Nat.{add-mul}
use Rattle.std.proofs.lemmas.Bool.{cases_eq, eq-eqb, ne_eqb}
use Rattle.std.proofs.lemmas.List.{get_or-set_same, get_or-set_other, length-set}
use Rattle.fj_trees.specs.declared.node.Node.{Node}
use Rattle.fj_trees.specs.Trees.{AreNodes, IsNodeAt}
use Rattle.fj_trees.specs.TreeValues.{AreValues, node_at, children_from, children, weighted, node_value}
use Rattle.fj_trees.specs.TreeSums.{IsSummed, total}
use Rattle.fj_trees.proofs.TreeValues.{children_step, children_later, good_at, value_combined}

-- weights one larger add the plain sum
weighted_more : (k : ℕ) (vs : List ℕ) → weighted (k + 1) vs ≡ weighted k vs + total vs
weighted_more k [] = refl
weighted_more k (v ∷ vs) =
    let later = weighted_more (k + 1) vs in
    let product : (k + 1) * v ≡ k * v + 1 * v = add-mul k 1 v in
    omega arith

-- the value of the node before those that were summed
pub summed_value : (nodes : List Node) (i : ℕ) (vs ps ws : List ℕ) → AreNodes 0 nodes → i < length nodes → IsSummed nodes (i + 1) vs ps ws → ((node_at nodes i).value + slice_index ws i) % 1000000007 ≡ node_value nodes i
summed_value nodes i vs ps ws good lt at =
    let weight : slice_index ws i ≡ weighted 1 (map (node_value nodes) (children nodes i)) % 1000000007 = at.weights i lt ∙ ap (λ cs. weighted 1 (map (node_value nodes) cs) % 1000000007) (sym (children_later nodes i good lt)) in
    let value : node_value nodes i ≡ ((node_at nodes i).value + weighted 1 (map (node_value nodes) (children nodes i))) % 1000000007 = value_combined nodes i good lt in
    omega arith

value_kept : (nodes : List Node) (i v : ℕ) (vs : List ℕ) → length vs ≡ length nodes → i < length nodes → v ≡ node_value nodes i → ((k : ℕ) → i + 1 ≤ k → k < length nodes → slice_index vs k ≡ node_value nodes k)
    → (k : ℕ) → i ≤ k → k < length nodes → slice_index (slice_set vs i v) k ≡ node_value nodes k
value_kept nodes i v vs all lt is values k le within = elim (cases_eq k i) [
  | inl same ↦ rw same (get_or-set_same vs i v 0 (omega arith) ∙ is)
  | inr other ↦ get_or-set_other vs i k v 0 other ∙ values k (omega arith) within
]

-- a root is no node's child
pub summed_root : (nodes : List Node) (i v : ℕ) (vs ps ws : List ℕ) → i < length nodes → (node_at nodes i).parent ≡ None → v ≡ node_value nodes i → IsSummed nodes (i + 1) vs ps ws → IsSummed nodes i (slice_set vs i v) ps ws
summed_root nodes i v vs ps ws lt root is at =
    let same : (p : ℕ) → children_from nodes i p ≡ children_from nodes (i + 1) p = λ p. children_step nodes i p lt ∙ rw root refl in
    record {
      all = (length-set vs i v ∙ at.all.0, at.all.1, at.all.2);
      values = value_kept nodes i v vs at.all.0 lt is at.values;
      plain = λ p within. rw (same p) (at.plain p within);
      weights = λ p within. rw (same p) (at.weights p within);
    }

-- any other node is a child of its parent, before those that were summed
pub summed_child : (nodes : List Node) (i v q : ℕ) (vs ps ws : List ℕ) → i < length nodes → q < length nodes → (node_at nodes i).parent ≡ Some q → v ≡ node_value nodes i → IsSummed nodes (i + 1) vs ps ws
    → IsSummed nodes i (slice_set vs i v) (slice_set ps q ((slice_index ps q + v) % 1000000007)) (slice_set ws q ((slice_index ws q + (slice_index ps q + v) % 1000000007) % 1000000007))
summed_child nodes i v q vs ps ws lt has child is at =
    let mine : children_from nodes i q ≡ i ∷ children_from nodes (i + 1) q = children_step nodes i q lt ∙ rw (child, eq-eqb q q refl) refl in
    let others : (p : ℕ) → p ≢ q → children_from nodes i p ≡ children_from nodes (i + 1) p = λ p other. children_step nodes i p lt ∙ rw (child, ne_eqb p q other) refl in
    let later = map (node_value nodes) (children_from nodes (i + 1) q) in
    let plain : slice_index ps q ≡ total later % 1000000007 = at.plain q has in
    let weight : slice_index ws q ≡ weighted 1 later % 1000000007 = at.weights q has in
    let more : weighted (1 + 1) later ≡ weighted 1 later + total later = weighted_more 1 later in
    record {
      all = (length-set vs i v ∙ at.all.0, length-set ps q _ ∙ at.all.1, length-set ws q _ ∙ at.all.2);
      values = value_kept nodes i v vs at.all.0 lt is at.values;
      plain = λ p within. elim (cases_eq p q) [
        | inl same ↦ rw (same, mine) (get_or-set_same ps q _ 0 (let l = at.all.1 in omega arith) ∙ (let new : (slice_index ps q + v) % 1000000007 ≡ (node_value nodes i + total later) % 1000000007 = omega arith in new))
        | inr other ↦ rw (others p other) (get_or-set_other ps q p _ 0 other ∙ at.plain p within)
      ];
      weights = λ p within. elim (cases_eq p q) [
        | inl same ↦ rw (same, mine) (get_or-set_same ws q _ 0 (let l = at.all.2 in omega arith) ∙ (let new : (slice_index ws q + (slice_index ps q + v) % 1000000007) % 1000000007 ≡ (1 * node_value nodes i + weighted (1 + 1) later) % 1000000007 = omega arith in new))
        | inr other ↦ rw (others p other) (get_or-set_other ws q p _ 0 other ∙ at.weights p within)
      ];
    }

pub summed_all : (nodes : List Node) (i : ℕ) (vs ps ws : List ℕ) → AreNodes 0 nodes → i ≡ 0 → IsSummed nodes i vs ps ws → AreValues nodes vs
summed_all nodes i vs ps ws good first at = record {
  all = at.all.0;
  each = λ k lt. at.values k (omega arith) lt;
  combined = λ k lt. value_combined nodes k good lt;
}

parent_at : (nodes : List Node) (i q : ℕ) → AreNodes 0 nodes → i < length nodes → (node_at nodes i).parent ≡ Some q → q < i
parent_at nodes i q good lt named = rw named at (good_at nodes i good lt).1

-- the sums of the parent of a node are among the others
pub parent_inside : (node : Node) (count done n q : ℕ) (sums lent : List ℕ) → IsNodeAt (count - 1 - done) node → node.parent ≡ Some q → done < count → count ≡ n → length sums ≡ n → lent ≡ sums → q < length lent
parent_inside node count done n q sums lent at child more same all is =
    let earlier : q < count - 1 - done = rw child at at.1 in
    rw is (omega arith)

-- the same, as the code computes it
pub step_root : (nodes : List Node) (node : Node) (i j v a b : ℕ) (vs ps ws : List ℕ) → AreNodes 0 nodes → i < length nodes → j ≡ i → node ≡ node_at nodes i → node.parent ≡ None
    → v ≡ (a + b) % 1000000007 → a ≡ node.value → b ≡ slice_index ws j → IsSummed nodes (i + 1) vs ps ws → IsSummed nodes i (slice_set vs j v) ps ws
step_root nodes node i j v a b vs ps ws good lt here is root sum_is first second at =
    let value : v ≡ node_value nodes i = sum_is ∙ rw (first, second, here, is) (summed_value nodes i vs ps ws good lt at) in
    rw here (summed_root nodes i v vs ps ws lt (rw is at root) value at)

pub step_child : (nodes : List Node) (node : Node) (i j v a b q : ℕ) (vs ps ws pa wa pb wb : List ℕ) → AreNodes 0 nodes → i < length nodes → j ≡ i → node ≡ node_at nodes i → node.parent ≡ Some q
    → v ≡ (a + b) % 1000000007 → a ≡ node.value → b ≡ slice_index ws j → pa ≡ ps → wa ≡ ws
    → pb ≡ slice_set pa q ((slice_index pa q + v) % 1000000007) → wb ≡ slice_set wa q ((slice_index wa q + (slice_index pa q + v) % 1000000007) % 1000000007)
    → IsSummed nodes (i + 1) vs ps ws → IsSummed nodes i (slice_set vs j v) pb wb
step_child nodes node i j v a b q vs ps ws pa wa pb wb good lt here is child sum_is first second pold wold pnew wnew at =
    let value : v ≡ node_value nodes i = sum_is ∙ rw (first, second, here, is) (summed_value nodes i vs ps ws good lt at) in
    let named : (node_at nodes i).parent ≡ Some q = rw is at child in
    let earlier : q < length nodes = (let has = parent_at nodes i q good lt named in omega arith) in
    rw (here, pnew, wnew, pold, wold) (summed_child nodes i v q vs ps ws lt earlier named value at)
