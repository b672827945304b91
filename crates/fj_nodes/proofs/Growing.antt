-- A graph that grows, and ranks that tell that it has no cycle.
use Rattle.std.specs.Prelude.{suc, Bool, slice_index, slice_set, true, ltb}
use Rattle.std.specs.List.{list_all}
use Rattle.std.proofs.Common.{ℕ, ◌≡◌, ◌<◌, ◌∙◌, inl, inr, List, [], ◌∷◌, ◌++◌, length, get_or, map, refl, sym, ap, arith}
use Rattle.std.proofs.Math.Seq.{map-set_same, get_or-append_seam}
use Rattle.std.proofs.lemmas.Bool.{cases_eq}
use Rattle.std.proofs.lemmas.Bool.Decides.{nat_tests}
use Rattle.std.proofs.lemmas.Grind.{common_steps}
use Rattle.std.proofs.lemmas.List.{map-set, map-append, get_or-map, length-map, length-set, length-append, get_or-set_same, get_or-set_other, get_or_append_left}
use Rattle.std.proofs.lemmas.List.Folds.{list_all-map, list_all_at}
use Rattle.fj_nodes.specs.declared.node.Node.{Node}
use Rattle.fj_nodes.specs.declared.node.NodeId.{NodeId}
use Rattle.fj_nodes.specs.Graphs.{AreNodes, HasInput, IsAbove, LeadsTo, graph_of, inputs_at, number_of, with_input}

-- a node with the same inputs stands for another one
pub graph_kept : (nodes : List Node) (i : ℕ) (node old : Node) → old ≡ get_or nodes i old → node.inputs.items ≡ old.inputs.items → graph_of (slice_set nodes i node) ≡ graph_of nodes
graph_kept nodes i node old at same =
    map-set_same (λ n. map number_of n.inputs.items) nodes i node old (ap (map number_of) same ∙ ap (λ n. map number_of n.inputs.items) at)

-- a node with one more input stands for it
pub graph_with : (nodes : List Node) (n : ℕ) (node old : Node) (input : NodeId) → old ≡ get_or nodes n old → n < length nodes → node.inputs.items ≡ old.inputs.items ++ input ∷ [] → graph_of (slice_set nodes n node) ≡ with_input (graph_of nodes) n input.0
graph_with nodes n node old input at lt items =
    let before : inputs_at (graph_of nodes) n ≡ map number_of old.inputs.items = get_or-map (λ n. map number_of n.inputs.items) nodes n old [] lt ∙ ap (λ n. map number_of n.inputs.items) (sym at) in
    let after : map number_of node.inputs.items ≡ inputs_at (graph_of nodes) n ++ input.0 ∷ [] = ap (map number_of) items ∙ map-append number_of old.inputs.items (input ∷ []) ∙ ap (λ xs. xs ++ input.0 ∷ []) (sym before) in
    map-set (λ n. map number_of n.inputs.items) nodes n node ∙ ap (λ xs. slice_set (graph_of nodes) n xs) after

all_below : (xs : List ℕ) (i bound : ℕ) → ((k : ℕ) → k < length xs → slice_index xs k < bound) → i < bound → (k : ℕ) → k < length (xs ++ i ∷ []) → slice_index (xs ++ i ∷ []) k < bound
all_below xs i bound each small k lt = elim (cases_eq k (length xs)) [
  | inl same ↦ rw (same, get_or-append_seam xs i [] 0) small
  | inr other ↦
      let count = length-append xs (i ∷ []) in
      let before : k < length xs = omega arith in
      rw (get_or_append_left xs (i ∷ []) 0 k before) (each k before)
]

pub nodes_with : (graph : List (List ℕ)) (n i : ℕ) → n < length graph → i < length graph → AreNodes graph → AreNodes (with_input graph n i)
nodes_with graph n i lt small nodes =
    let count : length (with_input graph n i) ≡ length graph = length-set graph n (inputs_at graph n ++ i ∷ []) in
    record {
      few = rw count nodes.few;
      inputs = λ m k. elim (cases_eq m n) [
        | inl same ↦ rw (count, same, get_or-set_same graph n (inputs_at graph n ++ i ∷ []) [] lt) (all_below (inputs_at graph n) i (length graph) (nodes.inputs n) small k)
        | inr other ↦ rw (count, get_or-set_other graph n m (inputs_at graph n ++ i ∷ []) [] other) (nodes.inputs m k)
      ];
    }

-- a node gets one more input, between two writes that leave the inputs
module _ (nodes : List Node) (n : ℕ) (input : NodeId) (first first_old second second_old third third_old : Node)
    (at_first : first_old ≡ get_or nodes input.0 first_old) (same_first : first.inputs.items ≡ first_old.inputs.items)
    (at_second : second_old ≡ get_or (slice_set nodes input.0 first) n second_old) (more_second : second.inputs.items ≡ second_old.inputs.items ++ input ∷ [])
    (at_third : third_old ≡ get_or (slice_set (slice_set nodes input.0 first) n second) input.0 third_old) (same_third : third.inputs.items ≡ third_old.inputs.items)
    (lt : n < length nodes) where
  pub grown_is : graph_of (slice_set (slice_set (slice_set nodes input.0 first) n second) input.0 third) ≡ with_input (graph_of nodes) n input.0
  grown_is =
      let count = length-set nodes input.0 first in
      let inside : n < length (slice_set nodes input.0 first) = omega arith in
      graph_kept (slice_set (slice_set nodes input.0 first) n second) input.0 third third_old at_third same_third
      ∙ graph_with (slice_set nodes input.0 first) n second second_old input at_second inside more_second
      ∙ ap (λ graph. with_input graph n input.0) (graph_kept nodes input.0 first first_old at_first same_first)

  pub grown : input.0 < length nodes → AreNodes (graph_of nodes) → AreNodes (graph_of (slice_set (slice_set (slice_set nodes input.0 first) n second) input.0 third))
  grown small are =
      let all = length-map nodes (λ node. map number_of node.inputs.items) in
      rw grown_is (nodes_with (graph_of nodes) n input.0 (omega arith) (omega arith) are)

-- ---- ranks

pub is_above : (graph : List (List ℕ)) (n : ℕ) (inputs : List NodeId) (ranks : List ℕ) (all : map number_of inputs ≡ inputs_at graph n) → list_all (λ input. ltb (slice_index ranks input.0) (slice_index ranks n)) inputs ≡ true → IsAbove (slice_index ranks) graph n
is_above graph n inputs ranks all below k lt =
    let test : ℕ → Bool = λ i. ltb (slice_index ranks i) (slice_index ranks n) in
    let each : list_all test (inputs_at graph n) ≡ true = rw (← all, list_all-map test number_of inputs) below in
    grind (arith, nat_tests, common_steps, list_all_at test (inputs_at graph n) k 0 lt)

-- ---- steps from a node to an input of it

pub leads_here : (graph : List (List ℕ)) (n : ℕ) → LeadsTo graph n n
leads_here graph n = (0, refl)

pub leads_on : (graph : List (List ℕ)) (n i m : ℕ) → LeadsTo graph n i → HasInput graph i m → LeadsTo graph n m
leads_on graph n i m so_far input = (suc so_far.0, (i, so_far.1, input))
