-- The bytes of a tree, read one after another.
use Rattle.std.specs.Prelude.{Option, Some, None}
use Rattle.std.proofs.Common.{ℕ, zero, suc, ◌≡◌, ◌≢◌, ◌+◌, ◌<◌, ◌≤◌, ◌∙◌, ◌⊎◌, inl, inr, List, [], ◌∷◌, ◌++◌, length, take, drop, get_or, refl, sym, ap, arith, length-append, append_assoc, add-one}
use Rattle.std.proofs.lemmas.List.{append-nil}
use Rattle.std.proofs.Math.Seq.{take-suc}
use Rattle.std.specs.Fmt.{decimal}
use Rattle.std.proofs.lemmas.Fmt.{length-decimal-le}
use Rattle.fj_lines.specs.Lines.{parent_word}
use Rattle.fj_trees.specs.declared.node.Node.{Node}
use Rattle.fj_trees.specs.declared.tree_fault.TreeFault.{TreeFault}
use Rattle.fj_trees.specs.declared.tree_fault.TreeFault.TheVariants.{Line, Memory, Read}
use Rattle.fj_trees.specs.Separators.{Without}
use Rattle.fj_trees.specs.Trees.{HasParentAt, IsNodeAt, AreNodes, IsNoNode, BeginsWithNoNode, FaultOf, node_line, tree_text}
use Rattle.fj_trees.specs.TreeReaders.{Kept, IsAt, Goes, FaultAt}
use Rattle.fj_trees.proofs.Splits.{split_same, split_behind, uncut, cut_at}
use Rattle.fj_trees.proofs.NodeLines.{number_without, parent_without}

-- ---- one node more

pub nodes_more : (i : ℕ) (nodes : List Node) (node : Node) → AreNodes i nodes → IsNodeAt (i + length nodes) node → AreNodes i (nodes ++ node ∷ [])
nodes_more i [] node good at = let e : i + 0 ≡ i = omega arith in (rw e at at, tt)
nodes_more i (first ∷ nodes) node good at =
    let e : i + length (first ∷ nodes) ≡ (i + 1) + length nodes = omega arith in
    (good.0, nodes_more (i + 1) nodes node good.1 (rw e at at))

text_more : (nodes : List Node) (node : Node) → tree_text (nodes ++ node ∷ []) ≡ tree_text nodes ++ (node_line node ++ 10 ∷ [])
text_more [] node = refl
text_more (first ∷ nodes) node =
    ap (λ l. node_line first ++ 10 ∷ l) (text_more nodes node)
    ∙ sym (append_assoc (node_line first) (10 ∷ tree_text nodes) (node_line node ++ 10 ∷ []))

-- ---- separators and lengths

without_more : (s x : ℕ) (xs : List ℕ) → Without s xs → x ≢ s → Without s (xs ++ x ∷ [])
without_more s x [] w other zero lt = other
without_more s x [] w other (suc i) lt = absurd (omega (arith, lt))
without_more s x (y ∷ xs) w other zero lt = w 0 (omega arith)
without_more s x (y ∷ xs) w other (suc i) lt = without_more s x xs (λ k small. w (suc k) (omega (arith, small))) other i (omega (arith, lt))

without-append : (s : ℕ) (xs ys : List ℕ) → Without s xs → Without s ys → Without s (xs ++ ys)
without-append s [] ys w z i lt = z i lt
without-append s (x ∷ xs) ys w z zero lt = w 0 (omega arith)
without-append s (x ∷ xs) ys w z (suc i) lt = without-append s xs ys (λ k small. w (suc k) (omega (arith, small))) z i (omega (arith, lt))

without_first : (s x : ℕ) (xs : List ℕ) → x ≢ s → Without s xs → Without s (x ∷ xs)
without_first s x xs other w zero lt = other
without_first s x xs other w (suc i) lt = w i (omega (arith, lt))

line_without : (s i : ℕ) (node : Node) → s < 32 → IsNodeAt i node → Without s (node_line node)
line_without s i node low at =
    without-append s (parent_word node.parent) (32 ∷ decimal node.value)
    (parent_without s i node.parent (omega arith) at.0 at.1)
    (without_first s 32 (decimal node.value) (λ e. omega (arith, e)) (number_without s node.value (omega arith) (omega (arith, at.2))))

parent_short : (i : ℕ) (p : Option ℕ) → i < 4000 → HasParentAt i p → length (parent_word p) ≤ 4
parent_short i None few has = omega arith
parent_short i (Some p) few has = length-decimal-le 4 p (omega arith) (omega (arith, has)) (omega (arith, has))

line_short : (i : ℕ) (node : Node) → IsNodeAt i node → length (node_line node) < 64
line_short i node at =
    let first = parent_short i node.parent at.0 at.1 in
    let second : length (decimal node.value) ≤ 10 = length-decimal-le 10 node.value (omega arith) (omega (arith, at.2)) (omega (arith, at.2)) in
    let all = length-append (parent_word node.parent) (32 ∷ decimal node.value) in
    omega arith

-- ---- one byte more

at_more : (b : List ℕ) (x : ℕ) (v next : Kept) → IsAt b v → Goes v x next → IsAt (b ++ x ∷ []) next
at_more b x v next at (inl ended) = record {
  bytes = rw (at.bytes, ended.0, ended.1.2, ended.1.3, ended.1.4, text_more v.nodes ended.1.0, append-nil) (append_assoc (tree_text v.nodes) (node_line ended.1.0) (10 ∷ []));
  good = rw ended.1.3 (nodes_more 0 v.nodes ended.1.0 at.good (let e : 0 + length v.nodes ≡ length v.nodes = omega arith in rw e ended.1.1));
  unended = rw ended.1.4 (λ i lt. absurd (omega (arith, lt)));
}
at_more b x v next at (inr went) = record {
  bytes = rw (at.bytes, went.1, went.2) (append_assoc (tree_text v.nodes) v.line (x ∷ []));
  good = rw went.1 at.good;
  unended = rw went.2 (without_more 10 x v.line at.unended went.0);
}

no_line_ahead : (v : Kept) (x : ℕ) (after : List ℕ) → Without 10 v.line → (4000 ≤ length v.nodes) ⊎ ((x ≡ 10) × IsNoNode (length v.nodes) v.line) ⊎ ((x ≢ 10) × (64 ≤ length v.line)) → BeginsWithNoNode (length v.nodes) (v.line ++ x ∷ after)
no_line_ahead v x after w (inl full) node at behind e = omega (arith, at.0)
no_line_ahead v x after w (inr (inl none)) node at behind e =
    let here : v.line ++ 10 ∷ after ≡ node_line node ++ 10 ∷ behind = rw none.0 at e in
    none.1 node at (split_same 10 v.line (node_line node) after behind w (line_without 10 _ node (omega arith) at) here).0
no_line_ahead v x after w (inr (inr long)) node at behind e =
    let up = split_behind 10 v.line (x ∷ after) (node_line node) behind w e in
    let short = line_short _ node at in
    omega (arith, long.1)

not_nothing : (xs ys : List ℕ) (x : ℕ) → xs ++ x ∷ ys ≢ []
not_nothing [] ys x e = absurd cc
not_nothing (y ∷ xs) ys x e = absurd cc

fault_at : (fault : TreeFault) (b : List ℕ) (v : Kept) (x : ℕ) (after : List ℕ) → IsAt b v → FaultAt fault v x → FaultOf fault (b ++ x ∷ after)
fault_at (Line n) b v x after at says = record {
  nodes = v.nodes;
  behind = v.line ++ x ∷ after;
  input = rw at.bytes (append_assoc (tree_text v.nodes) v.line (x ∷ after));
  good = at.good;
  number = says.0;
  faulty = no_line_ahead v x after at.unended says.1;
  missing = λ e. absurd (not_nothing v.line after x e);
}
fault_at Memory b v x after at says = tt
fault_at Read b v x after at says = absurd says

-- ---- one byte of many

one_more : (b xs : List ℕ) (i : ℕ) → i < length xs → b ++ take (i + 1) xs ≡ (b ++ take i xs) ++ get_or xs i 0 ∷ []
one_more b xs i h = rw (add-one, take-suc xs i 0 h) (sym (append_assoc b (take i xs) (get_or xs i 0 ∷ [])))

pub at_next : (b xs : List ℕ) (i : ℕ) (v next : Kept) → i < length xs → IsAt (b ++ take i xs) v → Goes v (get_or xs i 0) next → IsAt (b ++ take (i + 1) xs) next
at_next b xs i v next h at goes = rw (one_more b xs i h) (at_more (b ++ take i xs) (get_or xs i 0) v next at goes)

and_rest : (b xs after : List ℕ) (i : ℕ) → i < length xs → b ++ xs ++ after ≡ (b ++ take i xs) ++ (get_or xs i 0 ∷ (drop (i + 1) xs ++ after))
and_rest b xs after i h =
    let whole : xs ≡ take i xs ++ (get_or xs i 0 ∷ drop (i + 1) xs) = cut_at (get_or xs i 0) xs i h refl in
    append_assoc b xs after
    ∙ ap (λ l. b ++ (l ++ after)) whole
    ∙ ap (λ l. b ++ l) (append_assoc (take i xs) (get_or xs i 0 ∷ drop (i + 1) xs) after)
    ∙ sym (append_assoc b (take i xs) (get_or xs i 0 ∷ (drop (i + 1) xs ++ after)))

pub fault_next : (fault : TreeFault) (b xs after : List ℕ) (i : ℕ) (v : Kept) → i < length xs → IsAt (b ++ take i xs) v → FaultAt fault v (get_or xs i 0) → FaultOf fault (b ++ xs ++ after)
fault_next fault b xs after i v h at says = rw (and_rest b xs after i h) (fault_at fault (b ++ take i xs) v (get_or xs i 0) (drop (i + 1) xs ++ after) at says)

-- ---- the end of the input

cut_short : (n : ℕ) (b : List ℕ) (v : Kept) → n ≡ length v.nodes + 1 → (v.line ≡ [] → v.nodes ≡ []) → IsAt b v → FaultOf (Line n) b
cut_short n b v number missing at = record {
  nodes = v.nodes;
  behind = v.line;
  input = at.bytes;
  good = at.good;
  number = number;
  faulty = λ node is after e. uncut 10 v.line (node_line node) after at.unended e;
  missing = missing;
}

pub ends_within : (fault : TreeFault) (b : List ℕ) (v : Kept) → fault ≡ Line (length v.nodes + 1) → v.line ≢ [] → IsAt b v → FaultOf fault b
ends_within fault b v is more at = rw is (cut_short (length v.nodes + 1) b v refl (λ e. absurd (more e)) at)
