-- The values of the nodes of a tree.
use Rattle.std.specs.Prelude.{Option, Some, None}
use Rattle.std.proofs.Common.{ℕ, zero, suc, ◌≡◌, ◌≢◌, ◌+◌, ◌-◌, ◌<◌, ◌≤◌, ◌∙◌, Bool, true, false, cond, List, [], ◌∷◌, length, map, refl, arith}
use Rattle.std.proofs.lemmas.Bool.Decides.{nat_tests}
use Rattle.std.specs.List.{AllByRecursion, filter, range_with_len}
use Rattle.fj_trees.specs.declared.node.Node.{Node}
use Rattle.fj_trees.specs.Trees.{HasParentAt, IsNodeAt, AreNodes}
use Rattle.fj_trees.specs.TreeValues.{node_at, names, children_from, children, combined_value, value_within, node_value}

-- ---- a node's parent is an earlier node

node_good : (i : ℕ) (nodes : List Node) (c : ℕ) → AreNodes i nodes → c < length nodes → IsNodeAt (i + c) (node_at nodes c)
node_good i [] c good lt = absurd (omega (arith, lt))
node_good i (node ∷ nodes) zero good lt = let e : i + 0 ≡ i = omega arith in rw e good.0
node_good i (node ∷ nodes) (suc c) good lt =
    let e : i + suc c ≡ (i + 1) + c = omega arith in
    rw e (node_good (i + 1) nodes c good.1 (omega (arith, lt)))

pub good_at : (nodes : List Node) (c : ℕ) → AreNodes 0 nodes → c < length nodes → IsNodeAt c (node_at nodes c)
good_at nodes c good lt = let e : 0 + c ≡ c = omega arith in rw e at (node_good 0 nodes c good lt)

named_earlier : (p c : ℕ) (parent : Option ℕ) → HasParentAt c parent → names p parent ≡ true → p < c
named_earlier p c None has named = absurd cc
named_earlier p c (Some q) has named = let same : p ≡ q = grind (arith, nat_tests) in omega (arith, has)

names_later : (p c : ℕ) (parent : Option ℕ) → HasParentAt c parent → c ≤ p → names p parent ≡ false
names_later p c None has le = refl
names_later p c (Some q) has le = let other : p ≢ q = (λ e. omega (arith, has, e)) in grind (arith, nat_tests)

-- ---- children

pub children_step : (nodes : List Node) (i p : ℕ) → i < length nodes → children_from nodes i p ≡ cond (names p (node_at nodes i).parent) (i ∷ children_from nodes (i + 1) p) (children_from nodes (i + 1) p)
children_step nodes i p lt =
    let e : length nodes - i ≡ suc (length nodes - (i + 1)) = omega arith in
    rw e refl

pub children_end : (nodes : List Node) (i p : ℕ) → length nodes ≤ i → children_from nodes i p ≡ []
children_end nodes i p le = let e : length nodes - i ≡ 0 = omega arith in rw e refl

-- the nodes up to i have other parents
skip : (nodes : List Node) (k j i : ℕ) → AreNodes 0 nodes → i < length nodes → j + k ≤ i + 1 → children_from nodes j i ≡ children_from nodes (j + k) i
skip nodes zero j i good lt le = let e : j + 0 ≡ j = omega arith in rw e refl
skip nodes (suc k) j i good lt le =
    let e : j + suc k ≡ (j + 1) + k = omega arith in
    let no : names i (node_at nodes j).parent ≡ false = names_later i j (node_at nodes j).parent (good_at nodes j good (omega arith)).1 (omega arith) in
    children_step nodes j i (omega arith) ∙ rw (no, e) (skip nodes k (j + 1) i good lt (omega arith))

-- all children of a node are later ones
pub children_later : (nodes : List Node) (i : ℕ) → AreNodes 0 nodes → i < length nodes → children nodes i ≡ children_from nodes (i + 1) i
children_later nodes i good lt = let e : 0 + (i + 1) ≡ i + 1 = omega arith in skip nodes (i + 1) 0 i good lt (omega arith) ∙ rw e refl

filter_all : (test : ℕ → Bool) (P : ℕ → Type 0) (a n : ℕ) → ((c : ℕ) → a ≤ c → c < a + n → test c ≡ true → P c) → AllByRecursion P (filter test (range_with_len a n))
filter_all test P a zero all = tt
filter_all test P a (suc n) all =
    let later = filter_all test P (a + 1) n (λ c low high passes. all c (omega arith) (omega arith) passes) in
    go (test a) refl later
  where
    go : (t : Bool) → test a ≡ t → AllByRecursion P (filter test (range_with_len (a + 1) n)) → AllByRecursion P (cond t (a ∷ filter test (range_with_len (a + 1) n)) (filter test (range_with_len (a + 1) n)))
    go true e later = (all a (omega arith) (omega arith) e, later)
    go false e later = later

-- ---- values

map_same : (f g : ℕ → ℕ) (xs : List ℕ) → AllByRecursion (λ c. f c ≡ g c) xs → map f xs ≡ map g xs
map_same f g [] same = refl
map_same f g (x ∷ xs) same = rw (same.0, map_same f g xs same.1) refl

-- so many generations suffice
stable : (nodes : List Node) (d e i : ℕ) → AreNodes 0 nodes → i < length nodes → length nodes ≤ d + i → length nodes ≤ e + i → value_within nodes d i ≡ value_within nodes e i
stable nodes zero e i good lt few other = absurd (omega arith)
stable nodes (suc d) zero i good lt few other = absurd (omega arith)
stable nodes (suc d) (suc e) i good lt few other =
    let same : AllByRecursion (λ c. value_within nodes d c ≡ value_within nodes e c) (children nodes i) =
    filter_all (λ c. names i (node_at nodes c).parent) (λ c. value_within nodes d c ≡ value_within nodes e c) 0 (length nodes - 0) (λ c low high named.
    let within : c < length nodes = omega arith in
    let earlier : i < c = named_earlier i c (node_at nodes c).parent (good_at nodes c good within).1 named in
    stable nodes d e c good within (omega arith) (omega arith)) in
    rw (map_same (value_within nodes d) (value_within nodes e) (children nodes i) same) refl

-- a value is combined from those of the children
pub value_combined : (nodes : List Node) (i : ℕ) → AreNodes 0 nodes → i < length nodes → node_value nodes i ≡ combined_value nodes (node_value nodes) i
value_combined nodes i good lt = stable nodes (length nodes) (suc (length nodes)) i good lt (omega arith) (omega arith)
