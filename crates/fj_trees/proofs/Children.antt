-- The children of a node, one after another.
use Rattle.std.specs.Prelude.{Option, Some, None, IfSome, slice_get}
use Rattle.std.proofs.Common.{ℕ, zero, suc, ◌≡◌, ◌+◌, ◌-◌, ◌<◌, ◌≤◌, ◌∙◌, Bool, true, false, cond, List, [], ◌∷◌, length, refl, sym, ap, arith}
use Rattle.std.specs.List.{filter, range_with_len}
use Rattle.std.proofs.lemmas.Bool.{eq-eqb}
use Rattle.std.proofs.lemmas.Bool.Decides.{nat_tests}
use Rattle.fj_trees.specs.declared.node.Node.{Node}
use Rattle.fj_trees.specs.Trees.{AreNodes}
use Rattle.fj_trees.specs.TreeValues.{node_at, names, children_from}
use Rattle.fj_trees.proofs.TreeValues.{children_step, children_end, good_at}
use Rattle.fj_trees.specs.Families.{IsChild, child_from}
use Rattle.fj_trees.specs.Tallies.{from_child, numbers_from}

-- ---- whose child a node is

named_parent : (p : ℕ) (parent : Option ℕ) → names p parent ≡ true → parent ≡ Some p
named_parent p None named = absurd cc
named_parent p (Some q) named = let same : q ≡ p = grind (arith, nat_tests) in ap Some same

parent_named : (p : ℕ) (parent : Option ℕ) → parent ≡ Some p → names p parent ≡ true
parent_named p parent e = rw (e, eq-eqb p p refl) refl

-- a parent has a smaller number
pub parent_below : (nodes : List Node) (p c : ℕ) → AreNodes 0 nodes → IsChild nodes p c → p < c
parent_below nodes p c good child = let at = (good_at nodes c good child.0).1 in rw child.1 at at

-- a child, and the children behind it
pub children_at : (nodes : List Node) (p c : ℕ) → IsChild nodes p c → children_from nodes c p ≡ c ∷ children_from nodes (c + 1) p
children_at nodes p c child = children_step nodes c p child.0 ∙ rw (parent_named p (node_at nodes c).parent child.1) refl

-- ---- the first one

-- c is the first child of p from number i on
pub record IsFirst (nodes : List Node) (i p c : ℕ) : Type 0 where
  pub from : i ≤ c
  pub child : IsChild nodes p c
  pub same : children_from nodes i p ≡ children_from nodes c p

first_within : (nodes : List Node) (k i p c : ℕ) → i + k ≡ length nodes → child_from nodes i p ≡ Some c → IsFirst nodes i p c
first_within nodes zero i p c all e =
    let none : child_from nodes i p ≡ None = ap (λ cs. slice_get cs 0) (children_end nodes i p (omega arith)) in
    absurd cc
first_within nodes (suc k) i p c all e =
    let lt : i < length nodes = omega arith in
    go lt (first_within nodes k (i + 1) p c (omega arith)) (names p (node_at nodes i).parent) refl
  where
    go : i < length nodes → (child_from nodes (i + 1) p ≡ Some c → IsFirst nodes (i + 1) p c) → (t : Bool) → names p (node_at nodes i).parent ≡ t → IsFirst nodes i p c
    go lt later true is =
        let child : IsChild nodes p i = (lt, named_parent p (node_at nodes i).parent is) in
        let first : child_from nodes i p ≡ Some i = ap (λ cs. slice_get cs 0) (children_at nodes p i child) in
        let same : i ≡ c = cc in
        record { from = omega arith; child = rw same at child; same = ap (λ j. children_from nodes j p) same }
    go lt later false is =
        let step : children_from nodes i p ≡ children_from nodes (i + 1) p = children_step nodes i p lt ∙ rw is refl in
        let behind = later (ap (λ cs. slice_get cs 0) (sym step) ∙ e) in
        record { from = (let up = behind.from in omega arith); child = behind.child; same = step ∙ behind.same }

pub first_from : (nodes : List Node) (i p c : ℕ) → i ≤ length nodes → child_from nodes i p ≡ Some c → IsFirst nodes i p c
first_from nodes i p c le e = first_within nodes (length nodes - i) i p c (omega arith) e

-- it is a child
pub first_child : (nodes : List Node) (i p : ℕ) (o : Option ℕ) → i ≤ length nodes → o ≡ child_from nodes i p → IfSome o (λ c. IsChild nodes p c)
first_child nodes i p None le e = tt
first_child nodes i p (Some c) le e = (first_from nodes i p c le (sym e)).child

nothing : (cs : List ℕ) → slice_get cs 0 ≡ None → cs ≡ []
nothing [] e = refl
nothing (c ∷ cs) e = absurd cc

-- from it on they are all there
pub from_first : (nodes : List Node) (i p : ℕ) (o : Option ℕ) → i ≤ length nodes → o ≡ child_from nodes i p → from_child nodes p o ≡ children_from nodes i p
from_first nodes i p None le e = sym (nothing (children_from nodes i p) (sym e))
from_first nodes i p (Some c) le e = sym (first_from nodes i p c le (sym e)).same

-- behind a child fewer numbers are left
pub fewer_behind : (nodes : List Node) (p c : ℕ) (o : Option ℕ) → IsChild nodes p c → o ≡ child_from nodes (c + 1) p → numbers_from (length nodes) o < length nodes - c
fewer_behind nodes p c None child e = let lt = child.0 in omega arith
fewer_behind nodes p c (Some d) child e =
    let lt = child.0 in
    let first = first_from nodes (c + 1) p d (omega arith) (sym e) in
    let up = first.from in
    let within = first.child.0 in
    omega arith

-- ---- how many they are

few_filtered : (test : ℕ → Bool) (a n : ℕ) → length (filter test (range_with_len a n)) ≤ n
few_filtered test a zero = omega arith
few_filtered test a (suc n) = let few = few_filtered test (a + 1) n in go few (test a)
  where
    go : length (filter test (range_with_len (a + 1) n)) ≤ n → (t : Bool) → length (cond t (a ∷ filter test (range_with_len (a + 1) n)) (filter test (range_with_len (a + 1) n))) ≤ suc n
    go few true = omega arith
    go few false = omega arith

pub few_children : (nodes : List Node) (i p : ℕ) → length (children_from nodes i p) ≤ length nodes - i
few_children nodes i p = few_filtered (λ c. names p (node_at nodes c).parent) i (length nodes - i)
