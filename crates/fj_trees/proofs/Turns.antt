-- Bodies come nearer to their end.
use Rattle.std.specs.Prelude.{Option, Some, IfSome}
use Rattle.fj_trees.specs.declared.node.Node.{Node}
use Rattle.fj_trees.specs.TreeValues.{node_at}
use Rattle.fj_trees.specs.declared.child_sum.ChildSum.{ChildSum}
use Rattle.fj_trees.specs.declared.fold_progress.FoldStage.{FoldStage}
use Rattle.fj_trees.specs.declared.fold_progress.FoldProgress.{FoldProgress}
use Rattle.fj_trees.specs.Families.{IsChild, child_from}
use Rattle.fj_trees.specs.Tallies.{IsTally, numbers_from}
use Rattle.fj_trees.specs.Courses.{IsCourse}
use Rattle.fj_trees.proofs.Children.{first_child, fewer_behind}
use Rattle.std.proofs.Common.{ℕ, ◌≡◌, ◌+◌, ◌<◌, List, length, arith}

-- ---- courses

pub course_new : (ns nodes : List Node) (stage : FoldStage) (t : ChildSum) (p : ℕ) (next : Option ℕ) → ns ≡ nodes → IsTally ns t → t.node ≡ p → next ≡ child_from ns 0 p → IsCourse nodes (record { stage = stage; next = next; tally = t })
course_new ns nodes stage t p next same tally here first = record {
  tally = rw same at tally;
  next = rw here (first_child nodes 0 p next (omega arith) (rw same at first));
}

-- the next child is one too
next_child : (nodes : List Node) (p c : ℕ) (next : Option ℕ) → IsChild nodes p c → ((q : ℕ) → (node_at nodes c).parent ≡ Some q → next ≡ child_from nodes (c + 1) q) → IfSome next (λ d. IsChild nodes p d)
next_child nodes p c next child behind = let lt = child.0 in first_child nodes (c + 1) p next (omega arith) (behind p child.1)

pub course_forked : (ns nodes : List Node) (stage : FoldStage) (old : FoldProgress) (c : ℕ) (next : Option ℕ) → ns ≡ nodes → IsCourse nodes old → old.next ≡ Some c → ((q : ℕ) → (node_at ns c).parent ≡ Some q → next ≡ child_from ns (c + 1) q)
    → IsCourse nodes (record { stage = stage; next = next; tally = old.tally })
course_forked ns nodes stage old c next same course is behind =
    let child : IsChild nodes old.tally.node c = rw is at course.next in
    record {
      tally = course.tally;
      next = next_child nodes old.tally.node c next child (rw same at behind);
    }

pub forks_fewer : (ns nodes : List Node) (old : FoldProgress) (c : ℕ) (next : Option ℕ) → ns ≡ nodes → IsCourse nodes old → old.next ≡ Some c → ((q : ℕ) → (node_at ns c).parent ≡ Some q → next ≡ child_from ns (c + 1) q)
    → length nodes + 1 + numbers_from (length nodes) next < length nodes + 1 + numbers_from (length nodes) old.next
forks_fewer ns nodes old c next same course is behind =
    let child : IsChild nodes old.tally.node c = rw is at course.next in
    let all = rw same at behind in
    let fewer = fewer_behind nodes old.tally.node c next child (all old.tally.node child.1) in
    rw is (omega arith)

-- what is forked after a child is the next one of the same parent
pub next_in_turn : (ns nodes : List Node) (old : FoldProgress) (c : ℕ) (next : Option ℕ) → ns ≡ nodes → IsCourse nodes old → old.next ≡ Some c → ((q : ℕ) → (node_at ns c).parent ≡ Some q → next ≡ child_from ns (c + 1) q)
    → next ≡ child_from nodes (c + 1) old.tally.node
next_in_turn ns nodes old c next same course is behind =
    let child : IsChild nodes old.tally.node c = rw is at course.next in
    let all = rw same at behind in
    all old.tally.node child.1
