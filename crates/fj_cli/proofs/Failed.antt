-- A job that did not fail, and a tree that was not read.
use Rattle.std.proofs.Common.{ℕ, ◌≡◌, ◌⊎◌, ⊎_elim, arith, Option}
use Rattle.fj_streams.specs.Calls.{Calls, HasFailed}
use Rattle.fj_trees.specs.declared.tree_fault.TreeFault.{TreeFault}
use Rattle.fj_trees.specs.declared.tree_fault.TreeFault.TheVariants as tree
use Rattle.fj_trees.specs.Reads.{ReaderTells}

-- a tree was not read
pub tree_read : (fault : TreeFault) (old new : Option Calls) → ReaderTells fault old new → fault ≡ tree.Read → HasFailed old new
tree_read (tree.Line n) old new tells is = absurd cc
tree_read tree.Memory old new tells is = absurd cc
tree_read tree.Read old new tells is = tells

-- a job that was refused did not fail
pub refused_unfailed : (status : ℕ) → (status ≡ 3) ⊎ (status ≡ 4) → status ≡ 5 → ⊥
refused_unfailed status known five = ⊎_elim (λ a. omega (arith, a, five)) (λ b. omega (arith, b, five)) known
