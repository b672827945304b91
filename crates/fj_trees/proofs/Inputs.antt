-- Bytes that are read in parts.
use Rattle.std.proofs.Common.{ℕ, ◌≡◌, ◌≢◌, List, ◌++◌, ◌∙◌, refl, sym, Option, Some, None}
use Rattle.std.proofs.lemmas.List.{append-nil}
use Rattle.std.specs.Io.KnownBytes.{Consumes, IsAtEnd}
use Rattle.fj_streams.specs.Calls.{Calls, IsFine}
use Rattle.fj_trees.specs.declared.tree_fault.TreeFault.{TreeFault}
use Rattle.fj_trees.specs.declared.tree_fault.TreeFault.TheVariants.{Line, Memory, Read}
use Rattle.fj_trees.specs.Reads.{ReaderTells}

-- what was read is a beginning of the input
pub read_part : (a c : Option (List ℕ)) (s input : List ℕ) → Consumes a c s → a ≡ Some input → (rest : List ℕ) × (input ≡ s ++ rest)
read_part None c s input p is = absurd cc
read_part (Some x) None s input p is = absurd p
read_part (Some x) (Some y) s input p is =
    let same : x ≡ input = cc in
    (y, sym same ∙ p)

-- at the end all of it was read
pub read_whole : (a c : Option (List ℕ)) (s input : List ℕ) → Consumes a c s × IsAtEnd c → a ≡ Some input → input ≡ s
read_whole None c s input p is = absurd cc
read_whole (Some x) None s input p is = absurd p.0
read_whole (Some x) (Some y) s input p is =
    let same : x ≡ input = cc in
    sym same ∙ p.0 ∙ rw (p.1, append-nil) refl

-- a fault of the bytes, after reads of which none failed
pub tells_fine : (fault : TreeFault) (old new : Option Calls) → fault ≢ Read → IsFine old new → ReaderTells fault old new
tells_fine (Line n) old new other fine = fine
tells_fine Memory old new other fine = fine
tells_fine Read old new other fine = absurd (other refl)
