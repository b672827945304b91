-- What the kind of an error says of the words.
use Rattle.std.proofs.Common.{◌≡◌, ◌≢◌, ◌⊎◌, ⊎_elim, ◌∙◌, sym, subst, List, inl, inr}
use Rattle.clap.specs.Words.{HasKind, IsAmong, Text, kind_of}
use Rattle.clap.specs.declared.error.Error.{Error}
use Rattle.clap.specs.declared.error.kind.ErrorKind.{ErrorKind}
use Rattle.clap.specs.declared.error.kind.ErrorKind.TheVariants.{DisplayHelp, DisplayVersion, OutOfMemory}
use Rattle.fj_arguments.specs.Commands.{faults_in, AsksToShow, IsAtFault}

is_among : (k : ErrorKind) (e : Error) (words : List Text) → HasKind (faults_in words) e → kind_of e ≡ k → OutOfMemory ≢ k → IsAmong k (faults_in words)
is_among k e words has is other =
    ⊎_elim (λ memory. absurd (other (sym memory ∙ is))) (λ among. subst (λ x. IsAmong x (faults_in words)) is among) has

-- what is shown was asked for
pub shown_asks : (e : Error) (words : List Text) → HasKind (faults_in words) e → (kind_of e ≡ DisplayHelp) ⊎ (kind_of e ≡ DisplayVersion) → AsksToShow words
shown_asks e words has shown =
    ⊎_elim (λ help. inl (is_among DisplayHelp e words has help (λ x. absurd cc))) (λ version. inr (is_among DisplayVersion e words has version (λ x. absurd cc))) shown

-- any other kind but out of memory is a fault of the arguments
pub else_at_fault : (e : Error) (words : List Text) → HasKind (faults_in words) e → (kind_of e ≢ OutOfMemory) × (kind_of e ≢ DisplayHelp) × (kind_of e ≢ DisplayVersion) → IsAtFault words
else_at_fault e words has other = ⊎_elim (λ memory. absurd (other.0 memory)) (λ among. (kind_of e, among, other.1, other.2)) has
