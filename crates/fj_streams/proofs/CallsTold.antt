-- What a fault tells of the calls of the reader and of the writer.
use Rattle.std.specs.Io.KnownBytes.{Consumes}
use Rattle.std.proofs.Common.{[], length-append, ℕ, ◌≡◌, ◌+◌, ◌-◌, ◌^◌, ◌≤◌, ◌⊎◌, ⊎_elim, arith, List, length, Option, Some, Result, Ok, Err, OnOk}
use Rattle.fj_streams.specs.Calls.{Calls, HasFailed, IsFine}
use Rattle.fj_streams.proofs.CallsMade.{fine_twice, fine_failed}
use Rattle.fj_streams.specs.declared.fault.FilterFault.{FilterFault}
use Rattle.fj_streams.specs.declared.fault.FilterFault.TheVariants.{Stop, Line, Memory, Read, Write}
use Rattle.fj_streams.specs.declared.read_loop.TheConstants.{CHUNK}
use Rattle.fj_streams.specs.Cuts.{lines}
use Rattle.fj_streams.specs.Rules.{Rules}
use Rattle.fj_streams.specs.Kept.{Kept}
use Rattle.fj_streams.specs.Buffers.{EndsEarly, WriterFails}
use Rattle.fj_streams.specs.Tells.{FaultTells}
use Rattle.fj_streams.proofs.Lines.{few_cuts}

-- what holds in any case
pub if_ok : {T E : Type 0} {P : Type 0} (r : Result T E) → P → OnOk r P
if_ok (Ok x) p = p
if_ok (Err e) p = tt

module _ {S : Type 0} where
  -- what a fault told of the writer, after calls of which none failed
  pub told_later : (fault : FilterFault S) (a b c : Option Calls) → IsFine a b → WriterFails fault b c → WriterFails fault a c
  told_later (Stop n stop) a b c p q = fine_twice a b c p q
  told_later (Line n) a b c p q = fine_twice a b c p q
  told_later Memory a b c p q = fine_twice a b c p q
  told_later Read a b c p q = q
  told_later Write a b c p q = fine_failed a b c p q

  -- a fault that the writer told, where no read failed
  pub writer_told : (fault : FilterFault S) (b : List ℕ) (read now written after : Option Calls) → IsFine read now → WriterFails fault written after → FaultTells fault b read now written after
  writer_told (Stop n stop) b read now written after p q = (p, q)
  writer_told (Line n) b read now written after p q = (p, q)
  writer_told Memory b read now written after p q = (p, q)
  writer_told Read b read now written after p q = absurd q
  writer_told Write b read now written after p q = (p, q)

  -- a fault at the end of the input, where no call failed
  pub ended_told : {A : Type 0} (rules : Rules A S) (fault : FilterFault S) (v : Kept) (state : A) (b : List ℕ) (read now written after : Option Calls) → EndsEarly rules v state fault → IsFine read now → IsFine written after → FaultTells fault b read now written after
  ended_told rules fault v state b read now written after early p q = rw early.0 (p, q)

-- ---- a reader of bytes in memory

-- there are fewer bytes in memory than 64 bits count, so no reader of them fails or has too many lines
pub never_failed : (input rest b : List ℕ) (first again : ℕ) → first + length input ≤ 2 ^ 63 → again + length rest ≤ 2 ^ 63 → Consumes (Some input) (Some rest) b → HasFailed (Some (record { failed = 0; again = first })) (Some (record { failed = 0; again = again })) ⊎ (2 ^ 64 - 1 - CHUNK ≤ length (lines b)) → ⊥
never_failed input rest b first again short few read failed =
    let all : length input ≡ length b + length rest = rw read (length-append b rest) in
    let cuts = few_cuts [] b in
    ⊎_elim (λ call. ⊎_elim (λ one. absurd cc) (λ many. absurd (omega arith)) call) (λ many. absurd (omega arith)) failed
