-- What is known of the calls of a reader and of a writer.
use Rattle.std.specs.Prelude.{ℕ, ⊤, ◌≡◌, ◌≢◌, ◌+◌, ◌-◌, ◌^◌, ◌<◌, ◌≤◌, ◌⊎◌, Option, Some, None, Result, MatchResult}
use Rattle.std.specs.IoError.{error_kind}
use Rattle.std.specs.declared.io.Error.{Error}
use Rattle.std.specs.declared.io.ErrorKind.TheVariants.{Interrupted}

-- the count, where there was a last call after so many
abbrev pub count_after : Option ℕ → ℕ
count_after None = 0
count_after (Some before) = before + 1

-- how many calls failed; and after how many others the caller has to call again: interrupted calls, and reads that gave bytes
pub record Calls : Type 0 where
  pub failed : ℕ
  pub again : ℕ

-- ---- one call

-- one more known call failed
abbrev pub Fails : Option Calls → Option Calls → Type 0
Fails None new = ⊤
Fails (Some x) None = ⊥
Fails (Some x) (Some y) = y.failed ≡ x.failed + 1

-- no known call failed, and after so many more the caller has to call again
abbrev pub GoesOn : Option Calls → Option Calls → ℕ → Type 0
GoesOn None new n = ⊤
GoesOn (Some x) None n = ⊥
GoesOn (Some x) (Some y) n = (y.failed ≡ x.failed) × (y.again ≡ x.again + n)

-- an interruption is no failure
abbrev pub ErrorCounts : Option Calls → Option Calls → Error → Type 0
ErrorCounts old new e = (error_kind e ≢ Interrupted → Fails old new) × (error_kind e ≡ Interrupted → GoesOn old new 1)

-- a read: one that gives nothing is the end
abbrev pub ReadCounts : Option Calls → Option Calls → Result ℕ Error → Type 0
ReadCounts old new r = MatchResult r (λ n. (n ≡ 0 → GoesOn old new 0) × (n ≢ 0 → GoesOn old new 1)) (λ e. ErrorCounts old new e)

-- a write of so many bytes: to take nothing of something is a failure
abbrev pub WriteCounts : Option Calls → Option Calls → Result ℕ Error → ℕ → Type 0
WriteCounts old new r length = MatchResult r (λ n. (n ≡ 0 → 0 < length → Fails old new) × ((n ≢ 0) ⊎ (length ≡ 0) → GoesOn old new 0)) (λ e. ErrorCounts old new e)

-- a flush
abbrev pub FlushCounts : {A : Type 0} → Option Calls → Option Calls → Result A Error → Type 0
FlushCounts old new r = MatchResult r (λ _. GoesOn old new 0) (λ e. ErrorCounts old new e)

-- ---- many calls

-- no known call failed
abbrev pub IsFine : Option Calls → Option Calls → Type 0
IsFine None new = ⊤
IsFine (Some x) None = ⊥
IsFine (Some x) (Some y) = (y.failed ≡ x.failed) × (x.again ≤ y.again)

-- one known call failed, or after 2^64 - 1 of them the caller had to call again
abbrev pub HasFailed : Option Calls → Option Calls → Type 0
HasFailed None new = ⊤
HasFailed (Some x) None = ⊥
HasFailed (Some x) (Some y) = (y.failed ≡ x.failed + 1) ⊎ (x.again + (2 ^ 64 - 1) ≤ y.again)
