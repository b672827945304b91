-- Submissions are taken in.
use Rattle.std.specs.Prelude.{ℕ, ◌≡◌, ◌+◌, ⊤, zero, suc, Bool, true, false, if◌then◌else◌, nat_lt, Option, Result}
use Rattle.fj_rules.specs.declared.refusal.Refusal.{Refusal}
use Rattle.fj_rules.specs.Answers.{is_quiet}
use Rattle.fj_calls.specs.declared.taken_in.Intake.{Intake}
use Rattle.fj_calls.specs.declared.taken_in.Intake.TheVariants.{Took}
use Rattle.fj_calls.specs.Cores.{CoreState}
use Rattle.fj_calls.specs.Intakes.{Intakes}
use Rattle.fj_calls.specs.Sealing.{SealsCore, holds_back, may_be_sealed}
use Rattle.fj_guarded.specs.declared.guarded.outside.TakenIn.{TakenIn}
use Rattle.fj_guarded.specs.declared.guarded.outside.TakenIn.TheVariants.{Nothing, One, Several}

-- with one body more
abbrev pub one_more : TakenIn → TakenIn
one_more Nothing = One
one_more One = Several
one_more Several = Several

-- with the answer of an intake
abbrev pub with_answer : TakenIn → Intake → TakenIn
with_answer taken (Took serial) = one_more taken
with_answer taken _ = taken

-- the next submitter: after the last one comes the first
abbrev pub behind : ℕ → ℕ → ℕ
behind submitters s = if nat_lt (s + 1) submitters then s + 1 else 0

-- the one that comes n places after this one
abbrev pub so_far_behind : ℕ → ℕ → ℕ → ℕ
so_far_behind submitters first zero = first
so_far_behind submitters first (suc n) = behind submitters (so_far_behind submitters first n)

module _ {B K O : Type 0} where
  -- one intake for each of n submitters, from `first` on by rising number
  abbrev pub TakesFrom : (B → Option ℕ) → ℕ → ℕ → ℕ → CoreState B K O → TakenIn → CoreState B K O → Type 0
  TakesFrom rooted_as submitters first zero old taken new = (taken ≡ Nothing) × (new ≡ old)
  TakesFrom rooted_as submitters first (suc n) old taken new =
      (mid : CoreState B K O) × (before : TakenIn) × (answer : Intake)
      × TakesFrom rooted_as submitters first n old before mid × Intakes rooted_as mid (so_far_behind submitters first n) answer new × (taken ≡ with_answer before answer)

  -- one for each submitter, from one of them on
  abbrev pub TakesEach : (B → Option ℕ) → CoreState B K O → TakenIn → CoreState B K O → Type 0
  TakesEach rooted_as old taken new = (first : ℕ) × TakesFrom rooted_as old.store.past.pool.limits.submitters first old.store.past.pool.limits.submitters old taken new

  -- a seal is made if it is due; one that is refused for memory is counted, so it was tried
  abbrev pub SealsWhere : Bool → CoreState B K O → CoreState B K O → Type 0
  SealsWhere true old new = (answer : Result ⊤ Refusal) × SealsCore old answer new
  SealsWhere false old new = new ≡ old

  -- one for each submitter, or none if nothing is taken in before the next seal
  abbrev pub TakesUnless : Bool → (B → Option ℕ) → CoreState B K O → TakenIn → CoreState B K O → Type 0
  TakesUnless true rooted_as old taken new = (taken ≡ Nothing) × (new ≡ old)
  TakesUnless false rooted_as old taken new = TakesEach rooted_as old taken new

  -- a seal, if it is due, and then one intake for each submitter, unless the core holds back
  pub record LooksAtLanes (rooted_as : B → Option ℕ) (old : CoreState B K O) (taken : TakenIn) (new : CoreState B K O) : Type 0 where
    pub mid : CoreState B K O
    pub seals : SealsWhere (may_be_sealed old.store.past) old mid
    pub takes : TakesUnless (holds_back mid) rooted_as mid taken new

  -- a seal, if it is due, one intake for each submitter, and then whether all is quiet
  pub record IsQuietBehind (rooted_as : B → Option ℕ) (old : CoreState B K O) (quiet : Bool) (new : CoreState B K O) : Type 0 where
    pub mid : CoreState B K O
    pub taken : TakenIn
    pub seals : SealsWhere (may_be_sealed old.store.past) old mid
    pub takes : TakesEach rooted_as mid taken new
    pub is : quiet ≡ is_quiet new.store.past.pool.limits new.store.past.events
