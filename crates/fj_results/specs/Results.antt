-- The result in an outcome, and in the answer of a run; why a run is refused.
use Rattle.std.specs.Prelude.{◌≡◌, ⊤, Bool, true, false, Some, None, Result, Ok, Err, if◌then◌else◌, ◌==◌}
use Rattle.fj_rules.specs.declared.refusal.Refusal.{Refusal}
use Rattle.fj_rules.specs.declared.refusal.Refusal.TheVariants.{LogFull, OutOfMemory}
use Rattle.fj_rules.specs.Refusals.{refusal_number}
use Rattle.fj_body.specs.declared.outcomes.Outcome.{Outcome}
use Rattle.fj_body.specs.declared.outcomes.Outcome.TheVariants.{Normal, Exceptional, Cancelled}
use Rattle.fj_results.specs.declared.results.NoResult.{NoResult}
use Rattle.fj_results.specs.declared.results.NoResult.TheVariants.{Failed, Missing}

-- the history was full, an allocation failed, or a thread could not be started
abbrev pub RefusesRun : Refusal → Type 0
RefusesRun LogFull = ⊤
RefusesRun OutOfMemory = ⊤
RefusesRun _ = ⊥

-- the result with its key, or why there is none
abbrev pub result_in : {B K O : Type 0} → Outcome B K O → Result (K × O) NoResult
result_in (Normal (Some kept)) = Ok kept
result_in (Normal None) = Err Missing
result_in (Exceptional code) = Err (Failed code)
result_in Cancelled = Err Missing

-- the refusal of a run whose body gave no result: LogFull if it failed with that number, else OutOfMemory
abbrev pub refusal_of : NoResult → Refusal
refusal_of (Failed code) = if code == refusal_number LogFull then LogFull else OutOfMemory
refusal_of Missing = OutOfMemory

module _ {K O : Type 0} (eq : K → K → Bool) where
  -- it is right for a key that equals this one
  pub record IsRightFor (right : K → O → Type 0) (key : K) (out : O) : Type 0 where
    pub kept : K
    pub same : eq kept key ≡ true
    pub right_for : ∥ right kept out ∥₁

  -- a result is refused only where it is under another key
  abbrev pub RefusesResult : K → Result (K × O) NoResult → Refusal → Type 0
  RefusesResult key (Ok kept) r = (eq kept.0 key ≡ false) × (r ≡ OutOfMemory)
  RefusesResult key (Err none) r = r ≡ refusal_of none

  -- the same of the result in an outcome
  abbrev pub RefusesOutcome : {B : Type 0} → K → Outcome B K O → Refusal → Type 0
  RefusesOutcome key outcome r = RefusesResult key (result_in outcome) r

  -- the same of the answer of a run: LogFull stays, any other refusal becomes OutOfMemory
  abbrev pub RefusesAnswer : {B : Type 0} → K → Result (Outcome B K O) Refusal → Refusal → Type 0
  RefusesAnswer key (Ok outcome) r = RefusesOutcome key outcome r
  RefusesAnswer key (Err LogFull) r = r ≡ LogFull
  RefusesAnswer key (Err _) r = r ≡ OutOfMemory
