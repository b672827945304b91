-- Why an event has no level.
use Rattle.std.specs.Prelude.{ℕ, ◌≡◌, ◌≤◌, ◌⊎◌, ⊤}
use Rattle.fj_rules.specs.declared.refusal.Refusal.TheVariants.{BadLimits}
use Rattle.fj_results.specs.Results.{RefusesRun}
use Rattle.fj_results.specs.declared.results.NoResult.{NoResult}
use Rattle.fj_results.specs.declared.results.NoResult.TheVariants as none
use Rattle.ex_pipeline.specs.declared.fault.Fault.{Fault}
use Rattle.ex_pipeline.specs.declared.fault.Fault.TheVariants.{Failed, Refused, Lost}

-- the fault where an outcome has no result
abbrev pub fault_of : NoResult → Fault
fault_of (none.Failed code) = Failed code
fault_of none.Missing = Lost

-- there is no such number of workers; or a run is refused, or has no result
abbrev pub IsTold : ℕ → Fault → Type 0
IsTold workers (Refused r) = (((1 ≤ workers) × (workers ≤ 32) → ⊥) × (r ≡ BadLimits)) ⊎ RefusesRun r
IsTold workers _ = ⊤
