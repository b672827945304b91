-- Why nothing was built.
use Rattle.std.specs.Prelude.{ℕ, ◌≡◌, ◌≤◌, ◌⊎◌, ⊤}
use Rattle.fj_rules.specs.declared.refusal.Refusal.TheVariants.{BadLimits}
use Rattle.fj_results.specs.Results.{RefusesRun}
use Rattle.fj_results.specs.declared.results.NoResult.{NoResult}
use Rattle.fj_results.specs.declared.results.NoResult.TheVariants as none
use Rattle.ex_build.specs.declared.fault.Fault.{Fault}
use Rattle.ex_build.specs.declared.fault.Fault.TheVariants.{Failed, Refused, NoTarget, Lost}

-- the fault where an outcome has no result
abbrev pub fault_of : NoResult → Fault
fault_of (none.Failed code) = Failed code
fault_of none.Missing = Lost

-- of so many targets, by so many workers: there is no target, or no such number of workers; or a run is refused, or has no result
abbrev pub IsTold : ℕ → ℕ → Fault → Type 0
IsTold targets workers NoTarget = targets ≡ 0
IsTold targets workers (Refused r) = (((1 ≤ workers) × (workers ≤ 32) → ⊥) × (r ≡ BadLimits)) ⊎ RefusesRun r
IsTold targets workers _ = ⊤
