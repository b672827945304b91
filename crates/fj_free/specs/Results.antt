-- The result of a job, or why it has none.
use Rattle.std.specs.Prelude.{⊤, Result, Ok, Err}
use Rattle.fj_results.specs.Results.{RefusesRun}
use Rattle.fj_results.specs.declared.results.NoResult.{NoResult}
use Rattle.fj_results.specs.declared.results.NoResult.TheVariants as none
use Rattle.fj_free.specs.declared.unfinished.Unfinished.{Unfinished}
use Rattle.fj_free.specs.declared.unfinished.Unfinished.TheVariants.{Refused, Failed, Missing}

-- the result without its key, or why there is none
abbrev pub out_in : {K O : Type 0} → Result (K × O) NoResult → Result O Unfinished
out_in (Ok kept) = Ok kept.1
out_in (Err (none.Failed code)) = Err (Failed code)
out_in (Err none.Missing) = Err Missing

-- a run is refused where the history is full, an allocation fails or a thread cannot be started
abbrev pub IsTold : Unfinished → Type 0
IsTold (Refused refusal) = RefusesRun refusal
IsTold _ = ⊤
