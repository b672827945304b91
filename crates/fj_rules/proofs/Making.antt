use Rattle.std.proofs.Common.{◌≡◌}
use Rattle.std.specs.Prelude.{IfOk, Ok, Result}

-- what is promised of a result that is Ok holds of its value
pub made : {A E : Type 0} {result : Result A E} {value : A} (P : A → Type 0) → result ≡ Ok value → IfOk result P → P value
made P is holds = rw is at holds
