-- Why a job that may fail has no value.
use Rattle.std.specs.Prelude.{⊤, Result, Ok, Err}
use Rattle.fj_rules.specs.declared.refusal.Refusal.{Refusal}
use Rattle.fj_try.specs.declared.fault.Fault.{Fault}
use Rattle.fj_try.specs.declared.fault.Fault.TheVariants.{Failed, Refused}

-- this holds of a refusal that is reported
abbrev pub IfRefused : {O E : Type 0} → (Refusal → Type 0) → Result O (Fault E) → Type 0
IfRefused refuses (Ok out) = ⊤
IfRefused refuses (Err (Failed error)) = ⊤
IfRefused refuses (Err (Refused refusal)) = refuses refusal

-- no refusal is reported
abbrev pub NotRefused : {O E : Type 0} → Result O (Fault E) → Type 0
NotRefused = IfRefused (λ refusal. ⊥)
