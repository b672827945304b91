-- What a body hears and asks, and the answers to actions.
use Rattle.std.specs.Prelude.{ℕ, ◌<◌, ⊤}
use Rattle.fj_body.specs.declared.body.Heard.{Heard}
use Rattle.fj_body.specs.declared.body.Heard.TheVariants.{Got}
use Rattle.fj_body.specs.declared.body.Ask.{Ask}
use Rattle.fj_body.specs.declared.body.Ask.TheVariants.{Ok as AskOk, Quiet, Try, Pass, Complete, Fail, HookDone}
use Rattle.fj_body.specs.declared.body.Told.{Told}
use Rattle.fj_body.specs.declared.body.Told.TheVariants.{Hear}

-- what is heard is right for the key beside it
abbrev pub HeardRight : {B K O : Type 0} → (K → O → Type 0) → Heard B K O → Type 0
HeardRight right (Got k o) = ∥ right k o ∥₁
HeardRight right _ = ⊤

-- a result that is given is right for the key
abbrev pub AskRight : {B K O : Type 0} → (K → O → Type 0) → K → Ask B K O → Type 0
AskRight right k (AskOk o) = ∥ right k o ∥₁
AskRight right k (HookDone o) = ∥ right k o ∥₁
AskRight right k _ = ⊤

-- a result in an answer is right for the key beside it
abbrev pub ToldRight : {B K O : Type 0} → (K → O → Type 0) → Told B K O → Type 0
ToldRight right (Hear heard) = HeardRight right heard
ToldRight right _ = ⊤

-- a turn that asks for no ending brings the body nearer to one
abbrev pub Nearer : {B K O : Type 0} → ℕ → ℕ → Ask B K O → Type 0
Nearer new old (AskOk o) = ⊤
Nearer new old Quiet = ⊤
Nearer new old Try = ⊤
Nearer new old Pass = ⊤
Nearer new old Complete = ⊤
Nearer new old (Fail n) = ⊤
Nearer new old (HookDone o) = ⊤
Nearer new old _ = new < old
