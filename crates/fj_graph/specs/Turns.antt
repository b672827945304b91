-- The one turn of a body.
use Rattle.std.specs.Prelude.{◌≡◌, ⊤}
use Rattle.fj_body.specs.declared.body.Ask.{Ask}
use Rattle.fj_body.specs.declared.body.Ask.TheVariants.{Fail}
use Rattle.fj_body.specs.declared.body.Heard.{Heard}
use Rattle.fj_body.specs.declared.body.Heard.TheVariants.{Start}

-- on anything but the start it fails, and calls nothing
abbrev pub FailsLater : {B K O : Type 0} → Heard B K O → Ask B K O → Type 0
FailsLater (Start me) ask = ⊤
FailsLater _ ask = ask ≡ Fail 0
