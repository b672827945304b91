-- Tasks are accepted, each with its body.
use Rattle.std.specs.Prelude.{◌≡◌, true, false, Some}
use Rattle.fj_rules.specs.declared.step.Step.{Step}
use Rattle.fj_rules.specs.declared.said.Said.TheVariants as says
use Rattle.fj_rules.specs.Runs.{Steps}
use Rattle.fj_body.specs.declared.body.Heard.TheVariants as hears
use Rattle.fj_body.specs.declared.body.Told.{Told}
use Rattle.fj_body.specs.declared.body.Told.TheVariants as told
use Rattle.fj_slots.specs.Shelves.{entries, with_entry}
use Rattle.fj_body.specs.Stores.{StoreState}

module _ {B K O : Type 0} where
  -- the machine's step, and the body is stored under the new number; or the step is refused, or the store stuck, and the body is handed back
  abbrev pub Accepts : StoreState B K O → Step → B → Told B K O → StoreState B K O → Type 0
  Accepts old asked body (told.Hear (hears.Task t)) new =
      (old.stuck ≡ false) × Steps old.past asked (says.Task t) new.past × (entries new.bodies ≡ with_entry (entries old.bodies) t body) × (new ≡ record old { past = new.past; bodies = new.bodies })
  Accepts old asked body (told.Hear (hears.Handed b r)) new = (old.stuck ≡ false) × Steps old.past asked (says.Refused r) old.past × (b ≡ body) × (new ≡ old)
  Accepts old asked body (told.Stuck (Some b)) new = (old.stuck ≡ true) × (b ≡ body) × (new ≡ old)
  Accepts old asked body _ new = ⊥
