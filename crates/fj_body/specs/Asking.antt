-- Steps that hand out no task and end no body.
use Rattle.std.specs.Prelude.{◌≡◌, Bool, true, false, None}
use Rattle.fj_rules.specs.declared.refusal.Refusal.TheVariants.{LogFull}
use Rattle.fj_rules.specs.declared.step.Step.{Step}
use Rattle.fj_rules.specs.declared.step.Step.TheVariants as ask
use Rattle.fj_rules.specs.declared.said.Said.{Said}
use Rattle.fj_rules.specs.declared.said.Said.TheVariants as says
use Rattle.fj_rules.specs.Runs.{Steps}
use Rattle.fj_body.specs.declared.body.Heard.TheVariants as hears
use Rattle.fj_body.specs.declared.body.Told.{Told}
use Rattle.fj_body.specs.declared.body.Told.TheVariants as told
use Rattle.fj_slots.specs.Shelves.{entries}
use Rattle.fj_body.specs.Stores.{StoreState, still_held}
use Rattle.fj_body.specs.Releases.{Releases}
use Rattle.fj_body.specs.Choosing.{Moves, Refuses, WasStuck}

-- whether the step is of this kind
abbrev pub is_calm : Step → Bool
is_calm (ask.Add w c n) = true
is_calm (ask.QuietRoot w t) = true
is_calm (ask.Fault t code) = true
is_calm (ask.Cancel t) = true
is_calm ask.Shutdown = true
is_calm ask.Stop = true
is_calm (ask.State t) = true
is_calm ask.IsQuiescent = true
is_calm _ = false

-- whether the reply is one to QuietRoot: the root was made normal by the step, or was done before
abbrev pub is_root : Said → Bool
is_root (says.Root c) = true
is_root (says.Spent c) = true
is_root _ = false

module _ {B K O : Type 0} where
  -- the step was made, and the bodies of the tasks that became gone are dropped; then what can be is released
  pub record Drops (old : StoreState B K O) (asked : Step) (reply : Said) (new : StoreState B K O) : Type 0 where
    pub mid : StoreState B K O
    pub step : Steps old.past asked reply mid.past
    pub bodies : entries mid.bodies ≡ still_held old mid.past
    pub others : mid ≡ record old { past = mid.past; bodies = mid.bodies }
    pub releases : Releases mid new

  -- the same, or the step was refused, and nothing has changed
  abbrev pub Makes : StoreState B K O → Step → Said → StoreState B K O → Type 0
  Makes old asked (says.Refused r) new = Refuses old asked (says.Refused r) new
  Makes old asked reply new = Drops old asked reply new

  -- more is added to a pending count
  abbrev pub Adds : StoreState B K O → Step → Told B K O → StoreState B K O → Type 0
  Adds old asked (told.Hear (hears.Count n)) new = (old.stuck ≡ false) × Drops old asked (says.Count n) new
  Adds old asked (told.Hear (hears.Refused r)) new = (old.stuck ≡ false) × Refuses old asked (says.Refused r) new
  Adds old asked (told.Stuck None) new = WasStuck old new
  Adds old asked _ new = ⊥

  -- a root is made normal, or was done before
  abbrev pub QuietsRoot : StoreState B K O → Step → Told B K O → StoreState B K O → Type 0
  QuietsRoot old asked (told.Hear hears.Went) new = (old.stuck ≡ false) × (reply : Said) × Drops old asked reply new × (is_root reply ≡ true)
  QuietsRoot old asked (told.Hear (hears.Refused r)) new = (old.stuck ≡ false) × Refuses old asked (says.Refused r) new
  QuietsRoot old asked (told.Stuck None) new = WasStuck old new
  QuietsRoot old asked _ new = ⊥

  -- a task is cancelled, or ended with a code
  abbrev pub Settles : StoreState B K O → Step → Told B K O → StoreState B K O → Type 0
  Settles old asked (told.Hear hears.Yes) new = (old.stuck ≡ false) × Drops old asked says.Yes new
  Settles old asked (told.Hear hears.No) new = (old.stuck ≡ false) × Drops old asked says.No new
  Settles old asked (told.Hear (hears.Refused r)) new = (old.stuck ≡ false) × Refuses old asked (says.Refused r) new
  Settles old asked (told.Stuck None) new = WasStuck old new
  Settles old asked _ new = ⊥

  -- the place and the status of a task
  abbrev pub Shows : StoreState B K O → Step → Told B K O → StoreState B K O → Type 0
  Shows old asked (told.Hear (hears.Is p s)) new = (old.stuck ≡ false) × Moves old asked (says.State p s) new
  Shows old asked (told.Hear (hears.Refused r)) new = (old.stuck ≡ false) × Refuses old asked (says.Refused r) new
  Shows old asked (told.Stuck None) new = WasStuck old new
  Shows old asked _ new = ⊥

  -- a shutdown or a stop was made; or the history had no room for it, and the store is stuck
  abbrev pub Shuts : StoreState B K O → Step → Bool → StoreState B K O → Type 0
  Shuts old asked true new = Drops old asked says.Done new
  Shuts old asked false new = Steps old.past asked (says.Refused LogFull) old.past × (new ≡ record old { stuck = true })
