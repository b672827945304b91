-- Tasks whose result or outcome was taken are released as soon as they can be.
use Rattle.std.specs.Prelude.{ℕ, ◌≡◌, ◌≤◌, ◌⊎◌, Bool, true, false, map, length, List}
use Rattle.fj_rules.specs.declared.event.Event.{Event}
use Rattle.fj_rules.specs.declared.event.Event.TheVariants.{Rel}
use Rattle.fj_rules.specs.declared.said.Said.TheVariants.{Done}
use Rattle.fj_rules.specs.declared.step.Step.TheVariants.{Release}
use Rattle.fj_rules.specs.Lists.{is_in, without}
use Rattle.fj_rules.specs.Tasks.{is_completer}
use Rattle.fj_rules.specs.Pasts.{Past, grown, limit}
use Rattle.fj_rules.specs.Runs.{Steps}
use Rattle.fj_rules.specs.Releasable.{can_go, CanAllGo}
use Rattle.fj_body.specs.Stores.{StoreState}

-- each of these is one of those
abbrev pub AreAmong : List ℕ → List ℕ → Type 0
AreAmong ts us = (t : ℕ) → is_in t ts ≡ true → is_in t us ≡ true

-- a plain task was released; or nothing has changed
abbrev pub ReleasesPlain : Past → ℕ → Bool → Past → Type 0
ReleasesPlain old t true new = (is_completer old.events t ≡ false) × Steps old (Release t) Done new
ReleasesPlain old t false new = new ≡ old

-- none of these can be released
abbrev pub NoneGoes : List Event → List ℕ → Type 0
NoneGoes h ts = (t : ℕ) → is_in t ts ≡ true → can_go h t ≡ false

-- one of these can be released
abbrev pub OneGoes : List Event → List ℕ → Type 0
OneGoes h ts = (t : ℕ) × (is_in t ts ≡ true) × (can_go h t ≡ true)

-- no taken task can be released now, and the store is stuck if it was; or one could be, and it is stuck, since the history is full
abbrev pub RestsAt : Past → List ℕ → Bool → Bool → Type 0
RestsAt past taken was stuck = ((stuck ≡ was) × NoneGoes past.events taken) ⊎ ((stuck ≡ true) × OneGoes past.events taken × (limit past ≤ length past.events))

module _ {B K O : Type 0} where
  -- the same of a store, which was stuck or not
  abbrev pub Rests : Bool → StoreState B K O → Type 0
  Rests stuck s = RestsAt s.past s.taken stuck s.stuck

  -- with these tasks released
  abbrev pub released_of : StoreState B K O → List ℕ → StoreState B K O
  released_of s ts = record s { past = grown s.past (map Rel ts); taken = without s.taken ts }

  -- some of the taken tasks were released, each when it could be, and no taken one can be now; or the history was full
  pub record Releases (old : StoreState B K O) (new : StoreState B K O) : Type 0 where
    pub tasks : List ℕ
    pub were_taken : AreAmong tasks old.taken
    pub could : CanAllGo old.past.events tasks
    pub were : new ≡ record (released_of old tasks) { stuck = new.stuck }
    pub rests : Rests old.stuck new
