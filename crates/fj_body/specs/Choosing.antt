-- A worker takes its choice: by a poll, a help, or a join of an undone task.
use Rattle.std.specs.Prelude.{ℕ, ◌≡◌, ◌⊎◌, true, false, Some, None}
use Rattle.fj_rules.specs.declared.refusal.Refusal.{Refusal}
use Rattle.fj_rules.specs.declared.refusal.Refusal.TheVariants.{LogFull}
use Rattle.fj_rules.specs.declared.step.Step.{Step}
use Rattle.fj_rules.specs.declared.step.Step.TheVariants as ask
use Rattle.fj_rules.specs.declared.said.Said.{Said}
use Rattle.fj_rules.specs.declared.said.Said.TheVariants as says
use Rattle.fj_rules.specs.Runs.{Steps}
use Rattle.fj_body.specs.declared.body.Heard.TheVariants as hears
use Rattle.fj_body.specs.declared.body.Told.{Told}
use Rattle.fj_body.specs.declared.body.Told.TheVariants as told
use Rattle.fj_slots.specs.Shelves.{entries, without_entry}
use Rattle.fj_slots.specs.Hands.{HandState, with_next_word, with_body}
use Rattle.fj_body.specs.Stores.{StoreState}
use Rattle.fj_body.specs.Releases.{Releases}
use Rattle.fj_body.specs.Results.{HasNone, TakesOut}

module _ {B K O : Type 0} where
  -- a step of the machine alone
  abbrev pub Moves : StoreState B K O → Step → Said → StoreState B K O → Type 0
  Moves old asked reply new = Steps old.past asked reply new.past × (new ≡ record old { past = new.past })

  -- a refused step: nothing has changed
  abbrev pub Refuses : StoreState B K O → Step → Said → StoreState B K O → Type 0
  Refuses old asked reply new = Steps old.past asked reply old.past × (new ≡ old)

  -- the store was stuck, and nothing has changed
  abbrev pub WasStuck : StoreState B K O → StoreState B K O → Type 0
  WasStuck old new = (old.stuck ≡ true) × (new ≡ old)

  -- the store gets stuck, since the history has no room for the step
  abbrev pub GetsStuck : StoreState B K O → Step → StoreState B K O → Type 0
  GetsStuck old asked new = (old.stuck ≡ false) × Steps old.past asked (says.Refused LogFull) old.past × (new ≡ record old { stuck = true })

  -- the answer to a refused poll or ending: if the history is full, the store gets stuck; else the refusal, and nothing has changed
  abbrev pub TellsRefusal : StoreState B K O → Refusal → Told B K O → StoreState B K O → Type 0
  TellsRefusal old r answer new =
      ((r ≡ LogFull) × (answer ≡ told.Stuck None) × (new ≡ record old { stuck = true }))
      ⊎ ((r ≡ LogFull → ⊥) × (answer ≡ told.Hear (hears.Refused r)) × (new ≡ old))

  -- the step handed the task out: its body went from the store to the hand
  pub record HandsOut (old : StoreState B K O) (hand : HandState B) (asked : Step) (t : ℕ) (new : StoreState B K O) (hand' : HandState B) : Type 0 where
    pub step : Steps old.past asked (says.Run t) new.past
    pub body : B
    pub there : entries old.bodies t ≡ Some body
    pub moved : entries new.bodies ≡ without_entry (entries old.bodies) t
    pub held : hand' ≡ with_body hand t body
    pub others : new ≡ record old { past = new.past; bodies = new.bodies }

  -- the step skipped the task, and its body is handed out; then what could be was released
  pub record Skips (old : StoreState B K O) (asked : Step) (t : ℕ) (body : B) (new : StoreState B K O) : Type 0 where
    pub mid : StoreState B K O
    pub step : Steps old.past asked (says.Skip t) mid.past
    pub there : entries old.bodies t ≡ Some body
    pub moved : entries mid.bodies ≡ without_entry (entries old.bodies) t
    pub others : mid ≡ record old { past = mid.past; bodies = mid.bodies }
    pub releases : Releases mid new

  -- a step that takes the worker's choice, and moves the body; `Bare` says that the joined task is normal, before its result is looked for
  abbrev pub Chooses : StoreState B K O → HandState B → Step → Told B K O → StoreState B K O → HandState B → Type 0
  Chooses old hand asked (told.Run t) new hand' = HandsOut old hand asked t new hand'
  Chooses old hand asked (told.Skip t body) new hand' = Skips old asked t body new × (hand' ≡ hand)
  Chooses old hand asked told.None new hand' = Moves old asked says.None new × (hand' ≡ hand)
  Chooses old hand asked (told.Hear hears.Bare) new hand' = Moves old asked says.Normal new × (hand' ≡ hand)
  Chooses old hand asked (told.Hear (hears.Failed code)) new hand' = Moves old asked (says.Exceptional code) new × (hand' ≡ hand)
  Chooses old hand asked (told.Hear hears.Cancelled) new hand' = Moves old asked says.Cancelled new × (hand' ≡ hand)
  Chooses old hand asked (told.Hear (hears.Refused r)) new hand' = Refuses old asked (says.Refused r) new × (hand' ≡ hand)
  Chooses old hand asked _ new hand' = ⊥

  -- a poll: it uses a scan word, unless the store was stuck
  abbrev pub Polls : StoreState B K O → HandState B → Told B K O → StoreState B K O → HandState B → Type 0
  Polls old hand (told.Run t) new hand' = (old.stuck ≡ false) × HandsOut old (with_next_word hand) (ask.Poll hand.worker hand.word) t new hand'
  Polls old hand (told.Skip t body) new hand' = (old.stuck ≡ false) × Skips old (ask.Poll hand.worker hand.word) t body new × (hand' ≡ with_next_word hand)
  Polls old hand told.None new hand' = (old.stuck ≡ false) × Moves old (ask.Poll hand.worker hand.word) says.None new × (hand' ≡ with_next_word hand)
  Polls old hand (told.Stuck None) new hand' =
      (WasStuck old new × (hand' ≡ hand)) ⊎ (GetsStuck old (ask.Poll hand.worker hand.word) new × (hand' ≡ with_next_word hand))
  Polls old hand _ new hand' = ⊥

  -- a help
  abbrev pub Helps : StoreState B K O → HandState B → Told B K O → StoreState B K O → HandState B → Type 0
  Helps old hand (told.Run t) new hand' = (old.stuck ≡ false) × HandsOut old (with_next_word hand) (ask.Help hand.worker hand.word) t new hand'
  Helps old hand (told.Skip t body) new hand' = (old.stuck ≡ false) × Skips old (ask.Help hand.worker hand.word) t body new × (hand' ≡ with_next_word hand)
  Helps old hand told.None new hand' = (old.stuck ≡ false) × Moves old (ask.Help hand.worker hand.word) says.None new × (hand' ≡ with_next_word hand)
  Helps old hand (told.Hear (hears.Refused r)) new hand' = (old.stuck ≡ false) × Refuses old (ask.Help hand.worker hand.word) (says.Refused r) new × (hand' ≡ with_next_word hand)
  Helps old hand (told.Stuck None) new hand' = WasStuck old new × (hand' ≡ hand)
  Helps old hand _ new hand' = ⊥

  -- a join of a done task that has a result: that is taken out, and what can be is released
  pub record Gives (old : StoreState B K O) (asked : Step) (t : ℕ) (kept : K × O) (new : StoreState B K O) : Type 0 where
    pub mid : StoreState B K O
    pub out : StoreState B K O
    pub step : Moves old asked says.Normal mid
    pub takes : TakesOut mid t (Some kept) out
    pub releases : Releases out new

  -- a join
  abbrev pub Joins : StoreState B K O → HandState B → ℕ → Told B K O → StoreState B K O → HandState B → Type 0
  Joins old hand t (told.Run u) new hand' = (old.stuck ≡ false) × HandsOut old (with_next_word hand) (ask.Join hand.worker t hand.word) u new hand'
  Joins old hand t (told.Skip u body) new hand' = (old.stuck ≡ false) × Skips old (ask.Join hand.worker t hand.word) u body new × (hand' ≡ with_next_word hand)
  Joins old hand t told.None new hand' = (old.stuck ≡ false) × Moves old (ask.Join hand.worker t hand.word) says.None new × (hand' ≡ with_next_word hand)
  Joins old hand t (told.Hear (hears.Got k o)) new hand' = (old.stuck ≡ false) × Gives old (ask.Join hand.worker t hand.word) t (k, o) new × (hand' ≡ with_next_word hand)
  Joins old hand t (told.Hear hears.Bare) new hand' =
      (old.stuck ≡ false) × Moves old (ask.Join hand.worker t hand.word) says.Normal new × HasNone old t × (hand' ≡ with_next_word hand)
  Joins old hand t (told.Hear (hears.Failed code)) new hand' = (old.stuck ≡ false) × Moves old (ask.Join hand.worker t hand.word) (says.Exceptional code) new × (hand' ≡ with_next_word hand)
  Joins old hand t (told.Hear hears.Cancelled) new hand' = (old.stuck ≡ false) × Moves old (ask.Join hand.worker t hand.word) says.Cancelled new × (hand' ≡ with_next_word hand)
  Joins old hand t (told.Hear (hears.Refused r)) new hand' = (old.stuck ≡ false) × Refuses old (ask.Join hand.worker t hand.word) (says.Refused r) new × (hand' ≡ with_next_word hand)
  Joins old hand t (told.Stuck None) new hand' = WasStuck old new × (hand' ≡ hand)
  Joins old hand t _ new hand' = ⊥
