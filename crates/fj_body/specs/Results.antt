-- Results are kept, and taken out.
use Rattle.std.specs.Prelude.{ℕ, ◌≡◌, ◌⊎◌, Bool, true, false, Option, Some, None, Result, Ok, Err, List, [], ◌∷◌, ◌++◌, ⊤}
use Rattle.fj_rules.specs.declared.event.Event.{Event}
use Rattle.fj_rules.specs.declared.refusal.Refusal.{Refusal}
use Rattle.fj_rules.specs.declared.refusal.Refusal.TheVariants.{Unknown, NotDone}
use Rattle.fj_rules.specs.declared.status.Status.{Status}
use Rattle.fj_rules.specs.declared.status.Status.TheVariants.{Undone, Normal, Exceptional, Cancelled}
use Rattle.fj_rules.specs.Lists.{is_in}
use Rattle.fj_rules.specs.Tasks.{is_kept, is_completer}
use Rattle.fj_rules.specs.Places.{place, is_gone}
use Rattle.fj_rules.specs.Statuses.{status, is_undone}
use Rattle.fj_body.specs.declared.body.Heard.TheVariants as hears
use Rattle.fj_body.specs.declared.body.Told.{Told}
use Rattle.fj_body.specs.declared.body.Told.TheVariants as told
use Rattle.fj_body.specs.declared.outcomes.Outcome.{Outcome}
use Rattle.fj_body.specs.declared.outcomes.Outcome.TheVariants as outcome
use Rattle.fj_slots.specs.Shelves.{Shelved, entries, with_entry, without_entry}
use Rattle.fj_body.specs.Stores.{StoreState, hooks_ended}
use Rattle.fj_body.specs.Releases.{Releases}

-- the task became normal without a result: a completer whose completion action has not ended
abbrev pub GivesNone : List Event → ℕ → Type 0
GivesNone h t = (is_completer h t ≡ true) × (is_in t (hooks_ended h) ≡ false)

-- among these results one is kept under this number; or it is dropped
abbrev pub KeepsIn : {R : Type 0} → Bool → Shelved R → ℕ → R → Shelved R → Type 0
KeepsIn true old t kept new = new ≡ old
KeepsIn false old t kept new = (entries new ≡ with_entry (entries old) t kept) × (new.room ≡ old.room)

module _ {B K O : Type 0} where
  -- a result is kept under this number; or it is dropped, as the task is marked as taken
  abbrev pub KeepsUnless : Bool → StoreState B K O → ℕ → K × O → StoreState B K O → Type 0
  KeepsUnless true old t kept new = new ≡ old
  KeepsUnless false old t kept new = (entries new.results ≡ with_entry (entries old.results) t kept) × (new ≡ record old { results = new.results })

  abbrev pub Keeps : StoreState B K O → ℕ → K × O → StoreState B K O → Type 0
  Keeps old t kept new = KeepsUnless (is_in t old.taken) old t kept new

  -- the task is marked as taken, and has no result any more
  abbrev pub Marks : StoreState B K O → ℕ → StoreState B K O → Type 0
  Marks old t new = (entries new.results ≡ without_entry (entries old.results) t) × (new ≡ record old { results = new.results; taken = old.taken ++ t ∷ [] })

  -- the same, and then what can be is released, the task too
  abbrev pub MarksAndReleases : StoreState B K O → ℕ → StoreState B K O → Type 0
  MarksAndReleases old t new = (mid : StoreState B K O) × Marks old t mid × Releases mid new

  -- a result is taken out, and its task is marked for its release; or there is none, and nothing has changed
  abbrev pub TakesOut : StoreState B K O → ℕ → Option (K × O) → StoreState B K O → Type 0
  TakesOut old t None new = (entries old.results t ≡ None) × (new ≡ old)
  TakesOut old t (Some kept) new = (entries old.results t ≡ Some kept) × Marks old t new

  -- a result is taken out, and then what can be is released, its task too; or there is none, and nothing has changed
  abbrev pub TakesAndReleases : StoreState B K O → ℕ → Option (K × O) → StoreState B K O → Type 0
  TakesAndReleases old t None new = TakesOut old t None new
  TakesAndReleases old t (Some kept) new = (mid : StoreState B K O) × TakesOut old t (Some kept) mid × Releases mid new

  -- the result of a task that has one and is gone
  pub record Takes (old : StoreState B K O) (t : ℕ) (kept : K × O) (new : StoreState B K O) : Type 0 where
    pub free : old.stuck ≡ false
    pub is : is_kept old.past.events t ≡ true
    pub gone : is_gone (place old.past.events t) ≡ true
    pub has : entries old.results t ≡ Some kept
    pub mid : StoreState B K O
    pub marks : Marks old t mid
    pub releases : Releases mid new

  -- a normal task has no result: it was taken, or the task gives none
  pub record HasNone (old : StoreState B K O) (t : ℕ) : Type 0 where
    pub none : entries old.results t ≡ None
    pub why : (is_in t old.taken ≡ true) ⊎ GivesNone old.past.events t

  -- the task has no result; if it is normal, as above
  abbrev pub FindsNone : StoreState B K O → ℕ → Type 0
  FindsNone old t = (entries old.results t ≡ None) × (status old.past.events t ≡ Normal → HasNone old t)

  -- a body takes a result: Unknown if the task is not kept; NotDone if it is not gone, or has no result
  abbrev pub TakesResult : StoreState B K O → ℕ → Told B K O → StoreState B K O → Type 0
  TakesResult old t (told.Hear (hears.Got k o)) new = Takes old t (k, o) new
  TakesResult old t (told.Hear (hears.Refused Unknown)) new = (old.stuck ≡ false) × (is_kept old.past.events t ≡ false) × (new ≡ old)
  TakesResult old t (told.Hear (hears.Refused NotDone)) new =
      (old.stuck ≡ false) × (is_kept old.past.events t ≡ true) × ((is_gone (place old.past.events t) ≡ false) ⊎ FindsNone old t) × (new ≡ old)
  TakesResult old t (told.Stuck None) new = (old.stuck ≡ true) × (new ≡ old)
  TakesResult old t _ new = ⊥

  -- a task's result is dropped, and then what can be is released, the task too
  pub record GivesUp (old : StoreState B K O) (t : ℕ) (new : StoreState B K O) : Type 0 where
    pub free : old.stuck ≡ false
    pub is : is_kept old.past.events t ≡ true
    pub first : is_in t old.taken ≡ false
    pub mid : StoreState B K O
    pub marks : Marks old t mid
    pub releases : Releases mid new

  -- a body gives up a task: Unknown if it is not kept, or was taken before
  abbrev pub LetsGo : StoreState B K O → ℕ → Told B K O → StoreState B K O → Type 0
  LetsGo old t (told.Hear hears.Went) new = GivesUp old t new
  LetsGo old t (told.Hear (hears.Refused r)) new = (old.stuck ≡ false) × (r ≡ Unknown) × ((is_in t old.taken ≡ true) ⊎ (is_kept old.past.events t ≡ false)) × (new ≡ old)
  LetsGo old t (told.Stuck None) new = (old.stuck ≡ true) × (new ≡ old)
  LetsGo old t _ new = ⊥

  -- the outcome of a task with this status, and with this result if one was kept
  abbrev pub outcome_of : Status → Option (K × O) → Outcome B K O
  outcome_of Normal kept = outcome.Normal kept
  outcome_of (Exceptional code) kept = outcome.Exceptional code
  outcome_of Cancelled kept = outcome.Cancelled
  outcome_of Undone kept = outcome.Cancelled

  -- how the task ended
  abbrev pub status_in : Outcome B K O → Status
  status_in (outcome.Normal kept) = Normal
  status_in (outcome.Exceptional code) = Exceptional code
  status_in outcome.Cancelled = Cancelled

  -- the result with its key, if there is one
  abbrev pub kept_in : Outcome B K O → Option (K × O)
  kept_in (outcome.Normal kept) = kept
  kept_in (outcome.Exceptional code) = None
  kept_in outcome.Cancelled = None

  -- the outcome has the result that the task gave
  abbrev pub IsWhole : List Event → ℕ → Outcome B K O → Type 0
  IsWhole h t (outcome.Normal None) = GivesNone h t
  IsWhole h t _ = ⊤

  -- the outcome of a done task is returned, and its result is taken out; then what can be is released
  pub record Tells (old : StoreState B K O) (t : ℕ) (told : Outcome B K O) (new : StoreState B K O) : Type 0 where
    pub is : is_kept old.past.events t ≡ true
    pub first : is_in t old.taken ≡ false
    pub done : is_undone (status old.past.events t) ≡ false
    pub told_is : told ≡ outcome_of (status old.past.events t) (entries old.results t)
    pub whole : IsWhole old.past.events t told
    pub mid : StoreState B K O
    pub marks : Marks old t mid
    pub releases : Releases mid new

  -- Unknown if it was taken before or is not kept; none while it is undone; else its outcome
  abbrev pub Collects : StoreState B K O → ℕ → Option (Result (Outcome B K O) Refusal) → StoreState B K O → Type 0
  Collects old t (Some (Err r)) new = (r ≡ Unknown) × ((is_in t old.taken ≡ true) ⊎ (is_kept old.past.events t ≡ false)) × (new ≡ old)
  Collects old t None new = (is_kept old.past.events t ≡ true) × (is_in t old.taken ≡ false) × (is_undone (status old.past.events t) ≡ true) × (new ≡ old)
  Collects old t (Some (Ok told)) new = Tells old t told new
