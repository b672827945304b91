-- The machine with the bodies that no worker holds, and the results.
use Rattle.std.specs.Prelude.{ℕ, ◌≡◌, ◌≤◌, Bool, true, false, ◌&&◌, ◌++◌, length, drop, Option, Some, None, List}
use Rattle.std.specs.List.{filter_map}
use Rattle.fj_rules.specs.declared.event.Event.{Event}
use Rattle.fj_rules.specs.declared.event.Event.TheVariants.{Hooked}
use Rattle.fj_rules.specs.declared.place.Place.{Place}
use Rattle.fj_rules.specs.declared.place.Place.TheVariants.{Queued, Held, Open, Gone}
use Rattle.fj_rules.specs.declared.status.Status.TheVariants.{Normal}
use Rattle.fj_rules.specs.Lists.{is_in, times_in}
use Rattle.fj_rules.specs.Tasks.{tasks, is_kept, is_completer, released}
use Rattle.fj_rules.specs.Completers.{is_spent}
use Rattle.fj_rules.specs.Places.{place, gone, is_gone}
use Rattle.fj_rules.specs.Statuses.{status}
use Rattle.fj_rules.specs.Inside.{IsInside}
use Rattle.fj_rules.specs.Releasable.{hooked}
use Rattle.fj_rules.specs.Pasts.{Past}
use Rattle.fj_rules.specs.Epochs.{IsPast}
use Rattle.fj_slots.specs.Shelves.{Entries, Shelved, entries, is_there, without_entries}

-- what contracts see of a store: the machine's past; the bodies that no worker holds and the results that were not taken, each under its
-- task's number; the kept tasks whose outcome or result was taken; and whether it is stuck
pub record StoreState (B K O : Type 0) : Type 0 where
  pub past : Past
  pub bodies : Shelved B
  pub results : Shelved (K × O)
  pub taken : List ℕ
  pub stuck : Bool

-- whether a task at this place waits without a worker
abbrev pub is_waiting : Place → Bool
is_waiting (Queued o) = true
is_waiting (Held w) = false
is_waiting Open = true
is_waiting Gone = false

-- whether the task is queued or open, so that no worker holds its body
unfoldable pub has_body : List Event → ℕ → Bool
has_body h t = is_in t (tasks h) && is_waiting (place h t)

-- no task whose completion action is in a hand was released
abbrev pub NoneReleased : List Event → Type 0
NoneReleased h = (c : ℕ) → is_in c (hooked h) ≡ true → is_in c (released h) ≡ true → ⊥

-- the bodies are those of the queued and open tasks
abbrev pub HoldsBodies : {B : Type 0} → List Event → Entries B → Type 0
HoldsBodies h bodies = (t : ℕ) → is_there bodies t ≡ has_body h t

-- kept tasks, each at most once
pub record AreKept (h : List Event) (ns : List ℕ) : Type 0 where
  pub kept : (t : ℕ) → is_in t ns ≡ true → is_kept h t ≡ true
  pub once : (t : ℕ) → times_in t ns ≤ 1

-- a plain task is gone; a completer is spent, and its completion action is in no hand
abbrev pub IsGiven : Bool → List Event → ℕ → Type 0
IsGiven false h t = is_gone (place h t) ≡ true
IsGiven true h t = (is_spent h t ≡ true) × (is_in t (hooked h) ≡ false)

-- the task gives no further result
abbrev pub GivesNoMore : List Event → ℕ → Type 0
GivesNoMore h t = IsGiven (is_completer h t) h t

-- what holds of every store
pub record IsStored {B R : Type 0} (past : Past) (bodies : Entries B) (results : Entries R) (taken : List ℕ) : Type 0 where
  -- its machine's past is that of some run
  pub run : IsPast past
  pub bodies_held : HoldsBodies past.events bodies
  -- a result is that of a kept task
  pub results_kept : (t : ℕ) → is_there results t ≡ true → is_kept past.events t ≡ true
  -- it is the last that the task gives
  pub results_given : (t : ℕ) → is_there results t ≡ true → GivesNoMore past.events t
  pub taken_kept : AreKept past.events taken
  -- a task whose result was taken has none
  pub apart : (t : ℕ) → is_in t taken ≡ true → results t ≡ None
  -- no task is released while its completion action is in a hand
  pub hooks_kept : NoneReleased past.events

-- the completer whose completion action ended by this event
abbrev pub hook_ended_by : Event → Option ℕ
hook_ended_by (Hooked c) = Some c
hook_ended_by _ = None

-- the completers whose completion action has ended
unfoldable pub hooks_ended : List Event → List ℕ
hooks_ended h = filter_map hook_ended_by h

-- no result was lost: of the kept tasks that were not taken
pub record HasResults {R : Type 0} (past : Past) (results : Entries R) (taken : List ℕ) : Type 0 where
  -- each completer whose completion action has ended has its result
  pub hooked : (c : ℕ) → is_kept past.events c ≡ true → is_in c (hooks_ended past.events) ≡ true → is_in c taken ≡ false → is_there results c ≡ true
  -- and each plain task that became normal
  pub plain : (t : ℕ) → is_kept past.events t ≡ true → is_completer past.events t ≡ false → status past.events t ≡ Normal → is_in t taken ≡ false → is_there results t ≡ true

-- the tasks that became gone between the two
abbrev pub went : Past → Past → List ℕ
went old new = drop (length (gone old.events)) (gone new.events)

module _ {B K O : Type 0} where
  -- the bodies without those of the tasks that became gone since
  abbrev pub still_held : StoreState B K O → Past → Entries B
  still_held old past = without_entries (entries old.bodies) (went old.past past)

  -- events were appended; nothing was submitted, closed, stopped or sealed, and a store that was stuck is stuck
  pub record StaysInside (old new : StoreState B K O) : Type 0 where
    pub past : IsInside old.past new.past
    pub grows : (es : List Event) × (new.past.events ≡ old.past.events ++ es)
    pub stuck : new.stuck ≡ false → old.stuck ≡ false
