-- How taken tasks are released: one after another.
use Rattle.std.specs.Prelude.{ℕ, ◌≡◌, ◌≤◌, Bool, true, false, map, length, drop, List, [], ◌∷◌, Option, Some, None, Result, Ok, Err, ⊤}
use Rattle.fj_rules.specs.declared.event.Event.TheVariants.{Rel}
use Rattle.fj_rules.specs.Lists.{is_in, times_in, without}
use Rattle.fj_rules.specs.Epochs.{IsPast}
use Rattle.fj_rules.specs.Pasts.{Past, grown, limit}
use Rattle.fj_rules.specs.Releasable.{can_go, CanAllGo}
use Rattle.fj_slots.specs.Marked.{SerialList}
use Rattle.fj_bodies.specs.declared.tries.HistoryFull.{HistoryFull}
use Rattle.fj_bodies.specs.declared.tries.Tried.{Tried}
use Rattle.fj_bodies.specs.declared.tries.Tried.TheVariants as tried
use Rattle.fj_body.specs.Releases.{AreAmong, NoneGoes, OneGoes, RestsAt}
use Rattle.fj_bodies.specs.DueTasks.{OnlyGoes}

-- what a release sees of a store: the machine's past, and the taken tasks
pub record WaitState : Type 0 where
  pub past : Past
  pub taken : SerialList

abbrev pub waits : Past → SerialList → WaitState
waits past taken = record { past = past; taken = taken }

-- the past is that of some run, and each taken task stands once
pub record AreWaiting (w : WaitState) : Type 0 where
  pub run : IsPast w.past
  pub once : (t : ℕ) → times_in t w.taken.items ≤ 1

-- with these tasks released
abbrev pub freed : WaitState → List ℕ → WaitState
freed w ts = record { past = grown w.past (map Rel ts); taken = record { items = without w.taken.items ts; room = w.taken.room } }

-- some of the taken tasks were released, each when it could be
abbrev pub ReleasesSome : WaitState → WaitState → Type 0
ReleasesSome old new = (ts : List ℕ) × AreAmong ts old.taken.items × CanAllGo old.past.events ts × (new ≡ freed old ts)

-- some were released, and no taken task can be now; or the history was full, and the store is stuck
pub record ReleasesDue (old : WaitState) (was : Bool) (new : WaitState) (stuck : Bool) : Type 0 where
  pub some : ReleasesSome old new
  pub rests : RestsAt new.past new.taken.items was stuck

-- the try to release a task
abbrev pub Tries : WaitState → ℕ → Tried → WaitState → Type 0
Tries old t tried.Released new = (can_go old.past.events t ≡ true) × (new ≡ freed old (t ∷ []))
Tries old t tried.Full new = (can_go old.past.events t ≡ true) × (limit old.past ≤ length old.past.events) × (new ≡ old)
Tries old t tried.Needed new = (can_go old.past.events t ≡ false) × (new ≡ old)

-- some were released before the history was full, and a taken task can be released yet
abbrev pub StopsFull : WaitState → WaitState → Type 0
StopsFull old new = ReleasesSome old new × OneGoes new.past.events new.taken.items × (limit new.past ≤ length new.past.events)

-- no taken task from this index on can be released
abbrev pub NoneGoesFrom : ℕ → WaitState → Type 0
NoneGoesFrom from w = NoneGoes w.past.events (drop from w.taken.items)

-- of the taken tasks from this index on at most this one can be released
abbrev pub OnlyGoesFrom : ℕ → WaitState → ℕ → Type 0
OnlyGoesFrom from w t = OnlyGoes w.past.events (drop from w.taken.items) t

-- some were released, and of those from this index on none can be now; or the history was full
abbrev pub ReleasesFrom : ℕ → WaitState → Result ⊤ HistoryFull → WaitState → Type 0
ReleasesFrom from old (Ok done) new = ReleasesSome old new × NoneGoesFrom from new
ReleasesFrom from old (Err full) new = StopsFull old new

-- some tasks were released; if from an index on only this one could be, none from there on can be now; or the history was full
abbrev pub ReleasesUp : ℕ → WaitState → Result ⊤ HistoryFull → WaitState → Type 0
ReleasesUp t old (Ok done) new = ReleasesSome old new × ((from : ℕ) → OnlyGoesFrom from old t → NoneGoesFrom from new)
ReleasesUp t old (Err full) new = StopsFull old new

-- it was released, and from each such index on only its parent can be now; or, if no parent is returned, as above
abbrev pub ReleasesHere : ℕ → WaitState → Result (Option ℕ) HistoryFull → WaitState → Type 0
ReleasesHere t old (Ok (Some p)) new =
    (is_in t old.taken.items ≡ true) × (can_go old.past.events t ≡ true) × (new ≡ freed old (t ∷ [])) × ((from : ℕ) → OnlyGoesFrom from old t → OnlyGoesFrom from new p)
ReleasesHere t old (Ok None) new = ReleasesUp t old (Ok tt) new
ReleasesHere t old (Err full) new = ReleasesUp t old (Err full) new
