-- Which of the tasks whose outcome or result was taken may be releasable.
use Rattle.std.specs.Prelude.{ℕ, ◌≡◌, ◌≤◌, Bool, true, false, List, ⊤}
use Rattle.fj_rules.specs.declared.event.Event.{Event}
use Rattle.fj_rules.specs.declared.step.Step.{Step}
use Rattle.fj_rules.specs.declared.step.Step.TheVariants as ask
use Rattle.fj_rules.specs.declared.limits.TheConstants.{MAX_TASKS}
use Rattle.fj_rules.specs.Lists.{is_in}
use Rattle.fj_rules.specs.Pasts.{Past}
use Rattle.fj_rules.specs.Releasable.{can_go}
use Rattle.fj_slots.specs.Marked.{SerialList}
use Rattle.fj_slots.specs.Shelves.{Shelved, entries}
use Rattle.fj_bodies.specs.declared.due.Due.{Due}
use Rattle.fj_bodies.specs.declared.due.Due.TheVariants as due
use Rattle.fj_body.specs.Stores.{IsStored, HasResults}
use Rattle.fj_body.specs.Releases.{NoneGoes}

-- at most this one of these can be released
abbrev pub OnlyGoes : List Event → List ℕ → ℕ → Type 0
OnlyGoes h ts t = (u : ℕ) → is_in u ts ≡ true → can_go h u ≡ true → u ≡ t

-- only due ones of these can be released
abbrev pub AreDue : List Event → List ℕ → Due → Type 0
AreDue h ts due.Nothing = NoneGoes h ts
AreDue h ts (due.One t) = OnlyGoes h ts t
AreDue h ts due.All = ⊤

-- what is due after a step that hands no task out and ends no body
abbrev pub due_after : Step → Due
due_after (ask.QuietRoot w t) = due.One t
due_after (ask.Fault t code) = due.One t
due_after (ask.Cancel t) = due.One t
due_after ask.Stop = due.All
due_after _ = due.Nothing

-- there is room for as many bodies, results and marks of taken tasks as there may be kept tasks, at most `MAX_TASKS`
pub record HasRoom (tasks for_bodies for_results for_marks : ℕ) : Type 0 where
  pub bodies : tasks ≤ for_bodies
  pub results : tasks ≤ for_results
  pub taken : tasks ≤ for_marks
  pub few : tasks ≤ MAX_TASKS

-- what holds of every store between two calls
pub record HoldsStore {B R : Type 0} (past : Past) (bodies : Shelved B) (results : Shelved R) (taken : SerialList) (stuck : Bool) : Type 0 where
  pub stored : IsStored past (entries bodies) (entries results) taken.items
  -- no result was lost
  pub complete : HasResults past (entries results) taken.items
  pub room : HasRoom past.pool.limits.tasks bodies.room results.room taken.room
  -- no taken task can be released, unless the store is stuck
  pub rests : stuck ≡ false → NoneGoes past.events taken.items
