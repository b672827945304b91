-- How far each task has come.
use Rattle.std.specs.Prelude.{ℕ, Bool, true, false, ◌||◌, ◌==◌, if◌then◌else◌, List, [], ◌∷◌, Option, Some, None, codes, decimal}
use Rattle.fj_rules.specs.declared.event.Event.{Event}
use Rattle.fj_rules.specs.declared.event.Event.TheVariants.{Acc, Make, Settle, Stop}
use Rattle.fj_rules.specs.declared.status.Status.{Status}
use Rattle.fj_rules.specs.declared.status.Status.TheVariants.{Undone, Normal, Exceptional, Cancelled}
use Rattle.fj_rules.specs.Lists.{or_else}

abbrev pub accepts : ℕ → Event → Bool
accepts t (Acc u o k) = u == t
accepts t (Make u k) = u == t
accepts t _ = false

-- the status that this event gives the task; `before`: whether it was accepted before the event
abbrev pub status_by : ℕ → Bool → Event → Option Status
status_by t before (Settle u s) = if u == t then Some s else None
status_by t before Stop = if before then Some Cancelled else None
status_by t before _ = None

-- the first status that these events give the task; `before`: whether it was accepted before them
unfoldable pub status_from : ℕ → Bool → List Event → Option Status
status_from t before [] = None
status_from t before (e ∷ later) = or_else (status_by t before e) (status_from t (before || accepts t e) later)

abbrev pub or_undone : Option Status → Status
or_undone (Some s) = s
or_undone None = Undone

-- the first status that the task got, undone if it got none
unfoldable pub status : List Event → ℕ → Status
status h t = or_undone (status_from t false h)

abbrev pub is_undone : Status → Bool
is_undone Undone = true
is_undone Normal = false
is_undone (Exceptional code) = false
is_undone Cancelled = false

-- its words in a reply
abbrev pub status_words : Status → List (List ℕ)
status_words Undone = codes "undone" ∷ []
status_words Normal = codes "normal" ∷ []
status_words (Exceptional code) = codes "exceptional" ∷ decimal code ∷ []
status_words Cancelled = codes "cancelled" ∷ []
