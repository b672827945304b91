-- The path from a task to its root, and how far a climb goes.
use Rattle.std.specs.Prelude.{ℕ, ◌≡◌, zero, suc, Bool, true, false, ◌||◌, nat_lt, if◌then◌else◌, List, [], ◌∷◌, Option, Some, None, is_some}
use Rattle.std.specs.List.{take_while, filter_map}
use Rattle.fj_rules.specs.declared.event.Event.{Event}
use Rattle.fj_rules.specs.declared.event.Event.TheVariants.{Dec, Fire, Pass}
use Rattle.fj_rules.specs.Lists.{is_in}
use Rattle.fj_rules.specs.Tasks.{kind, parent, relay_in, is_completer}
use Rattle.fj_rules.specs.Statuses.{status, is_undone}
use Rattle.fj_rules.specs.Completers.{is_spent, pending}
use Rattle.fj_rules.specs.Places.{queued_in, held_by}

-- the task, its parent, the parent's parent and so on, at most so many
unfoldable pub path_up : ℕ → List Event → Option ℕ → List ℕ
path_up zero h from = []
path_up (suc most) h None = []
path_up (suc most) h (Some c) = c ∷ path_up most h (parent h c)

-- up to the root. A parent's number is smaller than its child's, so the path is no longer than that
unfoldable pub path : List Event → ℕ → List ℕ
path h c = path_up (suc c) h (Some c)

-- the longest prefix of the path in which each is undone, and each but the last says relay
unfoldable pub relayed_along : List Event → List ℕ → List ℕ
relayed_along h [] = []
relayed_along h (c ∷ above) =
    if is_undone (status h c) then c ∷ (if relay_in (kind h c) then relayed_along h above else []) else []

unfoldable pub relayed : List Event → ℕ → List ℕ
relayed h t = relayed_along h (path h t)

-- what an arrival at a completer does
pub data Arrival : Type 0 where
  Spent : Arrival
  Counted : Arrival
  Early : Arrival
  Fires : Arrival

-- the first case that holds
unfoldable pub arrival : List Event → ℕ → Arrival
arrival h c =
    if is_spent h c then Spent
    else if nat_lt 0 (pending h c) then Counted
    else if is_some (queued_in h c) || is_some (held_by h c) then Early
    else Fires

abbrev pub does_fire : Arrival → Bool
does_fire Fires = true
does_fire Spent = false
does_fire Counted = false
does_fire Early = false

-- the longest prefix of the path at whose members an arrival fires
unfoldable pub passed : List Event → ℕ → List ℕ
passed h c = take_while (λ d. does_fire (arrival h d)) (path h c)

-- the completer at which this event counts an arrival, which it fires, or which it passes
abbrev pub climbed_by : Event → Option ℕ
climbed_by (Dec c) = Some c
climbed_by (Fire c how) = Some c
climbed_by (Pass c) = Some c
climbed_by _ = None

unfoldable pub climbed : List Event → List ℕ
climbed h = filter_map climbed_by h

-- each event of a climb is at a completer
abbrev pub ClimbsCompleters : List Event → Type 0
ClimbsCompleters h = (c : ℕ) → is_in c (climbed h) ≡ true → is_completer h c ≡ true
