-- The two kinds of end of a gate as their callers see them, and what queries and closes do to them.
use Rattle.std.specs.Prelude.{◌≡◌, ℕ, ◌+◌, ◌≤◌, List, [], ◌∷◌, ◌++◌, Bool, true, false, Option, Some, None, IsSome, flat_map}
use Rattle.atomic_table.specs.Seated.{TableId}
use Rattle.fj_gate.specs.declared.closer.Closing.{Closing}
use Rattle.fj_gate.specs.declared.closer.Closing.TheVariants.{First, Already}
use Rattle.fj_gate.specs.declared.look.Look.{Look}
use Rattle.fj_gate.specs.declared.look.Look.TheVariants.{Open, Closed}

-- the gate, the tickets that this entrant drew, in order, whether it was told Closed, the greatest count that it has seen, and how many
-- tickets it may draw
pub record EntrantState : Type 0 where
  pub gate : TableId
  pub drawn : List ℕ
  pub told : Bool
  pub seen : ℕ
  pub each : ℕ

-- the gate, the number at which the closer closed it, the greatest count that it has seen, and how many entrants were made
pub record CloserState : Type 0 where
  pub gate : TableId
  pub closed : Option ℕ
  pub seen : ℕ
  pub submitters : ℕ

-- an entrant that has done nothing
abbrev pub new_entrant : TableId → ℕ → EntrantState
new_entrant gate each = record { gate = gate; drawn = []; told = false; seen = 0; each = each }

-- a closer that has done nothing
abbrev pub new_closer : TableId → ℕ → CloserState
new_closer gate submitters = record { gate = gate; closed = None; seen = 0; submitters = submitters }

-- the tickets that these entrants drew, joined
abbrev pub drawn_by : List EntrantState → List ℕ
drawn_by entrants = flat_map (λ e. e.drawn) entrants

-- The entrant draws a ticket. It was not told Closed, and the ticket is not below what it has seen
abbrev pub Draws : EntrantState → ℕ → EntrantState → Type 0
Draws e ticket e' = (e.told ≡ false) × (e.seen ≤ ticket) × (e' ≡ record e { drawn = e.drawn ++ ticket ∷ []; seen = ticket + 1 })

-- An entrant's query. A count is not below what it has seen, and comes only if it was not told Closed; Closed is remembered
abbrev pub Looked : EntrantState → Look → EntrantState → Type 0
Looked e (Open n) e' = (e.told ≡ false) × (e.seen ≤ n) × (e' ≡ record e { seen = n })
Looked e Closed e' = e' ≡ record e { told = true }

-- The closer's query. A count is not below what it has seen, and comes exactly if it has not closed
abbrev pub Watched : CloserState → Look → CloserState → Type 0
Watched c (Open n) c' = (c.closed ≡ None) × (c.seen ≤ n) × (c' ≡ record c { seen = n })
Watched c Closed c' = IsSome c.closed × (c' ≡ c)

-- The first close sets the closing number, which is not below what the closer has seen. A later one returns it again
abbrev pub ClosedBy : CloserState → Closing → CloserState → Type 0
ClosedBy c (First n) c' = (c.closed ≡ None) × (c.seen ≤ n) × (c' ≡ record c { closed = Some n; seen = n })
ClosedBy c (Already n) c' = (c.closed ≡ Some n) × (c.seen ≤ n) × (c' ≡ c)
