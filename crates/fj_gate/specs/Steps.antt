-- What a seat knows, and what it learns by each step on the word. That is twice a count while the gate is open, and odd once it is closed.
use Rattle.std.specs.Prelude.{◌≡◌, ◌≢◌, ℕ, ◌+◌, ◌-◌, ◌/◌, ◌%◌, ◌≤◌, max, [], ◌∷◌, ◌++◌, Some, None, IfSome, IsSome}
use Rattle.atomic_table.specs.Table.{Me, Step}
use Rattle.fj_rules.specs.declared.limits.TheConstants.{MAX_SUBMITTERS}
use Rattle.fj_gate.specs.Numbers.{IsNumbersBelow}
use Rattle.fj_gate.specs.declared.word.View.{View}

-- a seat: its view, and the slots that it holds, of which there are none here
abbrev pub Seated : Type 0
Seated = Me (Unit {0}) View

-- these parts, and nothing drawn, told or seen
abbrev pub fresh : ℕ → View
fresh parts = record { parts = parts; drawn = []; told = 0; heard = 0; seen = 0; closed = None }

-- it draws the ticket n
abbrev pub drew : ℕ → View → View
drew n v = record v { drawn = v.drawn ++ n ∷ []; seen = n + 1 }

-- an admission tells it Closed
abbrev pub turned : View → View
turned v = record v { told = v.told + 1 }

-- a query tells it Closed
abbrev pub heard_closed : View → View
heard_closed v = record v { heard = v.heard + 1 }

-- it sees n admissions
abbrev pub saw : ℕ → View → View
saw n v = record v { seen = n }

-- it closes the gate at n
abbrev pub closed_at : ℕ → View → View
closed_at n v = record v { seen = n; closed = Some n }

-- an admission
abbrev pub Admits : Step (Unit {0}) → Seated → ℕ → Seated → Type 0
Admits st m found m' =
    (found % 2 ≡ 0 → (m.0.seen ≤ found / 2) × (m' ≡ (drew (found / 2) m.0, m.1)))
    × (found % 2 ≢ 0 → m' ≡ (turned m.0, m.1))

-- a query by an entrant
abbrev pub Looks : Step (Unit {0}) → Seated → ℕ → Seated → Type 0
Looks st m found m' =
    (found % 2 ≡ 0 → (m.0.seen ≤ found / 2) × (m.0.told ≡ 0) × (m.0.heard ≡ 0) × (m' ≡ (saw (found / 2) m.0, m.1)))
    × (found % 2 ≢ 0 → m' ≡ (heard_closed m.0, m.1))

-- a query by the closer, which knows whether it has closed the gate
abbrev pub Watches : Step (Unit {0}) → Seated → ℕ → Seated → Type 0
Watches st m found m' =
    (found % 2 ≡ 0 → (m.0.seen ≤ found / 2) × (m.0.closed ≡ None) × (m' ≡ (saw (found / 2) m.0, m.1)))
    × (found % 2 ≢ 0 → IsSome m.0.closed × (m' ≡ m))

-- a close
abbrev pub Closes : Step (Unit {0}) → Seated → ℕ → Seated → Type 0
Closes st m found m' =
    (found % 2 ≡ 0 → (m.0.seen ≤ found / 2) × (m.0.closed ≡ None) × (m' ≡ (closed_at (found / 2) m.0, m.1)))
    × (found % 2 ≢ 0 → IsSome m.0.closed × IfSome m.0.closed (λ n. m.0.seen ≤ n) × (m' ≡ m))

-- the last query, by the closer with all parts and all tickets
abbrev pub Meets : Step (Unit {0}) → Seated → ℕ → Seated → Type 0
Meets st m found m' =
    m.0.parts ≡ MAX_SUBMITTERS
    → (found % 2 ≡ 0 → (m.0.closed ≡ None) × IsNumbersBelow (found / 2) m.0.drawn × (m.0.seen ≤ found / 2) × (m.0.told ≡ 0) × (m.0.heard ≡ 0))
    × (found % 2 ≢ 0 → (n : ℕ) × (m.0.closed ≡ Some n) × IsNumbersBelow n m.0.drawn × (m.0.seen ≤ n))

-- one part is split off for an entrant
abbrev pub less_one : View → View
less_one v = record v { parts = v.parts - 1 }

-- the first seat takes in what the second has drawn, seen and been told
abbrev pub together : View → View → View
together v w = record v { parts = v.parts + w.parts; drawn = v.drawn ++ w.drawn; told = v.told + w.told; heard = v.heard + w.heard; seen = max v.seen w.seen }
