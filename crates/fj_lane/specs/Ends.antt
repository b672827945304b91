-- The two ends of a lane as their callers see them.
use Rattle.std.specs.Prelude.{ℕ, ◌≡◌, ◌+◌, ◌<◌, List, [], ◌∷◌, ◌++◌, length, Option, MatchOption}
use Rattle.std.specs.declared.alloc.Global.{Global}
use Rattle.fj_lane.specs.declared.parcel.Parcel.{Parcel}

-- which lane it is: the identity of its deque, and where its memory is from
abbrev pub LaneId : Type 0
LaneId = (ℕ × ℕ) × Global

-- the lane, the parcels that the feed pushed, in order, and how many it may push in all
pub record FeedState (B : Type 0) : Type 0 where
  pub lane : LaneId
  pub fed : List (Parcel B)
  pub capacity : ℕ

-- the lane, the parcels that the drain took, in order, and how many takes gave none
pub record DrainState (B : Type 0) : Type 0 where
  pub lane : LaneId
  pub drained : List (Parcel B)
  pub missed : ℕ
  pub capacity : ℕ

module _ {B : Type 0} where
  -- a feed that has done nothing
  abbrev pub new_feed : LaneId → ℕ → FeedState B
  new_feed lane capacity = record { lane = lane; fed = []; capacity = capacity }

  -- a drain that has done nothing
  abbrev pub new_drain : LaneId → ℕ → DrainState B
  new_drain lane capacity = record { lane = lane; drained = []; missed = 0; capacity = capacity }

  -- the feed pushes a parcel behind the others; there was room for it
  abbrev pub Pushes : FeedState B → Parcel B → FeedState B → Type 0
  Pushes f parcel f' = (length f.fed < f.capacity) × (f' ≡ record f { fed = f.fed ++ parcel ∷ [] })

  -- the drain takes a parcel; or it takes none, which is one miss more
  abbrev pub Takes : DrainState B → Option (Parcel B) → DrainState B → Type 0
  Takes d taken d' = MatchOption taken (d' ≡ record d { missed = d.missed + 1 }) (λ parcel. d' ≡ record d { drained = d.drained ++ parcel ∷ [] })
