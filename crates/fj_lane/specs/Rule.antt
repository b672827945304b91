-- The lane's invariant: what its deque holds, beside what each end has pushed and taken. It holds between any two steps.
use Rattle.std.specs.Prelude.{◌≡◌, ℕ, Bool, true, List, ◌++◌, drop, length}
use mathlib.Core.Option.{some}
use lib.ListN.{get_elem?}
use Rattle.fj_lane.specs.declared.parcel.Parcel.{Parcel}
use Rattle.fj_lane.specs.declared.rule.View.{View}

module _ {B : Type 0} where
  abbrev pub view_of : Bool → Bool → List (Parcel B) → List (Parcel B) → View B
  view_of feeds drains fed drained = record { feeds = feeds; drains = drains; fed = fed; drained = drained }

  -- it pushes these
  abbrev pub fed_more : List (Parcel B) → View B → View B
  fed_more xs v = view_of v.feeds v.drains (v.fed ++ xs) v.drained

  -- it takes these
  abbrev pub drained_more : List (Parcel B) → View B → View B
  drained_more xs v = view_of v.feeds v.drains v.fed (v.drained ++ xs)

  -- what was pushed and not taken, for the holder of both ends
  abbrev pub undrained : View B → List (Parcel B)
  undrained v = drop (length v.drained) v.fed

  -- an end that may push is the feeder and knows what was pushed; one that may take is the drainer and knows what was taken
  abbrev pub Fits : ℕ → ℕ → List (Parcel B) → List (Parcel B) → ℕ → View B → Type 0
  Fits feeder drainer fed drained port v = (v.feeds ≡ true → (port ≡ feeder) × (v.fed ≡ fed)) × (v.drains ≡ true → (port ≡ drainer) × (v.drained ≡ drained))

  -- what was pushed is what was taken, followed by what the deque holds. One end at most is the feeder, and one the drainer
  abbrev pub IsLane : List (Parcel B) → List (View B) → Type 0
  IsLane held views = (feeder : ℕ) × (drainer : ℕ) × (fed : List (Parcel B)) × (drained : List (Parcel B)) × (fed ≡ drained ++ held)
      × ((port : ℕ) (v : View B) → get_elem? views port ≡ some v → Fits feeder drainer fed drained port v)
