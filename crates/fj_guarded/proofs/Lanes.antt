-- What each call of a core leaves of its lanes.
use Rattle.std.proofs.Common.{ℕ, ◌≡◌, List, Option, Some, inl, inr, refl, ap, sym, ◌∙◌}
use Rattle.std.specs.Prelude.{slice_get, slice_set}
use Rattle.std.proofs.Math.Seq.{map-set_same}
use Rattle.std.proofs.lemmas.Option.{get_or_from_slice_get}
use Rattle.fj_lane.specs.Ends.{DrainState, LaneId}
use Rattle.fj_calls.specs.declared.taken_in.Intake.{Intake}
use Rattle.fj_calls.specs.declared.taken_in.Intake.TheVariants as intake
use Rattle.fj_calls.specs.Cores.{CoreState, ChangesStore}
use Rattle.fj_calls.specs.Intakes.{Intakes}
use Rattle.fj_guarded.specs.Lanes.{KeepsLanes}
use Rattle.fj_submitter.specs.Lanes.{lanes_of}

-- a drain after a take is of the same lane
set_keeps : {B : Type 0} (lanes : List (DrainState B)) (s : ℕ) (lane lane' : DrainState B) → slice_get lanes s ≡ Some lane → lane'.lane ≡ lane.lane → lanes_of (slice_set lanes s lane') ≡ lanes_of lanes
set_keeps {B = B} lanes s lane lane' at same = map-set_same (λ (d : DrainState B). d.lane) lanes s lane' lane (same ∙ ap (λ (d : DrainState B). d.lane) (sym (get_or_from_slice_get lanes s lane lane at)))

module _ {B K O : Type 0} where
  abbrev lanes_in : CoreState B K O → List LaneId
  lanes_in core = lanes_of core.lanes

  pub changes_keep : (old new : CoreState B K O) → ChangesStore old new → KeepsLanes old new
  changes_keep old new is = ap lanes_in is

  pub intakes_keep : (rooted_as : B → Option ℕ) (old new : CoreState B K O) (s : ℕ) (answer : Intake) → Intakes rooted_as old s answer new → KeepsLanes old new
  intakes_keep rooted_as old new s (intake.Full r) is = changes_keep old new is.1
  intakes_keep rooted_as old new s intake.Empty (inl over) = ap lanes_in over.2
  intakes_keep rooted_as old new s intake.Empty (inr misses) = ap lanes_in misses.missed ∙ set_keeps old.lanes s misses.lane _ misses.at refl
  intakes_keep rooted_as old new s (intake.Took serial) takes = ap lanes_in takes.others ∙ set_keeps old.lanes s takes.lane _ takes.at refl
