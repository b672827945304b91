-- The steps of a run, and what became of each node.
use Rattle.std.specs.Prelude.{ℕ, ◌≡◌, ◌<◌, ◌&&◌, ◌==◌, Bool, true, false, List, Some, IfSome, get_or, length, slice_get, take}
use Rattle.std.specs.List.{list_all, list_any}
use Rattle.fj_nodes.specs.declared.fate.Fate.{Fate}
use Rattle.fj_nodes.specs.declared.fate.Fate.TheVariants.{Done, Failed, Skipped}
use Rattle.fj_nodes.specs.declared.node.NodeId.{NodeId}
use Rattle.fj_nodes.specs.declared.graph_step.GraphStep.{GraphStep}
use Rattle.fj_nodes.specs.declared.graph_step.GraphStep.TheVariants.{Begun, Ended}
use Rattle.fj_nodes.specs.declared.node_state.NodeState.{NodeState}
use Rattle.fj_nodes.specs.declared.node_state.NodeState.TheVariants.{Waiting, Ended as Over}
use Rattle.fj_nodes.specs.Graphs.{inputs_at}

-- ---- a step

-- n begins by it
abbrev pub begins : ℕ → GraphStep → Bool
begins n (Begun m) = m.0 == n
begins n (Ended m f) = false

-- n ends by it
abbrev pub ends : ℕ → GraphStep → Bool
ends n (Begun m) = false
ends n (Ended m f) = m.0 == n

-- the work of n is done by it
abbrev pub ends_done : ℕ → GraphStep → Bool
ends_done n (Ended m Done) = m.0 == n
ends_done n _ = false

-- the work of n fails by it, with this code
abbrev pub ends_failed : ℕ → ℕ → GraphStep → Bool
ends_failed n code (Ended m (Failed c)) = (m.0 == n) && (c == code)
ends_failed n code _ = false

-- ---- a course

-- n has begun
abbrev pub has_begun : List GraphStep → ℕ → Bool
has_begun course n = list_any (begins n) course

-- n has ended
abbrev pub has_ended : List GraphStep → ℕ → Bool
has_ended course n = list_any (ends n) course

-- the work of n was called, and is done
abbrev pub is_done : List GraphStep → ℕ → Bool
is_done course n = list_any (ends_done n) course

-- the work of n was called, and failed with this code
abbrev pub has_failed : List GraphStep → ℕ → ℕ → Bool
has_failed course n code = list_any (ends_failed n code) course

-- the work of each of these is done
abbrev pub are_done : List GraphStep → List ℕ → Bool
are_done course nodes = list_all (is_done course) nodes

-- after these steps n may begin: it is a node, has not begun, and all its inputs are done
pub record MayBegin (graph : List (List ℕ)) (course : List GraphStep) (n : ℕ) : Type 0 where
  pub node : n < length graph
  pub once : has_begun course n ≡ false
  pub inputs : are_done course (inputs_at graph n) ≡ true

-- after these steps n may end: it has begun, and has not ended
pub record MayEnd (course : List GraphStep) (n : ℕ) : Type 0 where
  pub begun : has_begun course n ≡ true
  pub once : has_ended course n ≡ false

-- each step might be taken after those before it
pub record IsCourse (graph : List (List ℕ)) (course : List GraphStep) : Type 0 where
  pub begun : (k : ℕ) (node : NodeId) → slice_get course k ≡ Some (Begun node) → MayBegin graph (take k course) node.0
  pub ended : (k : ℕ) (node : NodeId) (fate : Fate) → slice_get course k ≡ Some (Ended node fate) → MayEnd (take k course) node.0

-- ---- fates

-- n was skipped: its work was not called, since the run was stopped, or an input is not done; if it began, it has ended
pub record IsSkipped (graph : List (List ℕ)) (stopped : Bool) (course : List GraphStep) (n : ℕ) : Type 0 where
  pub undone : is_done course n ≡ false
  pub unfailed : (code : ℕ) → has_failed course n code ≡ false
  pub over : has_begun course n ≡ has_ended course n
  pub inputs : stopped ≡ false → are_done course (inputs_at graph n) ≡ false

-- this became of n
abbrev pub IsFate : List (List ℕ) → Bool → List GraphStep → ℕ → Fate → Type 0
IsFate graph stopped course n Done = is_done course n ≡ true
IsFate graph stopped course n (Failed code) = has_failed course n code ≡ true
IsFate graph stopped course n Skipped = IsSkipped graph stopped course n

-- n was left out: it is a node whose work was not called, though all its inputs are done
pub record IsLeftOut (graph : List (List ℕ)) (course : List GraphStep) (n : ℕ) : Type 0 where
  pub node : n < length graph
  pub undone : is_done course n ≡ false
  pub unfailed : (code : ℕ) → has_failed course n code ≡ false
  pub inputs : are_done course (inputs_at graph n) ≡ true

-- this became of each node; where the run was stopped one was left out
pub record AreFates (graph : List (List ℕ)) (stopped : Bool) (course : List GraphStep) (fates : List Fate) : Type 0 where
  pub all : length fates ≡ length graph
  pub each : (n : ℕ) → IfSome (slice_get fates n) (IsFate graph stopped course n)
  pub left_out : stopped ≡ true → (n : ℕ) × IsLeftOut graph course n

-- ---- how far each node has come

-- that of n
abbrev pub state_at : List NodeState → ℕ → NodeState
state_at states n = get_or states n Waiting

abbrev pub is_begun_state : NodeState → Bool
is_begun_state Waiting = false
is_begun_state _ = true

abbrev pub is_ended_state : NodeState → Bool
is_ended_state (Over f) = true
is_ended_state _ = false

abbrev pub is_done_state : NodeState → Bool
is_done_state (Over Done) = true
is_done_state _ = false

abbrev pub is_failed_state : ℕ → NodeState → Bool
is_failed_state code (Over (Failed c)) = c == code
is_failed_state code _ = false

-- each node has come as far as the steps say
pub record AreStates (course : List GraphStep) (states : List NodeState) : Type 0 where
  pub begun : (n : ℕ) → has_begun course n ≡ is_begun_state (state_at states n)
  pub ended : (n : ℕ) → has_ended course n ≡ is_ended_state (state_at states n)
  pub done : (n : ℕ) → is_done course n ≡ is_done_state (state_at states n)
  pub failed : (n code : ℕ) → has_failed course n code ≡ is_failed_state code (state_at states n)
