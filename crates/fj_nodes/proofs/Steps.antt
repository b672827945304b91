-- One more step.
use Rattle.std.specs.Prelude.{zero, suc, ◌⊎◌, Bool, true, false, not, ◌||◌, ◌&&◌, ◌==◌, Option, Some, None, IfSome, slice_get, slice_set}
use Rattle.std.specs.List.{list_any, list_all}
use Rattle.std.proofs.Common.{ℕ, ◌≡◌, ◌≢◌, ◌+◌, ◌<◌, ◌≤◌, ◌∙◌, inl, inr, List, [], ◌∷◌, ◌++◌, length, map, refl, sym, ap, arith}
use Rattle.std.proofs.Math.Seq.{take-append_seam}
use Rattle.std.proofs.lemmas.Bool.{cases_eq, cases_lt, eq-eqb}
use Rattle.std.proofs.lemmas.Bool.Decides.{nat_tests}
use Rattle.std.proofs.lemmas.List.{get_or-set_same, get_or-set_other, take-append-le}
use Rattle.std.proofs.lemmas.List.Folds.{list_any-append, list_all-map}
use Rattle.std.proofs.lemmas.Option.{none-some, same_Some, slice_get_past}
use Rattle.fj_nodes.specs.declared.fate.Fate.{Fate}
use Rattle.fj_nodes.specs.declared.fate.Fate.TheVariants.{Done, Failed, Skipped}
use Rattle.fj_nodes.specs.declared.node.NodeId.{NodeId}
use Rattle.fj_nodes.specs.declared.node_state.NodeState.{NodeState}
use Rattle.fj_nodes.specs.declared.node_state.NodeState.TheVariants.{Waiting, UnderWay, Ended as Over}
use Rattle.fj_nodes.specs.declared.graph_step.GraphStep.{GraphStep}
use Rattle.fj_nodes.specs.declared.graph_step.GraphStep.TheVariants.{Begun, Ended}
use Rattle.fj_nodes.specs.Graphs.{inputs_at, number_of}
use Rattle.fj_nodes.specs.Fates.{was_called}
use Rattle.fj_nodes.specs.Courses.{AreFates, AreStates, IsCourse, IsFate, IsLeftOut, IsSkipped, MayBegin, MayEnd, are_done, begins, ends, ends_done, ends_failed, has_begun, is_begun_state, is_done, is_done_state, is_ended_state, is_failed_state, state_at}

-- ---- the course

-- what stands in a list with one more at its end stands in the list, or is that one
last_or_before : (xs : List GraphStep) (s x : GraphStep) (k : ℕ) → slice_get (xs ++ s ∷ []) k ≡ Some x → ((k < length xs) × (slice_get xs k ≡ Some x)) ⊎ ((k ≡ length xs) × (s ≡ x))
last_or_before [] s x zero at = inr (refl, same_Some s x at)
last_or_before [] s x (suc k) at = absurd (none-some x at)
last_or_before (y ∷ ys) s x zero at = inl (omega arith, at)
last_or_before (y ∷ ys) s x (suc k) at = elim (last_or_before ys s x k at) [
  | inl before ↦ inl (let lt = before.0 in omega arith, before.1)
  | inr last ↦ inr (ap suc last.0, last.1)
]

course_more : (graph : List (List ℕ)) (course : List GraphStep) (s : GraphStep) → IsCourse graph course → ((node : NodeId) → s ≡ Begun node → MayBegin graph course node.0) → ((node : NodeId) (fate : Fate) → s ≡ Ended node fate → MayEnd course node.0) → IsCourse graph (course ++ s ∷ [])
course_more graph course s is begin end = record {
  begun = λ k node at. elim (last_or_before course s (Begun node) k at) [
    | inl before ↦ let within : k ≤ length course = (let lt = before.0 in omega arith) in rw (take-append-le k course (s ∷ []) within) (is.begun k node before.1)
    | inr last ↦ rw (last.0, take-append_seam course (s ∷ [])) (begin node last.1)
  ];
  ended = λ k node fate at. elim (last_or_before course s (Ended node fate) k at) [
    | inl before ↦ let within : k ≤ length course = (let lt = before.0 in omega arith) in rw (take-append-le k course (s ∷ []) within) (is.ended k node fate before.1)
    | inr last ↦ rw (last.0, take-append_seam course (s ∷ [])) (end node fate last.1)
  ];
}

pub course_begun : (graph : List (List ℕ)) (course : List GraphStep) (node : NodeId) → IsCourse graph course → MayBegin graph course node.0 → IsCourse graph (course ++ Begun node ∷ [])
course_begun graph course node is may =
    course_more graph course (Begun node) is (λ other same. let e : node ≡ other = cc in rw (← e) may) (λ other fate same. cc)

pub course_ended : (graph : List (List ℕ)) (course : List GraphStep) (node : NodeId) (fate : Fate) → IsCourse graph course → MayEnd course node.0 → IsCourse graph (course ++ Ended node fate ∷ [])
course_ended graph course node fate is may =
    course_more graph course (Ended node fate) is (λ other same. cc) (λ other f same. let e : node ≡ other = cc in rw (← e) may)

-- ---- the states

or_false : (b : Bool) → (b || false) ≡ b
or_false true = refl
or_false false = refl

eqb_same : (n : ℕ) → (n == n) ≡ true
eqb_same n = eq-eqb n n refl

not_eqb : (m n : ℕ) → n ≢ m → (m == n) ≡ false
not_eqb m n other = grind (arith, nat_tests)

any_more : (t : GraphStep → Bool) (course : List GraphStep) (s : GraphStep) → list_any t (course ++ s ∷ []) ≡ (list_any t course || t s)
any_more t course s = list_any-append t course (s ∷ []) ∙ ap (λ b. list_any t course || b) (or_false (t s))

-- a test of the steps that touch a node, and a test of its state, agree after one more step of the node n
tests_more : (t : ℕ → GraphStep → Bool) (u : NodeState → Bool) (course : List GraphStep) (states : List NodeState) (n : ℕ) (s : GraphStep) (v : NodeState) → n < length states
    → ((i : ℕ) → i ≢ n → t i s ≡ false) → (u (state_at states n) || t n s) ≡ u v → ((i : ℕ) → list_any (t i) course ≡ u (state_at states i))
    → (i : ℕ) → list_any (t i) (course ++ s ∷ []) ≡ u (state_at (slice_set states n v) i)
tests_more t u course states n s v lt apart here so_far i = elim (cases_eq i n) [
  | inl same ↦ rw (same, any_more (t n) course s, so_far n, get_or-set_same states n v Waiting lt) here
  | inr other ↦ rw (any_more (t i) course s, apart i other, or_false (list_any (t i) course), get_or-set_other states n i v Waiting other) (so_far i)
]

waits : (state : NodeState) → is_begun_state state ≡ false → state ≡ Waiting
waits Waiting none = refl
waits UnderWay none = cc
waits (Over fate) none = cc

pub states_begun : (course : List GraphStep) (states : List NodeState) (node : NodeId) → node.0 < length states → has_begun course node.0 ≡ false → AreStates course states → AreStates (course ++ Begun node ∷ []) (slice_set states node.0 UnderWay)
states_begun course states node lt once are =
    let here : state_at states node.0 ≡ Waiting = waits (state_at states node.0) (sym (are.begun node.0) ∙ once) in
    record {
      begun = tests_more begins is_begun_state course states node.0 (Begun node) UnderWay lt (λ i other. not_eqb node.0 i other) (rw (here, eqb_same node.0) refl) are.begun;
      ended = tests_more ends is_ended_state course states node.0 (Begun node) UnderWay lt (λ i other. refl) (rw here refl) are.ended;
      done = tests_more ends_done is_done_state course states node.0 (Begun node) UnderWay lt (λ i other. refl) (rw here refl) are.done;
      failed = λ i code. tests_more (λ n. ends_failed n code) (is_failed_state code) course states node.0 (Begun node) UnderWay lt (λ i other. refl) (rw here refl) (λ n. are.failed n code) i;
    }

done_apart : (node : NodeId) (fate : Fate) (i : ℕ) → i ≢ node.0 → ends_done i (Ended node fate) ≡ false
done_apart node Done i other = not_eqb node.0 i other
done_apart node (Failed c) i other = refl
done_apart node Skipped i other = refl

done_here : (node : NodeId) (fate : Fate) → ends_done node.0 (Ended node fate) ≡ is_done_state (Over fate)
done_here node Done = eqb_same node.0
done_here node (Failed c) = refl
done_here node Skipped = refl

failed_apart : (code : ℕ) (node : NodeId) (fate : Fate) (i : ℕ) → i ≢ node.0 → ends_failed i code (Ended node fate) ≡ false
failed_apart code node Done i other = refl
failed_apart code node (Failed c) i other = rw (not_eqb node.0 i other) refl
failed_apart code node Skipped i other = refl

failed_here : (code : ℕ) (node : NodeId) (fate : Fate) → ends_failed node.0 code (Ended node fate) ≡ is_failed_state code (Over fate)
failed_here code node Done = refl
failed_here code node (Failed c) = rw (eqb_same node.0) refl
failed_here code node Skipped = refl

pub states_ended : (course : List GraphStep) (states : List NodeState) (node : NodeId) (fate : Fate) → node.0 < length states → state_at states node.0 ≡ UnderWay → AreStates course states → AreStates (course ++ Ended node fate ∷ []) (slice_set states node.0 (Over fate))
states_ended course states node fate lt here are = record {
  begun = tests_more begins is_begun_state course states node.0 (Ended node fate) (Over fate) lt (λ i other. refl) (rw here refl) are.begun;
  ended = tests_more ends is_ended_state course states node.0 (Ended node fate) (Over fate) lt (λ i other. not_eqb node.0 i other) (rw (here, eqb_same node.0) refl) are.ended;
  done = tests_more ends_done is_done_state course states node.0 (Ended node fate) (Over fate) lt (done_apart node fate) (rw here (done_here node fate)) are.done;
  failed = λ i code. tests_more (λ n. ends_failed n code) (is_failed_state code) course states node.0 (Ended node fate) (Over fate) lt (failed_apart code node fate) (rw here (failed_here code node fate)) (λ n. are.failed n code) i;
}

pub inputs_done : (graph : List (List ℕ)) (course : List GraphStep) (n : ℕ) (inputs : List NodeId) (all : map number_of inputs ≡ inputs_at graph n) → list_all (λ node. is_done course node.0) inputs ≡ are_done course (inputs_at graph n)
inputs_done graph course n inputs all = rw (← all) (sym (list_all-map (is_done course) number_of inputs))

pub within : (states : List NodeState) (n : ℕ) → state_at states n ≡ UnderWay → n < length states
within [] n here = cc
within (state ∷ states) zero here = omega arith
within (state ∷ states) (suc n) here = let below = within states n here in omega arith

pub may_begin : (graph : List (List ℕ)) (course : List GraphStep) (states : List NodeState) (n : ℕ) → length states ≡ length graph → n < length states → state_at states n ≡ Waiting → are_done course (inputs_at graph n) ≡ true → AreStates course states → MayBegin graph course n
may_begin graph course states n count lt here done are = record {
  node = omega arith;
  once = are.begun n ∙ ap is_begun_state here;
  inputs = done;
}

pub may_end : (course : List GraphStep) (states : List NodeState) (n : ℕ) → state_at states n ≡ UnderWay → AreStates course states → MayEnd course n
may_end course states n here are = record { begun = are.begun n ∙ ap is_begun_state here; once = are.ended n ∙ ap is_ended_state here }

-- ---- what became of a node

-- where the run was stopped

pub fate_ended : (graph : List (List ℕ)) (course : List GraphStep) (states : List NodeState) (n : ℕ) (fate : Fate) → state_at states n ≡ Over fate → AreStates course states → IsFate graph true course n fate
fate_ended graph course states n Done here are = are.done n ∙ ap is_done_state here
fate_ended graph course states n (Failed c) here are = are.failed n c ∙ ap (is_failed_state c) here ∙ eqb_same c
fate_ended graph course states n Skipped here are = record {
  undone = are.done n ∙ ap is_done_state here;
  unfailed = λ code. are.failed n code ∙ ap (is_failed_state code) here;
  over = are.begun n ∙ ap is_begun_state here ∙ sym (are.ended n ∙ ap is_ended_state here);
  inputs = λ unstopped. cc;
}

pub fate_waiting : (graph : List (List ℕ)) (course : List GraphStep) (states : List NodeState) (n : ℕ) → state_at states n ≡ Waiting → AreStates course states → IsSkipped graph true course n
fate_waiting graph course states n here are = record {
  undone = are.done n ∙ ap is_done_state here;
  unfailed = λ code. are.failed n code ∙ ap (is_failed_state code) here;
  over = are.begun n ∙ ap is_begun_state here ∙ sym (are.ended n ∙ ap is_ended_state here);
  inputs = λ unstopped. cc;
}

pub or_first : (a b c : Bool) → c ≡ (a || b) → a ≡ true → c ≡ true
or_first true b c e is = e
or_first false b c e is = cc

or_second : (a b : Bool) → (a || b) ≡ false → b ≡ false
or_second true b none = cc
or_second false b none = none

-- what became of a node, where this tells whether one was left out
pub fate_told : (graph : List (List ℕ)) (old new : Bool) (course : List GraphStep) (n : ℕ) (fate : Fate) → new ≡ (old || not (was_called fate) && are_done course (inputs_at graph n)) → IsFate graph true course n fate → IsFate graph new course n fate
fate_told graph old new course n Done e is = is
fate_told graph old new course n (Failed c) e is = is
fate_told graph old new course n Skipped e is = record { undone = is.undone; unfailed = is.unfailed; over = is.over; inputs = λ unstopped. or_second old (are_done course (inputs_at graph n)) (sym e ∙ unstopped) }

-- one was left out, where this tells so
pub left_more : (graph : List (List ℕ)) (old : Bool) (course : List GraphStep) (n : ℕ) (fate : Fate) → n < length graph → IsFate graph true course n fate → (old ≡ true → (i : ℕ) × IsLeftOut graph course i) → (old || not (was_called fate) && are_done course (inputs_at graph n)) ≡ true → (i : ℕ) × IsLeftOut graph course i
left_more graph true course n fate lt is so_far e = so_far refl
left_more graph false course n Done lt is so_far e = cc
left_more graph false course n (Failed c) lt is so_far e = cc
left_more graph false course n Skipped lt is so_far e = (n, record { node = lt; undone = is.undone; unfailed = is.unfailed; inputs = e })

-- what became of a node stays so where the run turns out to have been stopped
pub fate_stays : (graph : List (List ℕ)) (old new : Bool) (course : List GraphStep) (n : ℕ) (fate : Fate) → (old ≡ true → new ≡ true) → IsFate graph old course n fate → IsFate graph new course n fate
fate_stays graph old new course n Done more is = is
fate_stays graph old new course n (Failed c) more is = is
fate_stays graph true new course n Skipped more is = record { undone = is.undone; unfailed = is.unfailed; over = is.over; inputs = λ unstopped. (let yes = more refl in cc) }
fate_stays graph false new course n Skipped more is = record { undone = is.undone; unfailed = is.unfailed; over = is.over; inputs = λ unstopped. is.inputs refl }

set_here : (fates : List Fate) (k : ℕ) (fate : Fate) (P : Fate → Type 0) → P fate → IfSome (slice_get (slice_set fates k fate) k) P
set_here [] k fate P is = tt
set_here (f ∷ fates) zero fate P is = is
set_here (f ∷ fates) (suc k) fate P is = set_here fates k fate P is

set_other : (fates : List Fate) (k n : ℕ) (fate : Fate) → n ≢ k → slice_get (slice_set fates k fate) n ≡ slice_get fates n
set_other [] k n fate other = refl
set_other (f ∷ fates) zero zero fate other = absurd (other refl)
set_other (f ∷ fates) zero (suc n) fate other = refl
set_other (f ∷ fates) (suc k) zero fate other = refl
set_other (f ∷ fates) (suc k) (suc n) fate other = set_other fates k n fate (λ e. other (ap suc e))

if_some : (found : Option Fate) (P Q : Fate → Type 0) → ((fate : Fate) → P fate → Q fate) → IfSome found P → IfSome found Q
if_some None P Q weaker is = tt
if_some (Some fate) P Q weaker is = weaker fate is

pub fates_more : (graph : List (List ℕ)) (old new : Bool) (course : List GraphStep) (fates : List Fate) (k : ℕ) (fate : Fate) → (old ≡ true → new ≡ true) → ((n : ℕ) → n < k → IfSome (slice_get fates n) (IsFate graph old course n)) → IsFate graph new course k fate → (n : ℕ) → n < k + 1 → IfSome (slice_get (slice_set fates k fate) n) (IsFate graph new course n)
fates_more graph old new course fates k fate more so_far is n lt = elim (cases_eq n k) [
  | inl same ↦ rw same (set_here fates k fate (IsFate graph new course k) is)
  | inr other ↦
      let before : n < k = omega arith in
      rw (set_other fates k n fate other) (if_some (slice_get fates n) (IsFate graph old course n) (IsFate graph new course n) (λ f. fate_stays graph old new course n f more) (so_far n before))
]

pub fates_all : (graph : List (List ℕ)) (stopped : Bool) (course : List GraphStep) (fates : List Fate) (k : ℕ) → length fates ≡ length graph → length graph ≤ k → ((n : ℕ) → n < k → IfSome (slice_get fates n) (IsFate graph stopped course n)) → (stopped ≡ true → (n : ℕ) × IsLeftOut graph course n) → AreFates graph stopped course fates
fates_all graph stopped course fates k all end so_far left = record {
  all = all;
  each = λ n. elim (cases_lt n k) [
    | inl before ↦ so_far n before
    | inr past ↦ (let beyond : length fates ≤ n = omega arith in rw (slice_get_past fates n beyond) tt)
  ];
  left_out = left;
}
