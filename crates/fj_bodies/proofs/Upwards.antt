-- A task is released, and then those above it.
use Rattle.std.proofs.Common.{ℕ, suc, ◌≡◌, inl, ◌<◌, ◌+◌, get_or, add-one, Bool, true, false, List, [], ◌∷◌, ◌++◌, length, drop, Option, Some, None, refl, ap, sym, ◌∙◌, subst, arith, ⊎_elim}
use Rattle.std.specs.Prelude.{◌==◌, Result, Ok, Err, IsErr, ⊤}
use Rattle.std.proofs.Math.Seq.{drop-cons}
use Rattle.std.proofs.lemmas.Bool.{eqb-true, or_cases, true≢false}
use Rattle.fj_rules.specs.declared.event.Event.{Event}
use Rattle.fj_rules.specs.declared.event.Event.TheVariants.{Rel}
use Rattle.fj_rules.specs.declared.place.Place.{Place}
use Rattle.fj_rules.specs.declared.place.Place.TheVariants.{Queued, Held, Open, Gone}
use Rattle.fj_rules.specs.Bounds.{Pool}
use Rattle.fj_rules.specs.Lists.{is_in, without}
use Rattle.fj_rules.specs.Tasks.{parent}
use Rattle.fj_rules.specs.Places.{place, is_gone}
use Rattle.fj_rules.specs.Allowed.{Allowed}
use Rattle.fj_rules.specs.Epochs.{IsPast}
use Rattle.fj_rules.proofs.Steps.AnswersAllowed.{history_allowed}
use Rattle.fj_bodies.specs.declared.tries.HistoryFull.{HistoryFull}
use Rattle.fj_bodies.specs.declared.tries.Tried.TheVariants as tried
use Rattle.fj_rules.specs.Releasable.{can_go}
use Rattle.fj_body.specs.Releases.{NoneGoes}
use Rattle.fj_bodies.specs.Waits.{WaitState, NoneGoesFrom, OnlyGoesFrom, ReleasesDue, ReleasesFrom, ReleasesHere, ReleasesSome, ReleasesUp, StopsFull, Tries}
use Rattle.fj_bodies.proofs.Chains.{fewer, none_went, one_went, more_went, then_full}
use Rattle.fj_bodies.proofs.FromPlace.{stands, stood}
use Rattle.fj_rules.proofs.Events.Releasable.{can_parts, only_parent_goes}
use Rattle.fj_bodies.proofs.DueTasks.{cannot}
use Rattle.fj_bodies.proofs.Releases.{in_without}

-- ---- the step

gone_is : (p : Place) → is_gone p ≡ true → p ≡ Gone
gone_is Gone is = refl
gone_is (Queued o) is = absurd cc
gone_is (Held w) is = absurd cc
gone_is Open is = absurd cc

pub may_release : (pool : Pool) (h : List Event) (t : ℕ) → can_go h t ≡ true → Allowed pool h (Rel t)
may_release pool h t can = let now = can_parts h t can in (now.kept, gone_is (place h t) now.gone, now.alone)

-- how often it may go on
abbrev pub steps_left : Option ℕ → List ℕ → ℕ
steps_left (Some t) ts = suc (length ts)
steps_left None ts = 0

-- none was taken
pub none_taken : (w : WaitState) (stuck : Bool) → (length w.taken.items == 0) ≡ true → ReleasesDue w stuck w stuck
none_taken w stuck none = record { some = none_went w; rests = inl (refl, λ u there. absurd (true≢false (sym there ∙ ap (is_in u) (empty w.taken.items none)))) }
  where
    empty : (ts : List ℕ) → (length ts == 0) ≡ true → ts ≡ []
    empty [] none = refl
    empty (t ∷ ts) none = absurd (omega (arith, eqb-true (length (t ∷ ts)) 0 none))

-- none can be released
pub rests_so : (w : WaitState) → NoneGoes w.past.events w.taken.items → ReleasesFrom 0 w (Ok tt) w
rests_so w none = (none_went w, none)

-- the only one that could be was not taken
pub untaken_rests : (w : WaitState) (t : ℕ) → is_in t w.taken.items ≡ false → ReleasesUp t w (Ok tt) w
untaken_rests w t absent = (
  none_went w,
  λ from only u there. cannot w.past.events u (λ can. true≢false (sym (stands u from w.taken.items there) ∙ ap (λ v. is_in v w.taken.items) (only u there can) ∙ absent)),
)

-- it is needed yet
pub needed_rests : (old new : WaitState) (t : ℕ) → Tries old t tried.Needed new → ReleasesUp t old (Ok tt) new
needed_rests old new t stays =
    subst (λ (w : WaitState). ReleasesUp t old (Ok tt) w) (sym stays.1) (
      none_went old,
      λ from only u there. cannot old.past.events u (λ can. true≢false (sym can ∙ ap (can_go old.past.events) (only u there can) ∙ stays.0)),
    )

-- the history is full
pub full_rests : (old new : WaitState) (t : ℕ) → is_in t old.taken.items ≡ true → Tries old t tried.Full new → StopsFull old new
full_rests old new t there finds = subst (StopsFull old) (sym finds.2) (none_went old, (t, there, finds.0), finds.1)

-- after its release none can go but its parent
parent_only : (old : WaitState) (t u from : ℕ) → IsPast old.past → OnlyGoesFrom from old t → can_go old.past.events t ≡ true → is_in u (drop from (without old.taken.items (t ∷ []))) ≡ true
    → can_go (old.past.events ++ Rel t ∷ []) u ≡ true → parent old.past.events t ≡ Some u
parent_only old t u from run only could there can =
    let apart = (in_without u t old.taken.items (stands u from (without old.taken.items (t ∷ [])) there)).1 in
    ⊎_elim (λ before. absurd (apart (only u (stood u from old.taken.items (t ∷ []) there) before))) (λ up. up)
    (only_parent_goes old.past.pool old.past.events t u (history_allowed old.past run) (may_release old.past.pool old.past.events t could) apart can)

pub released_here : (old new : WaitState) (t : ℕ) (p : Option ℕ) → IsPast old.past → is_in t old.taken.items ≡ true → Tries old t tried.Released new → p ≡ parent old.past.events t
    → ReleasesHere t old (Ok p) new
released_here old new t (Some q) run there went up =
    (there, went.0, went.1, rw went.1 (λ from only u in_it can. single u q (sym (parent_only old t u from run only went.0 in_it can) ∙ sym up)))
  where
    single : (u q : ℕ) → ◌≡◌ {A = Option ℕ} (Some u) (Some q) → u ≡ q
    single u q same = cc
released_here old new t None run there went up = (
  one_went old new t there went.0 went.1,
  rw went.1 (λ from only u in_it. cannot (old.past.events ++ Rel t ∷ []) u (λ can. differs u (up ∙ parent_only old t u from run only went.0 in_it can))),
)
  where
    differs : (u : ℕ) → ◌≡◌ {A = Option ℕ} None (Some u) → ⊥
    differs u same = cc

-- ---- one after another

-- some were released, and from each place on from where only the first could be, none can be now but the next
abbrev pub ClimbsTo : ℕ → WaitState → Option ℕ → WaitState → Type 0
ClimbsTo t old (Some u) new = ReleasesSome old new × ((from : ℕ) → OnlyGoesFrom from old t → OnlyGoesFrom from new u)
ClimbsTo t old None new = ReleasesUp t old (Ok tt) new

pub climbs_from : (t : ℕ) (w : WaitState) → ClimbsTo t w (Some t) w
climbs_from t w = (none_went w, λ from only. only)

pub climbs_on : (t u : ℕ) (old mid new : WaitState) (next : Option ℕ) → ClimbsTo t old (Some u) mid → ReleasesHere u mid (Ok next) new → ClimbsTo t old next new
climbs_on t u old mid new (Some p) was here = (more_went old mid new was.0 (one_went mid new u here.0 here.1 here.2), λ from only. here.3 from (was.1 from only))
climbs_on t u old mid new None was here = (more_went old mid new was.0 here.0, λ from only. here.1 from (was.1 from only))

pub climbs_fewer : (t : ℕ) (mid new : WaitState) (next : Option ℕ) → ReleasesHere t mid (Ok next) new → steps_left next new.taken.items < steps_left (Some t) mid.taken.items
climbs_fewer t mid new (Some p) here = rw here.2 (omega (arith, fewer mid.taken.items t here.0))
climbs_fewer t mid new None here = omega arith

pub full_ends : (t : ℕ) (old mid new : WaitState) (result : Result ⊤ HistoryFull) → IsErr result → ReleasesSome old mid → StopsFull mid new → ReleasesUp t old result new
full_ends t old mid new (Ok done) is was ends = absurd cc
full_ends t old mid new (Err full) is was ends = then_full old mid new was ends

-- ---- where it was the only one

pub up_from : (i t : ℕ) (old new : WaitState) (result : Result ⊤ HistoryFull) → OnlyGoesFrom i old t → ReleasesUp t old result new → ReleasesFrom i old result new
up_from i t old new (Ok done) only up = (up.0, up.1 i only)
up_from i t old new (Err full) only up = up

-- the first of those that stand from the place on, where none behind it can go
pub first_only : (i t : ℕ) (w : WaitState) → i < length w.taken.items → get_or w.taken.items i t ≡ t → NoneGoesFrom (i + 1) w → OnlyGoesFrom i w t
first_only i t w within is none u there can =
    ⊎_elim (λ here. sym (eqb-true t u here)) (λ later. absurd (true≢false (sym can ∙ none u later))) (or_cases (t == u) (is_in u (drop (i + 1) w.taken.items)) (rw stand at there))
  where
    stand : drop i w.taken.items ≡ t ∷ drop (i + 1) w.taken.items
    stand = rw add-one (drop-cons w.taken.items i t within ∙ ap (λ v. v ∷ drop (suc i) w.taken.items) is)
