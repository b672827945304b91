-- A code is relayed to one task after another.
use Rattle.std.proofs.Common.{ℕ, zero, suc, ◌≡◌, ◌<◌, Bool, true, false, List, [], ◌∷◌, ◌++◌, length, refl, ap, sym, arith}
use Rattle.std.specs.Prelude.{if◌then◌else◌, slice_get}
use Rattle.fj_rules.specs.declared.event.Event.{Event}
use Rattle.fj_rules.specs.Tasks.{kind, parent, parent_in, relay_in}
use Rattle.fj_rules.specs.Statuses.{status, is_undone}
use Rattle.fj_rules.specs.Climbs.{path, path_up, relayed, relayed_along}
use Rattle.fj_rules.specs.Answers.{failing}
use Rattle.fj_rules.proofs.Events.Settling.{settles, settles_kind}

begins : (h : List Event) (way : List ℕ) (i : ℕ) → i < length (relayed_along h way) → slice_get way i ≡ slice_get (relayed_along h way) i
unfolding relayed_along
begins h [] i inside = absurd (omega (arith, inside))
begins h (c ∷ above) i inside = go (is_undone (status h c)) (relay_in (kind h c)) i inside (begins h above)
  where
    go : (b r : Bool) (i : ℕ) → i < length (if b then c ∷ (if r then relayed_along h above else []) else []) → ((j : ℕ) → j < length (relayed_along h above) → slice_get above j ≡ slice_get (relayed_along h above) j)
        → slice_get (c ∷ above) i ≡ slice_get (if b then c ∷ (if r then relayed_along h above else []) else []) i
    go true r zero inside rest = refl
    go true true (suc i) inside rest = rest i (omega (arith, inside))
    go true false (suc i) inside rest = absurd (omega (arith, inside))
    go false r i inside rest = absurd (omega (arith, inside))

-- those to whom it is relayed are the beginning of the way
pub relayed_at : (h : List Event) (t i : ℕ) → i < length (relayed h t) → slice_get (path h t) i ≡ slice_get (relayed h t) i
unfolding relayed
relayed_at h t = begins h (path h t)

pub parent_settled : (h : List Event) (code : ℕ) (us : List ℕ) (c : ℕ) → parent (h ++ settles code us) c ≡ parent h c
unfolding parent
parent_settled h code us c = ap parent_in (settles_kind h code us c)

-- nobody gets what is relayed from a task that is done
pub none_relayed : (h : List Event) (t : ℕ) → is_undone (status h t) ≡ false → relayed h t ≡ []
unfolding relayed path path_up relayed_along
none_relayed h t done = rw done refl

-- so a failure settles those to whom it is relayed
pub failing_settles : (h : List Event) (t code : ℕ) → failing h t code ≡ settles code (relayed h t)
failing_settles h t code = go (is_undone (status h t)) refl
  where
    go : (b : Bool) → is_undone (status h t) ≡ b → (if b then settles code (relayed h t) else []) ≡ settles code (relayed h t)
    go true undone = refl
    go false done = sym (ap (settles code) (none_relayed h t done))
