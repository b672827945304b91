-- One task after another is released.
use Rattle.std.proofs.Common.{ℕ, ◌≡◌, ◌<◌, ◌||◌, not, Bool, true, false, cond, List, [], ◌∷◌, ◌++◌, length, ◌≤◌, map, refl, ap, sym, ◌∙◌, subst, arith, append_assoc, ⊎_elim}
use Rattle.std.specs.Prelude.{◌==◌, Result, Ok, Err, IsErr, ⊤}
use Rattle.std.specs.List.{filter}
use Rattle.std.proofs.lemmas.Bool.{eqb-true, or_cases, true≢false}
use Rattle.std.proofs.lemmas.List.{append-nil, map-append}
use Rattle.fj_rules.specs.declared.event.Event.{Event}
use Rattle.fj_rules.specs.declared.event.Event.TheVariants.{Rel}
use Rattle.fj_rules.specs.Lists.{is_in, without}
use Rattle.fj_rules.proofs.Lists.Members.{is_in_append, times_in_some, length_without}
use Rattle.fj_rules.proofs.Events.Growth.{without_none}
use Rattle.fj_rules.specs.Releasable.{can_go, CanAllGo}
use Rattle.fj_bodies.specs.declared.tries.HistoryFull.{HistoryFull}
use Rattle.fj_body.specs.Releases.{AreAmong}
use Rattle.fj_bodies.specs.Waits.{WaitState, freed, ReleasesFrom, ReleasesSome, StopsFull}
use Rattle.fj_bodies.proofs.Releases.{in_rest}
use Rattle.fj_bodies.proofs.FromPlace.{none_beyond}

pub without_twice : (xs ts us : List ℕ) → without (without xs ts) us ≡ without xs (ts ++ us)
without_twice [] ts us = refl
without_twice (x ∷ xs) ts us = rw (is_in_append x ts us) (go (is_in x ts) (is_in x us) refl (without_twice xs ts us))
  where
    go : (a b : Bool) → is_in x us ≡ b → without (without xs ts) us ≡ without xs (ts ++ us)
        → filter (λ t. not (is_in t us)) (cond (not a) (x ∷ without xs ts) (without xs ts)) ≡ cond (not (a || b)) (x ∷ without xs (ts ++ us)) (without xs (ts ++ us))
    go true b at rest = rest
    go false true at rest = rw at rest
    go false false at rest = rw at (ap (λ ys. x ∷ ys) rest)

pub none_in : (us : List ℕ) → AreAmong [] us
none_in us t there = absurd (true≢false (sym there))

pub one_in : (t : ℕ) (us : List ℕ) → is_in t us ≡ true → AreAmong (t ∷ []) us
one_in t us is u there =
    ⊎_elim (λ here. subst (λ v. is_in v us ≡ true) (eqb-true t u here) is) (λ later. absurd (true≢false (sym later))) (or_cases (t == u) false there)

-- some, and then some of those that are left
both_in : (ts more us : List ℕ) → AreAmong ts us → AreAmong more (without us ts) → AreAmong (ts ++ more) us
both_in ts more us are rest u there =
    ⊎_elim (are u) (λ later. in_rest u us ts (rest u later)) (or_cases (is_in u ts) (is_in u more) (sym (is_in_append u ts more) ∙ there))

pub none_released : (w : WaitState) → w ≡ freed w []
none_released w = rw (append-nil w.past.events, without_none w.taken.items) refl

could_append : (h : List Event) (ts us : List ℕ) → CanAllGo h ts → CanAllGo (h ++ map Rel ts) us → CanAllGo h (ts ++ us)
could_append h [] us could more = rw append-nil at more
could_append h (t ∷ ts) us could more = (could.0, could_append (h ++ Rel t ∷ []) ts us could.1 (rw append_assoc more))

freed_more : (w : WaitState) (ts us : List ℕ) → freed (freed w ts) us ≡ freed w (ts ++ us)
freed_more w ts us = rw (map-append Rel ts us, ← append_assoc w.past.events (map Rel ts) (map Rel us), without_twice w.taken.items ts us) refl

pub fewer : (ts : List ℕ) (t : ℕ) → is_in t ts ≡ true → length (without ts (t ∷ [])) < length ts
fewer ts t there = omega (arith, length_without t ts, times_in_some t ts there)

pub none_went : (w : WaitState) → ReleasesSome w w
none_went w = ([], none_in w.taken.items, tt, none_released w)

pub one_went : (old new : WaitState) (t : ℕ) → is_in t old.taken.items ≡ true → can_go old.past.events t ≡ true → new ≡ freed old (t ∷ []) → ReleasesSome old new
one_went old new t there could were = (t ∷ [], one_in t old.taken.items there, (could, tt), were)

pub more_went : (old mid new : WaitState) → ReleasesSome old mid → ReleasesSome mid new → ReleasesSome old new
more_went old mid new first later = (
  first.0 ++ later.0,
  both_in first.0 later.0 old.taken.items first.1 (subst (λ (w : WaitState). AreAmong later.0 w.taken.items) first.3 later.1),
  could_append old.past.events first.0 later.0 first.2 (rw first.3 at later.2),
  later.3 ∙ ap (λ w. freed w later.0) first.3 ∙ freed_more old first.0 later.0,
)

-- some were released before
pub then_full : (old mid new : WaitState) → ReleasesSome old mid → StopsFull mid new → StopsFull old new
then_full old mid new first later = (more_went old mid new first later.0, later.1, later.2)

pub full_from : (from : ℕ) (old mid new : WaitState) (result : Result ⊤ HistoryFull) → IsErr result → ReleasesSome old mid → StopsFull mid new → ReleasesFrom from old result new
full_from from old mid new (Ok done) is was ends = absurd cc
full_from from old mid new (Err full) is was ends = then_full old mid new was ends

-- none stands from there on
pub end_went : (w : WaitState) (n : ℕ) → length w.taken.items ≤ n → ReleasesFrom n w (Ok tt) w
end_went w n within = (none_went w, λ u there. absurd (true≢false (sym there ∙ none_beyond u n w.taken.items within)))
