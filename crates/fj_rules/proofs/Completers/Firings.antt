-- Hooks and shutdown, over every lawful history.
use Rattle.std.proofs.Common.{ℕ, ◌≡◌, Bool, true, false, not, ◌||◌, List, [], ◌∷◌, ◌++◌, Some, refl, arith, subst, append_assoc}
use Rattle.std.specs.Prelude.{nat_lt, if◌then◌else◌, is_some}
use Rattle.std.specs.List.{filter_map, list_any, cons_option}
use Rattle.std.proofs.lemmas.List.{append-nil}
use Rattle.std.proofs.lemmas.Bool.{or_parts, ltb-false}
use Rattle.fj_rules.specs.declared.event.Event.{Event}
use Rattle.fj_rules.specs.declared.event.Event.TheVariants.{Acc, Fire}
use Rattle.fj_rules.specs.declared.owner.Owner.TheVariants.{Sub}
use Rattle.fj_rules.specs.declared.event.How.TheVariants.{Zero, Complete}
use Rattle.fj_rules.specs.Bounds.{Pool}
use Rattle.fj_rules.specs.Lists.{is_in}
use Rattle.fj_rules.specs.Completers.{pending, is_spent, fires_or_passes}
use Rattle.fj_rules.specs.Statuses.{is_undone, status}
use Rattle.fj_rules.specs.Places.{queued_in, held_by}
use Rattle.fj_rules.specs.Climbs.{Spent, Counted, Early, Fires, arrival}
use Rattle.fj_rules.specs.Allowed.{Allowed, AllowedFrom}
use Rattle.fj_rules.specs.Headline.{NoneAfterShutdown, IsFiredOnce, FiredAtZero, fired, fired_by}
use Rattle.fj_rules.proofs.Events.Lawful.{named_once}

-- each event was allowed where it stands
allowed_at : (pool : Pool) (start before : List Event) (e : Event) (later : List Event) → AllowedFrom pool start (before ++ e ∷ later) → Allowed pool (start ++ before) e
allowed_at pool start [] e later so = rw append-nil (so.0)
allowed_at pool start (f ∷ before) e later so = rw append_assoc at (allowed_at pool (start ++ f ∷ []) before e later so.1)

pub none_after_shutdown : (pool : Pool) (h : List Event) → AllowedFrom pool [] h → NoneAfterShutdown h
none_after_shutdown pool h so before later t s k is = (allowed_at pool [] before (Acc t (Sub s) k) later (subst (AllowedFrom pool []) is so)).2

fires_at_zero : (h : List Event) (c : ℕ) → arrival h c ≡ Fires → pending h c ≡ 0
unfolding arrival
fires_at_zero h c is = go (is_spent h c) (nat_lt 0 (pending h c)) refl is
  where
    go : (s p : Bool) → nat_lt 0 (pending h c) ≡ p → (if s then Spent else if p then Counted else if is_some (queued_in h c) || is_some (held_by h c) then Early else Fires) ≡ Fires → pending h c ≡ 0
    go true p ps is = absurd cc
    go false true ps is = absurd cc
    go false false ps is = omega (arith, ltb-false 0 (pending h c) ps)

pub fired_at_zero : (pool : Pool) (h : List Event) → AllowedFrom pool [] h → FiredAtZero h
fired_at_zero pool h so before later c is = fires_at_zero before c (allowed_at pool [] before (Fire c Zero) later (subst (AllowedFrom pool []) is so))

pub fires_unspent : (h : List Event) (c : ℕ) → arrival h c ≡ Fires → is_spent h c ≡ false
unfolding arrival
fires_unspent h c is = go (is_spent h c) refl is
  where
    go : (s : Bool) → is_spent h c ≡ s → (if s then Spent else if nat_lt 0 (pending h c) then Counted else if is_some (queued_in h c) || is_some (held_by h c) then Early else Fires) ≡ Fires → is_spent h c ≡ false
    go true ss is = absurd cc
    go false ss is = ss

fired_is : (c : ℕ) (h : List Event) → list_any (fires_or_passes c) h ≡ false → is_in c (filter_map fired_by h) ≡ false
fired_is c [] none = refl
fired_is c (e ∷ h) none = let parts = or_parts (fires_or_passes c e) (list_any (fires_or_passes c) h) none in front e parts.0 (fired_is c h parts.1)
  where
    front : (e : Event) → fires_or_passes c e ≡ false → is_in c (filter_map fired_by h) ≡ false → is_in c (cons_option (fired_by e) (filter_map fired_by h)) ≡ false
    front (Fire d how) none rest = rw none rest
    front _ none rest = rest

unspent_unfired : (h : List Event) (c : ℕ) → is_spent h c ≡ false → is_in c (fired h) ≡ false
unfolding is_spent fired
unspent_unfired h c unspent = fired_is c h (or_parts (list_any (fires_or_passes c) h) (not (is_undone (status h c))) unspent).0

fire_new : (pool : Pool) (h : List Event) (e : Event) (c : ℕ) → Allowed pool h e → fired_by e ≡ Some c → is_in c (fired h) ≡ false
fire_new pool h (Fire d Zero) c may is = let same : d ≡ c = cc in unspent_unfired h c (subst (λ x. is_spent h x ≡ false) same (fires_unspent h d may))
fire_new pool h (Fire d Complete) c may is = let same : d ≡ c = cc in unspent_unfired h c (subst (λ x. is_spent h x ≡ false) same may.0)
fire_new pool h _ c may is = absurd cc

-- each completer's hook is handed out at most once
pub fired_once : (pool : Pool) (h : List Event) → AllowedFrom pool [] h → IsFiredOnce h
unfolding fired
fired_once pool = named_once pool fired_by (λ h e c so. fire_new pool h e c)
