-- A scan that begins at a task's queue decides whether any scan chooses it.
use Rattle.std.proofs.Common.{ℕ, zero, suc, ◌≡◌, ◌+◌, ◌%◌, ◌<◌, Bool, true, false, List, [], ◌∷◌, Option, Some, None, refl, sym, ap, ◌∙◌, arith}
use Rattle.std.specs.Prelude.{map}
use Rattle.std.specs.List.{range_with_len}
use Rattle.std.proofs.Math.Nat.{mod-eq_of_lt}
use Rattle.std.proofs.lemmas.Bool.{eq-eqb}
use Rattle.fj_rules.specs.declared.event.Event.{Event}
use Rattle.fj_rules.specs.declared.owner.Owner.{Owner}
use Rattle.fj_rules.specs.declared.owner.Owner.TheVariants.{Work}
use Rattle.fj_rules.specs.declared.place.Place.TheVariants.{Queued}
use Rattle.fj_rules.specs.Bounds.{Bounds, Pool, queues_in, owner_at}
use Rattle.fj_rules.specs.Lists.{is_in, first_of, or_else}
use Rattle.fj_rules.specs.Queues.{queue}
use Rattle.fj_rules.specs.Places.{place, place_of, queued_in, held_by}
use Rattle.fj_rules.specs.Choices.{own_choice, scan_order, first_queued, choice}
use Rattle.fj_rules.specs.declared.event.Event.TheVariants.{Out, Skip}
use Rattle.fj_rules.specs.Statuses.{status, is_undone}
use Rattle.fj_rules.specs.Allowed.{AllowedFrom, MayTake}
use Rattle.fj_rules.proofs.Events.Taking.{taken_queued}
use Rattle.fj_rules.proofs.Places.OnePlace.{queued_there}
use Rattle.fj_rules.proofs.Places.PlacesKept.{place_queued}

-- what a scan finds is the oldest of some queue
first_is_head : (h : List Event) (os : List Owner) (t : ℕ) → first_queued h os ≡ Some t → (o : Owner) × (first_of (queue h o) ≡ Some t)
unfolding first_queued
first_is_head h [] t is = absurd cc
first_is_head h (o ∷ os) t is = go (first_of (queue h o)) refl (λ later. first_is_head h os t later) is
  where
    go : (x : Option ℕ) → first_of (queue h o) ≡ x → (first_queued h os ≡ Some t → (p : Owner) × (first_of (queue h p) ≡ Some t)) → or_else x (first_queued h os) ≡ Some t
        → (p : Owner) × (first_of (queue h p) ≡ Some t)
    go (Some u) at later found = (o, at ∙ found)
    go None at later found = later found

head_in : (ts : List ℕ) (t : ℕ) → first_of ts ≡ Some t → is_in t ts ≡ true
head_in [] t is = absurd cc
head_in (u ∷ ts) t is = let same : u ≡ t = cc in rw (eq-eqb u t same) refl

-- a scan begins with the queue at whose number it begins
scan_begins : (l : Bounds) (h : List Event) (q t : ℕ) → q < queues_in l → first_of (queue h (owner_at l q)) ≡ Some t → first_queued h (scan_order l q) ≡ Some t
unfolding first_queued
scan_begins l h q t within head = go (queues_in l) refl
  where
    go : (n : ℕ) → queues_in l ≡ n → first_queued h (map (λ i. owner_at l ((q + i) % queues_in l)) (range_with_len 0 n)) ≡ Some t
    go zero is = absurd (omega (arith, within, is))
    go (suc n) is =
        let none_more : q + 0 ≡ q = omega arith in
        let begin : (q + 0) % queues_in l ≡ q = rw none_more (mod-eq_of_lt within) in
        rw (begin, head) refl

-- a task stands in one queue
pub one_owner : (a b : Owner) → Queued a ≡ Queued b → a ≡ b
one_owner a b is = cc

-- the queue in which a task is by its place
pub queued_of_place : (h : List Event) (t : ℕ) (o : Owner) → place h t ≡ Queued o → is_in t (queue h o) ≡ true
unfolding place
queued_of_place h t o is = go (queued_in h t) (held_by h t) _ refl is
  where
    go : (q : Option Owner) (v : Option ℕ) (b : Bool) → queued_in h t ≡ q → place_of q v b ≡ Queued o → is_in t (queue h o) ≡ true
    go (Some p) v b at same = queued_there h t o (at ∙ ap Some (one_owner p o same))
    go None (Some w) b at same = absurd cc
    go None None true at same = absurd cc
    go None None false at same = absurd cc

-- where any scan chooses a task that stands in a queue, the scan that begins there does
pub any_scan : (pool : Pool) (h : List Event) (w t q : ℕ) → AllowedFrom pool [] h → q < queues_in pool.limits → is_in t (queue h (owner_at pool.limits q)) ≡ true
    → (r : ℕ) → choice pool h w r ≡ Some t → choice pool h w q ≡ Some t
unfolding choice
any_scan pool h w t q so within stands r is = go (own_choice pool.mode (queue h (Work w))) refl is
  where
    go : (own : Option ℕ) → own_choice pool.mode (queue h (Work w)) ≡ own → or_else own (first_queued h (scan_order pool.limits r)) ≡ Some t
        → or_else (own_choice pool.mode (queue h (Work w))) (first_queued h (scan_order pool.limits q)) ≡ Some t
    go (Some u) at found = rw at found
    go None at found =
        let head = first_is_head h (scan_order pool.limits r) t found in
        let here = place_queued pool h head.0 t so (head_in (queue h head.0) t head.1) in
        let there = place_queued pool h (owner_at pool.limits q) t so stands in
        let same : head.0 ≡ owner_at pool.limits q = one_owner head.0 (owner_at pool.limits q) (sym here ∙ there) in
        rw at (scan_begins pool.limits h q t within (ap (λ o. first_of (queue h o)) (sym same) ∙ head.1))

-- what a worker may take stands in a queue
pub queued_by_take : (pool : Pool) (h : List Event) (t w : ℕ) → MayTake pool h t w → (o : Owner) × (is_in t (queue h o) ≡ true)
queued_by_take pool h t w may = go (is_undone (status h t)) refl
  where
    go : (b : Bool) → is_undone (status h t) ≡ b → (o : Owner) × (is_in t (queue h o) ≡ true)
    go true is = taken_queued pool h (Out t w) t (may, is) refl
    go false is = taken_queued pool h (Skip t w) t (may, is) refl
