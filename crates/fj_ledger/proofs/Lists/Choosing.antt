-- Where a worker's choice stands, found in the queues that a machine keeps.
use Rattle.std.proofs.Common.{zero, suc, ℕ, ◌≡◌, ◌+◌, ◌-◌, ◌%◌, ◌<◌, cond, List, [], ◌∷◌, length, map, get_or, Option, Some, None, refl, ap, sym, ◌∙◌, arith}
use Rattle.std.specs.Prelude.{MatchOption, slice_get}
use Rattle.std.specs.List.{range_with_len}
use Rattle.fj_rules.specs.declared.event.Event.{Event}
use Rattle.fj_rules.specs.declared.mode.Mode.{Mode}
use Rattle.fj_rules.specs.declared.mode.Mode.TheVariants.{Async, Joining}
use Rattle.fj_rules.specs.declared.owner.Owner.{Owner}
use Rattle.fj_rules.specs.declared.owner.Owner.TheVariants.{Work}
use Rattle.fj_rules.specs.Bounds.{Bounds, Pool, queues_in, owner_at}
use Rattle.fj_rules.specs.Lists.{is_empty, or_else, first_of}
use Rattle.fj_rules.specs.Queues.{queue}
use Rattle.fj_rules.specs.Choices.{choice, own_choice, first_queued, scan_order}
use Rattle.fj_rules.specs.Runs.{Past}
use Rattle.fj_rules.proofs.Lists.Owners.{work_owner}
use Rattle.fj_queues.specs.Queues.{first_filled, places_from}
use Rattle.fj_ledger.specs.declared.queue_end.QueueEnd.{QueueEnd}
use Rattle.fj_ledger.specs.declared.queue_end.QueueEnd.TheVariants.{Oldest, Newest}
use Rattle.fj_ledger.specs.Sources.{IsChosenFrom, end_of}

-- a place within a list has a member
pub some_get : (xs : List ℕ) (i : ℕ) → i < length xs → (u : ℕ) × (slice_get xs i ≡ Some u)
some_get [] i inside = absurd (omega (arith, inside))
some_get (x ∷ xs) zero inside = (x, refl)
some_get (x ∷ xs) (suc i) inside = some_get xs i (omega (arith, inside))

-- each of the places is below the count
abbrev pub AllBelow : ℕ → List ℕ → Type 0
AllBelow count [] = Unit {0}
AllBelow count (i ∷ places) = (i < count) × AllBelow count places

-- the task is the first of a queue with this number, or there is none
abbrev pub ComesFrom : Bounds → List Event → Option ℕ → Option ℕ → Type 0
ComesFrom l h task place =
    MatchOption place (task ≡ None) (λ q. (q < queues_in l) × (task ≡ first_of (queue h (owner_at l q))) × (0 < length (queue h (owner_at l q))))

found : (l : Bounds) (h : List Event) (lists : List (List ℕ)) → ((i : ℕ) → i < queues_in l → get_or lists i [] ≡ queue h (owner_at l i))
    → (places : List ℕ) → AllBelow (queues_in l) places → ComesFrom l h (first_queued h (map (owner_at l) places)) (first_filled lists places)
unfolding first_queued
found l h lists each [] below = refl
found l h lists each (i ∷ places) below = go (get_or lists i []) refl (found l h lists each places below.1)
  where
    go : (row : List ℕ) → get_or lists i [] ≡ row → ComesFrom l h (first_queued h (map (owner_at l) places)) (first_filled lists places)
        → ComesFrom l h (or_else (first_of (queue h (owner_at l i))) (first_queued h (map (owner_at l) places))) (cond (is_empty (get_or lists i [])) (first_filled lists places) (Some i))
    go [] is rest = let here : queue h (owner_at l i) ≡ [] = sym (each i below.0) ∙ is in rw (is, here) rest
    go (t ∷ ts) is rest = let here : queue h (owner_at l i) ≡ t ∷ ts = sym (each i below.0) ∙ is in rw (is, here) (below.0, refl, omega arith)

map_twice : (f : ℕ → Owner) (g : ℕ → ℕ) (xs : List ℕ) → map (λ x. f (g x)) xs ≡ map f (map g xs)
map_twice f g [] = refl
map_twice f g (x ∷ xs) = ap (λ ys. f (g x) ∷ ys) (map_twice f g xs)

all_below : (count r i n : ℕ) → 0 < count → AllBelow count (map (λ k. (r + k) % count) (range_with_len i n))
all_below count r i zero some = tt
all_below count r i (suc n) some = (omega arith, all_below count r (i + 1) n some)

-- what the scan finds is what the scan of the definition finds
pub scan_found : (l : Bounds) (h : List Event) (lists : List (List ℕ)) (r : ℕ) → 0 < queues_in l → ((i : ℕ) → i < queues_in l → get_or lists i [] ≡ queue h (owner_at l i))
    → ComesFrom l h (first_queued h (scan_order l r)) (first_filled lists (places_from (queues_in l) r))
scan_found l h lists r some each =
    let all = found l h lists each (places_from (queues_in l) r) (all_below (queues_in l) r 0 (queues_in l) some) in
    rw (← map_twice (owner_at l) (λ i. (r + i) % queues_in l) (range_with_len 0 (queues_in l))) at all

-- of an empty queue both modes take nothing
none_own : (m : Mode) → own_choice m [] ≡ None
none_own Async = refl
none_own Joining = refl

nothing : (ts : List ℕ) → length ts ≡ 0 → ts ≡ []
nothing [] none = refl
nothing (t ∷ ts) none = absurd (omega arith)

-- with an empty own queue the choice is what the scan finds
pub scan_choice : (pool : Pool) (h : List Event) (w r : ℕ) → length (queue h (Work w)) ≡ 0 → choice pool h w r ≡ first_queued h (scan_order pool.limits r)
unfolding choice
scan_choice pool h w r none = rw (nothing (queue h (Work w)) none, none_own pool.mode) refl

-- where the own task stands, by the mode
abbrev pub own_source : Mode → ℕ → QueueEnd
own_source Async q = Oldest q
own_source Joining q = Newest q

-- with a filled own queue the choice stands at its end of the mode
pub own_is_chosen : (past : Past) (w r : ℕ) → w < past.pool.limits.workers → 0 < length (queue past.events (Work w))
    → IsChosenFrom past w r (own_source past.pool.mode (past.pool.limits.submitters + w))
unfolding choice
own_is_chosen past w r within some = go past.pool.mode refl
  where
    l : Bounds
    l = past.pool.limits

    ts : List ℕ
    ts = queue past.events (Work w)

    go : (m : Mode) → past.pool.mode ≡ m → IsChosenFrom past w r (own_source m (past.pool.limits.submitters + w))
    go Async is =
        let t = some_get (queue past.events (Work w)) 0 some in
        record {
          within = omega arith;
          chosen = rw (is, work_owner past.pool.limits w, t.1) refl;
          filled = rw (work_owner past.pool.limits w) some;
        }
    go Joining is =
        let t = some_get (queue past.events (Work w)) (length (queue past.events (Work w)) - 1) (omega arith) in
        record {
          within = omega arith;
          chosen = rw (is, work_owner past.pool.limits w, t.1) refl;
          filled = rw (work_owner past.pool.limits w) some;
        }

-- and with an empty one at the old end of the queue that the scan meets
pub scanned_is_chosen : (past : Past) (w r q : ℕ) → length (queue past.events (Work w)) ≡ 0
    → (q < queues_in past.pool.limits) × (first_queued past.events (scan_order past.pool.limits r) ≡ first_of (queue past.events (owner_at past.pool.limits q))) × (0 < length (queue past.events (owner_at past.pool.limits q)))
    → IsChosenFrom past w r (Oldest q)
scanned_is_chosen past w r q none from = record { within = from.0; chosen = scan_choice past.pool past.events w r none ∙ from.1; filled = from.2 }

-- of a filled queue there is a task at each end
pub end_there : (source : QueueEnd) (ts : List ℕ) → 0 < length ts → (t : ℕ) × (end_of source ts ≡ Some t)
end_there (Oldest q) ts some = some_get ts 0 some
end_there (Newest q) ts some = some_get ts (length ts - 1) (omega arith)
