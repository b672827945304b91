-- A climb passes one completer after another.
use Rattle.std.proofs.Common.{ℕ, zero, suc, ◌≡◌, ◌+◌, ◌<◌, true, List, [], ◌∷◌, ◌++◌, length, map, take, drop, Option, Some, None, refl, ap, sym, ◌∙◌, subst, arith, append_assoc}
use Rattle.std.specs.Prelude.{slice_get}
use Rattle.std.proofs.lemmas.List.{append-nil, map-append}
use Rattle.std.proofs.lemmas.Option.{same_Some}
use Rattle.fj_rules.specs.declared.event.Event.{Event}
use Rattle.fj_rules.specs.declared.event.Event.TheVariants.{Pass}
use Rattle.fj_rules.specs.Bounds.{Pool}
use Rattle.fj_rules.specs.Tasks.{tasks, is_completer, parent}
use Rattle.fj_rules.specs.Climbs.{path_up, path, passed}
use Rattle.fj_rules.specs.Allowed.{Allowed, AllowedFrom}
use Rattle.fj_rules.specs.Runs.{Past, grown}
use Rattle.fj_rules.proofs.Events.KindsKept.{completer_same_all, parent_same_all}
use Rattle.fj_rules.proofs.Completers.Ways.{way_split}

-- ---- members by place

pub get_left : (xs ys : List ℕ) (i : ℕ) → i < length xs → slice_get (xs ++ ys) i ≡ slice_get xs i
get_left [] ys i inside = absurd (omega (arith, inside))
get_left (x ∷ xs) ys zero inside = refl
get_left (x ∷ xs) ys (suc i) inside = get_left xs ys i (omega (arith, inside))

take_suc : (xs : List ℕ) (i u : ℕ) → slice_get xs i ≡ Some u → take (suc i) xs ≡ take i xs ++ u ∷ []
take_suc [] i u is = absurd cc
take_suc (x ∷ xs) zero u is = ap (λ (y : ℕ). y ∷ []) (same_Some x u is)
take_suc (x ∷ xs) (suc i) u is = ap (λ (ys : List ℕ). x ∷ ys) (take_suc xs i u is)

pub take_get : (xs : List ℕ) (i u : ℕ) → slice_get xs i ≡ Some u → take (i + 1) xs ≡ take i xs ++ u ∷ []
take_get xs i u is = let more : i + 1 ≡ suc i = omega arith in ap (λ (n : ℕ). take n xs) more ∙ take_suc xs i u is

-- what is passed is the beginning of the way
pub passed_at : (h : List Event) (t i : ℕ) → i < length (passed h t) → slice_get (path h t) i ≡ slice_get (passed h t) i
passed_at h t i inside = ap (λ (ts : List ℕ). slice_get ts i) (sym (way_split h t)) ∙ get_left (passed h t) (drop (length (passed h t)) (path h t)) i inside

first_up : (n : ℕ) (h : List Event) (from : Option ℕ) (d : ℕ) → slice_get (path_up n h from) 0 ≡ Some d → from ≡ Some d
unfolding path_up
first_up zero h from d is = absurd cc
first_up (suc n) h None d is = absurd cc
first_up (suc n) h (Some c) d is = is

up_get : (n : ℕ) (h : List Event) (from : Option ℕ) (i d u : ℕ) → slice_get (path_up n h from) i ≡ Some d → slice_get (path_up n h from) (suc i) ≡ Some u → parent h d ≡ Some u
unfolding path_up
up_get zero h from i d u is next = absurd cc
up_get (suc n) h None i d u is next = absurd cc
up_get (suc n) h (Some c) zero d u is next = ap (parent h) (sym (same_Some c d is)) ∙ first_up n h (parent h c) u next
up_get (suc n) h (Some c) (suc i) d u is next = up_get n h (parent h c) i d u is next

-- the next on the way is the parent
pub next_up : (h : List Event) (t i d u : ℕ) → slice_get (path h t) i ≡ Some d → slice_get (path h t) (i + 1) ≡ Some u → parent h d ≡ Some u
unfolding path
next_up h t i d u is next = let more : suc i ≡ i + 1 = omega arith in up_get (suc t) h (Some t) i d u is (ap (slice_get (path_up (suc t) h (Some t))) more ∙ next)

pub path_begins : (h : List Event) (t : ℕ) → slice_get (path h t) 0 ≡ Some t
unfolding path path_up
path_begins h t = refl

-- ---- the events

pub may_next : (pool : Pool) (event : ℕ → Event) (before : List Event) (ts : List ℕ) (i c : ℕ) → AllowedFrom pool before (map event ts) → slice_get ts i ≡ Some c
    → Allowed pool (before ++ map event (take i ts)) (event c)
may_next pool event before [] i c so is = absurd cc
may_next pool event before (t ∷ ts) zero c so is =
    subst (λ (h : List Event). Allowed pool h (event c)) (sym (append-nil before)) (subst (λ (u : ℕ). Allowed pool before (event u)) (same_Some t c is) so.0)
may_next pool event before (t ∷ ts) (suc i) c so is =
    subst (λ (h : List Event). Allowed pool h (event c)) (append_assoc before (event t ∷ []) (map event (take i ts))) (may_next pool event (before ++ event t ∷ []) ts i c so.1 is)

no_tasks : (ts : List ℕ) → tasks (map Pass ts) ≡ []
unfolding tasks
no_tasks [] = refl
no_tasks (t ∷ ts) = no_tasks ts

-- a member of what is passed is a completer still, and its parent is the same
pub still_completer : (h : List Event) (ts : List ℕ) (c : ℕ) → is_completer h c ≡ true → is_completer (h ++ map Pass ts) c ≡ true
still_completer h ts c is = completer_same_all h (map Pass ts) c (no_tasks ts) ∙ is

pub still_parent : (h : List Event) (ts : List ℕ) (c : ℕ) → parent (h ++ map Pass ts) c ≡ parent h c
still_parent h ts c = parent_same_all h (map Pass ts) c (no_tasks ts)

-- the beginning of allowed events was allowed
pub allowed_front : (pool : Pool) (before xs ys : List Event) → AllowedFrom pool before (xs ++ ys) → AllowedFrom pool before xs
allowed_front pool before [] ys so = tt
allowed_front pool before (x ∷ xs) ys so = (so.0, allowed_front pool (before ++ x ∷ []) xs ys so.1)

-- one more has its event
pub next_more : (event : ℕ → Event) (past : Past) (ts : List ℕ) (i c : ℕ) → slice_get ts i ≡ Some c → grown (grown past (map event (take i ts))) (event c ∷ []) ≡ grown past (map event (take (i + 1) ts))
next_more event past ts i c is =
    ap (λ (es : List Event). let p : Past = record past { events = es } in p)
    (append_assoc past.events (map event (take i ts)) (event c ∷ []) ∙ ap (λ (es : List Event). past.events ++ es) (sym (ap (map event) (take_get ts i c is) ∙ map-append event (take i ts) (c ∷ []))))
