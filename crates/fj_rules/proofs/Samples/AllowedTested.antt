-- The test of the sample scripts says of an event behind a lawful history what the definition says.
use Rattle.std.proofs.Common.{ℕ, zero, suc, ◌≡◌, ◌+◌, ◌≤◌, ◌<◌, Bool, true, not, List, [], ◌∷◌, ◌++◌, Option, Some, None, refl, ap, sym, ◌∙◌, arith, inl, inr, ⊎_elim}
use Rattle.std.specs.Prelude.{◌&&◌, ◌||◌, ◌==◌, nat_lt, nat_le, is_none, IfSome}
use Rattle.std.specs.List.{list_any, range_with_len}
use Rattle.std.proofs.lemmas.Bool.{and_parts, and_from, or_cases, or_left, or_right, ltb-true, leb-true, eqb-true, lt-ltb, le-leb, eq-eqb, not-true, not_from_false, cases_eq}
use Rattle.fj_rules.specs.declared.event.Event.{Event}
use Rattle.fj_rules.specs.declared.event.Event.TheVariants.{Acc, Make, Out, Skip, End, Add, Dec, Fire, Pass, Hooked, Settle, Close, Stop, Rel}
use Rattle.fj_rules.specs.declared.event.How.TheVariants.{Zero, Complete}
use Rattle.fj_rules.specs.declared.kind.Kind.{Kind}
use Rattle.fj_rules.specs.declared.owner.Owner.{Owner}
use Rattle.fj_rules.specs.declared.owner.Owner.TheVariants.{Sub, Work}
use Rattle.fj_rules.specs.declared.place.Place.{Place}
use Rattle.fj_rules.specs.declared.place.Place.TheVariants as at
use Rattle.fj_rules.specs.declared.status.Status.{Status}
use Rattle.fj_rules.specs.declared.status.Status.TheVariants.{Undone, Normal, Exceptional, Cancelled}
use Rattle.fj_rules.specs.Bounds.{Bounds, Pool, IsOwner, queues_in, workers}
use Rattle.fj_rules.specs.Lists.{is_in, last_of}
use Rattle.fj_rules.specs.Tasks.{tasks, accepted, is_kept, live, is_completer, is_completer_kind, parent, parent_in, count_in}
use Rattle.fj_rules.specs.Stacks.{stack}
use Rattle.fj_rules.specs.Hooks.{hand}
use Rattle.fj_rules.specs.Statuses.{status, is_undone}
use Rattle.fj_rules.specs.Completers.{pending, is_spent}
use Rattle.fj_rules.specs.Places.{place, is_gone}
use Rattle.fj_rules.specs.Choices.{choice}
use Rattle.fj_rules.specs.Climbs.{Arrival, Spent, Counted, Early, Fires, arrival, does_fire}
use Rattle.fj_rules.specs.Allowed.{Allowed, AllowedFrom, MayAccept, MayTake, MayBeNormal, is_shut, is_closed, is_stopped, has_kept_child, is_fired_by_complete, newest, ends_task, ends_hook}
use Rattle.fj_rules.proofs.Completers.Hands.{hand_there}
use Rattle.fj_rules.proofs.Events.Lawful.{allowed_more}
use Rattle.fj_rules.proofs.Samples.AllowedTest.{is_number, is_counted, is_owner, parent_fits, may_accept, may_take, may_be_normal, allowed_test, all_allowed}

-- ---- parts

three : (x y z : Bool) → (x && y && z) ≡ true → (x ≡ true) × (y ≡ true) × (z ≡ true)
three x y z is =
    let a = and_parts (x && y) z is in
    let b = and_parts x y a.0 in
    (b.0, b.1, a.1)

four : (x y z u : Bool) → (x && y && z && u) ≡ true → (x ≡ true) × (y ≡ true) × (z ≡ true) × (u ≡ true)
four x y z u is =
    let a = and_parts (x && y && z) u is in
    let b = three x y z a.0 in
    (b.0, b.1, b.2, a.1)

number_told : (o : Option ℕ) (t : ℕ) → is_number o t ≡ true → o ≡ Some t
number_told None t is = absurd cc
number_told (Some u) t is = ap Some (eqb-true u t is)

none_told : (o : Option ℕ) → is_none o ≡ true → o ≡ None
none_told None is = refl
none_told (Some u) is = absurd cc

counted_told : (a : Arrival) → is_counted a ≡ true → a ≡ Counted
counted_told Counted is = refl
counted_told Spent is = absurd cc
counted_told Early is = absurd cc
counted_told Fires is = absurd cc

fires_told : (a : Arrival) → does_fire a ≡ true → a ≡ Fires
fires_told Fires is = refl
fires_told Counted is = absurd cc
fires_told Spent is = absurd cc
fires_told Early is = absurd cc

gone_told : (p : Place) → is_gone p ≡ true → p ≡ at.Gone
gone_told at.Gone is = refl
gone_told at.Open is = absurd cc
gone_told (at.Queued o) is = absurd cc
gone_told (at.Held w) is = absurd cc

owner_told : (l : Bounds) (o : Owner) → is_owner l o ≡ true → IsOwner l o
owner_told l (Sub s) is = ltb-true s l.submitters is
owner_told l (Work w) is = ltb-true w l.workers is

-- one of these numbers passes the test
record PassesOne (p : ℕ → Bool) (i n : ℕ) : Type 0 where
  number : ℕ
  below : number < i + n
  passes : p number ≡ true

any_told : (p : ℕ → Bool) (i n : ℕ) → list_any p (range_with_len i n) ≡ true → PassesOne p i n
any_told p i zero is = absurd cc
any_told p i (suc n) is = ⊎_elim
    (λ here. record { number = i; below = omega arith; passes = here })
    (λ later. let found = any_told p (i + 1) n later in record { number = found.number; below = omega (arith, found.below); passes = found.passes })
    (or_cases (p i) (list_any p (range_with_len (i + 1) n)) is)

-- ---- an acceptance

parent_told : (h : List Event) (o : Option ℕ) → parent_fits h o ≡ true → IfSome o (λ p. (is_kept h p ≡ true) × (is_completer h p ≡ true))
parent_told h None is = tt
parent_told h (Some p) is = and_parts (is_kept h p) (is_completer h p) is

accept_told : (pool : Pool) (h : List Event) (t : ℕ) (k : Kind) → may_accept pool h t k ≡ true → MayAccept pool h t k
accept_told pool h t k is =
    let a = four (t == accepted h) (nat_lt (live h) pool.limits.tasks) (parent_fits h (parent_in (Some k))) (nat_le (count_in (Some k)) 65535) is in
    record {
      number = eqb-true t (accepted h) a.0;
      room = ltb-true (live h) pool.limits.tasks a.1;
      under = parent_told h (parent_in (Some k)) a.2;
      count = leb-true (count_in (Some k)) 65535 a.3;
    }

-- ---- a task that is taken

take_told : (pool : Pool) (h : List Event) (t w : ℕ) → may_take pool h t w ≡ true → MayTake pool h t w
take_told pool h t w is =
    let a = three (nat_lt w pool.limits.workers) (list_any (λ r. is_number (choice pool h w r) t) (range_with_len 0 (queues_in pool.limits))) (is_none (hand h w)) is in
    let found = any_told (λ r. is_number (choice pool h w r) t) 0 (queues_in pool.limits) a.1 in
    record {
      worker = ltb-true w pool.limits.workers a.0;
      chosen = (found.number, omega (arith, found.below), number_told (choice pool h w found.number) t found.passes);
      free = none_told (hand h w) a.2;
    }

-- ---- a task that becomes normal

normal_told : (h : List Event) (t : ℕ) (s : Status) → may_be_normal h t s ≡ true → MayBeNormal h t s
normal_told h t Undone is = tt
normal_told h t (Exceptional code) is = tt
normal_told h t Cancelled is = tt
normal_told h t Normal is = ⊎_elim
    (λ first. ⊎_elim
    (λ plain. let p = and_parts (not (is_completer h t)) (ends_task t (newest h)) plain in inl (not-true (is_completer h t) p.0, p.1))
    (λ root. let p = and_parts (is_completer h t) (is_none (parent h t)) root in inr (inl (p.0, none_told (parent h t) p.1)))
    (or_cases (not (is_completer h t) && ends_task t (newest h)) (is_completer h t && is_none (parent h t)) first))
    (λ fired. inr (inr (and_parts (is_fired_by_complete h t) (ends_hook t (newest h)) fired)))
    (or_cases ((not (is_completer h t) && ends_task t (newest h)) || (is_completer h t && is_none (parent h t))) (is_fired_by_complete h t && ends_hook t (newest h)) is)

-- ---- the event

-- what passes the test is allowed
pub told : (pool : Pool) (h : List Event) (e : Event) → allowed_test pool h e ≡ true → Allowed pool h e
unfolding workers
told pool h (Acc t o k) is =
    let a = three (may_accept pool h t k) (is_owner pool.limits o) (not (is_shut h o)) is in
    (accept_told pool h t k a.0, owner_told pool.limits o a.1, not-true (is_shut h o) a.2)
told pool h (Make t k) is =
    let a = four (may_accept pool h t k) (is_completer_kind (Some k)) (is_none (parent_in (Some k))) (not (is_stopped h)) is in
    (accept_told pool h t k a.0, a.1, none_told (parent_in (Some k)) a.2, not-true (is_stopped h) a.3)
told pool h (Out t w) is = let a = and_parts (may_take pool h t w) (is_undone (status h t)) is in (take_told pool h t w a.0, a.1)
told pool h (Skip t w) is = let a = and_parts (may_take pool h t w) (not (is_undone (status h t))) is in (take_told pool h t w a.0, not-true (is_undone (status h t)) a.1)
told pool h (End t w) is = let a = and_parts (is_number (last_of (stack h w)) t) (is_none (hand h w)) is in (number_told (last_of (stack h w)) t a.0, none_told (hand h w) a.1)
told pool h (Add c n) is =
    let a = three (is_kept h c) (is_completer h c) (nat_le (pending h c + n) 65535) is in
    (a.0, a.1, leb-true (pending h c + n) 65535 a.2)
told pool h (Dec c) is = counted_told (arrival h c) is
told pool h (Fire c Zero) is = fires_told (arrival h c) is
told pool h (Fire c Complete) is = let a = and_parts (not (is_spent h c)) (ends_task c (newest h)) is in (not-true (is_spent h c) a.0, a.1)
told pool h (Pass c) is = fires_told (arrival h c) is
told pool h (Hooked c) is = let found = any_told (λ w. is_number (hand h w) c) 0 pool.limits.workers is in (found.number, number_told (hand h found.number) c found.passes)
told pool h (Settle t s) is =
    let a = four (is_in t (tasks h)) (is_undone (status h t)) (not (is_undone s)) (may_be_normal h t s) is in
    (a.0, a.1, not-true (is_undone s) a.2, normal_told h t s a.3)
told pool h Close is = let a = and_parts (not (is_closed h)) (not (is_stopped h)) is in (not-true (is_closed h) a.0, not-true (is_stopped h) a.1)
told pool h Stop is = not-true (is_stopped h) is
told pool h (Rel t) is =
    let a = three (is_kept h t) (is_gone (place h t)) (not (has_kept_child h t)) is in
    (a.0, gone_told (place h t) a.1, not-true (has_kept_child h t) a.2)

-- and so are events that pass it one after another
pub all_told : (pool : Pool) (h later : List Event) → all_allowed pool h later ≡ true → AllowedFrom pool h later
all_told pool h [] is = tt
all_told pool h (e ∷ later) is =
    let a = and_parts (allowed_test pool h e) (all_allowed pool (h ++ e ∷ []) later) is in (told pool h e a.0, all_told pool (h ++ e ∷ []) later a.1)

-- ---- and what is allowed passes the test

three_from : (x y z : Bool) → x ≡ true → y ≡ true → z ≡ true → (x && y && z) ≡ true
three_from x y z p q r = and_from (x && y) z (and_from x y p q) r

four_from : (x y z u : Bool) → x ≡ true → y ≡ true → z ≡ true → u ≡ true → (x && y && z && u) ≡ true
four_from x y z u p q r s = and_from (x && y && z) u (three_from x y z p q r) s

number_tested : (o : Option ℕ) (t : ℕ) → o ≡ Some t → is_number o t ≡ true
number_tested o t is = rw is (eq-eqb t t refl)

none_tested : (o : Option ℕ) → o ≡ None → is_none o ≡ true
none_tested o is = rw is refl

owner_tested : (l : Bounds) (o : Owner) → IsOwner l o → is_owner l o ≡ true
owner_tested l (Sub s) is = lt-ltb s l.submitters is
owner_tested l (Work w) is = lt-ltb w l.workers is

any_tested : (p : ℕ → Bool) (i n k : ℕ) → i ≤ k → k < i + n → p k ≡ true → list_any p (range_with_len i n) ≡ true
any_tested p i zero k low high is = absurd (omega (arith, low, high))
any_tested p i (suc n) k low high is = ⊎_elim
    (λ here. or_left (p i) (list_any p (range_with_len (i + 1) n)) (ap p (sym here) ∙ is))
    (λ other. or_right (p i) (list_any p (range_with_len (i + 1) n)) (any_tested p (i + 1) n k (omega (arith, low, other)) (omega (arith, high)) is))
    (cases_eq k i)

parent_tested : (h : List Event) (o : Option ℕ) → IfSome o (λ p. (is_kept h p ≡ true) × (is_completer h p ≡ true)) → parent_fits h o ≡ true
parent_tested h None is = refl
parent_tested h (Some p) is = and_from (is_kept h p) (is_completer h p) is.0 is.1

accept_tested : (pool : Pool) (h : List Event) (t : ℕ) (k : Kind) → MayAccept pool h t k → may_accept pool h t k ≡ true
accept_tested pool h t k may =
    four_from (t == accepted h) (nat_lt (live h) pool.limits.tasks) (parent_fits h (parent_in (Some k))) (nat_le (count_in (Some k)) 65535)
    (eq-eqb t (accepted h) may.number) (lt-ltb (live h) pool.limits.tasks may.room) (parent_tested h (parent_in (Some k)) may.under) (le-leb (count_in (Some k)) 65535 may.count)

take_tested : (pool : Pool) (h : List Event) (t w : ℕ) → MayTake pool h t w → may_take pool h t w ≡ true
take_tested pool h t w may =
    three_from (nat_lt w pool.limits.workers) (list_any (λ r. is_number (choice pool h w r) t) (range_with_len 0 (queues_in pool.limits))) (is_none (hand h w))
    (lt-ltb w pool.limits.workers may.worker)
    (any_tested (λ r. is_number (choice pool h w r) t) 0 (queues_in pool.limits) may.chosen.0 (omega arith) (omega (arith, may.chosen.1)) (number_tested (choice pool h w may.chosen.0) t may.chosen.2))
    (none_tested (hand h w) may.free)

normal_tested : (h : List Event) (t : ℕ) (s : Status) → MayBeNormal h t s → may_be_normal h t s ≡ true
normal_tested h t Undone may = refl
normal_tested h t (Exceptional code) may = refl
normal_tested h t Cancelled may = refl
normal_tested h t Normal (inl plain) =
    or_left ((not (is_completer h t) && ends_task t (newest h)) || (is_completer h t && is_none (parent h t))) (is_fired_by_complete h t && ends_hook t (newest h))
    (or_left (not (is_completer h t) && ends_task t (newest h)) (is_completer h t && is_none (parent h t))
    (and_from (not (is_completer h t)) (ends_task t (newest h)) (not_from_false (is_completer h t) plain.0) plain.1))
normal_tested h t Normal (inr (inl root)) =
    or_left ((not (is_completer h t) && ends_task t (newest h)) || (is_completer h t && is_none (parent h t))) (is_fired_by_complete h t && ends_hook t (newest h))
    (or_right (not (is_completer h t) && ends_task t (newest h)) (is_completer h t && is_none (parent h t)) (and_from (is_completer h t) (is_none (parent h t)) root.0 (none_tested (parent h t) root.1)))
normal_tested h t Normal (inr (inr fired)) =
    or_right ((not (is_completer h t) && ends_task t (newest h)) || (is_completer h t && is_none (parent h t))) (is_fired_by_complete h t && ends_hook t (newest h))
    (and_from (is_fired_by_complete h t) (ends_hook t (newest h)) fired.0 fired.1)

pub tested : (pool : Pool) (h : List Event) (e : Event) → AllowedFrom pool [] h → Allowed pool h e → allowed_test pool h e ≡ true
unfolding workers
tested pool h (Acc t o k) so may = three_from (may_accept pool h t k) (is_owner pool.limits o) (not (is_shut h o)) (accept_tested pool h t k may.0) (owner_tested pool.limits o may.1) (not_from_false (is_shut h o) may.2)
tested pool h (Make t k) so may =
    four_from (may_accept pool h t k) (is_completer_kind (Some k)) (is_none (parent_in (Some k))) (not (is_stopped h))
    (accept_tested pool h t k may.0) may.1 (none_tested (parent_in (Some k)) may.2) (not_from_false (is_stopped h) may.3)
tested pool h (Out t w) so may = and_from (may_take pool h t w) (is_undone (status h t)) (take_tested pool h t w may.0) may.1
tested pool h (Skip t w) so may = and_from (may_take pool h t w) (not (is_undone (status h t))) (take_tested pool h t w may.0) (not_from_false (is_undone (status h t)) may.1)
tested pool h (End t w) so may = and_from (is_number (last_of (stack h w)) t) (is_none (hand h w)) (number_tested (last_of (stack h w)) t may.0) (none_tested (hand h w) may.1)
tested pool h (Add c n) so may = three_from (is_kept h c) (is_completer h c) (nat_le (pending h c + n) 65535) may.0 may.1 (le-leb (pending h c + n) 65535 may.2)
tested pool h (Dec c) so may = rw may refl
tested pool h (Fire c Zero) so may = rw may refl
tested pool h (Fire c Complete) so may = and_from (not (is_spent h c)) (ends_task c (newest h)) (not_from_false (is_spent h c) may.0) may.1
tested pool h (Pass c) so may = rw may refl
tested pool h (Hooked c) so may =
    any_tested (λ w. is_number (hand h w) c) 0 pool.limits.workers may.0 (omega arith) (omega (arith, hand_there pool h may.0 c so may.1)) (number_tested (hand h may.0) c may.1)
tested pool h (Settle t s) so may =
    four_from (is_in t (tasks h)) (is_undone (status h t)) (not (is_undone s)) (may_be_normal h t s) may.0 may.1 (not_from_false (is_undone s) may.2) (normal_tested h t s may.3)
tested pool h Close so may = and_from (not (is_closed h)) (not (is_stopped h)) (not_from_false (is_closed h) may.0) (not_from_false (is_stopped h) may.1)
tested pool h Stop so may = not_from_false (is_stopped h) may
tested pool h (Rel t) so may = three_from (is_kept h t) (is_gone (place h t)) (not (has_kept_child h t)) may.0 (rw may.1 refl) (not_from_false (has_kept_child h t) may.2)

pub all_tested : (pool : Pool) (h later : List Event) → AllowedFrom pool [] h → AllowedFrom pool h later → all_allowed pool h later ≡ true
all_tested pool h [] so may = refl
all_tested pool h (e ∷ later) so may =
    and_from (allowed_test pool h e) (all_allowed pool (h ++ e ∷ []) later) (tested pool h e so may.0)
    (all_tested pool (h ++ e ∷ []) later (allowed_more pool [] h e so may.0) may.1)
