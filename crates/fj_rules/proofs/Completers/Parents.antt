-- Parents are completers with smaller numbers, so the way up from a task ends at a root.
use Rattle.std.proofs.Common.{ℕ, ◌≡◌, ◌+◌, ◌-◌, ◌≤◌, ◌<◌, Bool, true, false, cond, List, [], ◌∷◌, ◌++◌, length, Option, Some, None, refl, ap, sym, ◌∙◌, arith, zero, suc, subst, ⊎_elim}
use Rattle.std.specs.Prelude.{◌==◌, IfSome, if◌then◌else◌, slice_get}
use Rattle.std.proofs.lemmas.Bool.{eqb-true, or_cases, ltb-true}
use Rattle.fj_rules.specs.declared.event.Event.{Event}
use Rattle.fj_rules.specs.declared.event.Event.TheVariants.{Acc, Make}
use Rattle.fj_rules.specs.declared.kind.Kind.{Kind}
use Rattle.fj_rules.specs.Bounds.{Pool}
use Rattle.fj_rules.specs.Lists.{is_in, or_else, last_of, times_in}
use Rattle.fj_rules.specs.Tasks.{tasks, accepted, is_kept, kind, kind_by, is_completer, parent, parent_in}
use Rattle.fj_rules.specs.Allowed.{Allowed, AllowedFrom, MayAccept}
use Rattle.fj_rules.specs.Climbs.{path, path_up}
use Rattle.fj_rules.specs.Answers.{root_of}
use Rattle.fj_rules.proofs.Lists.Members.{Once, times_in_cons, times_in_none}
use Rattle.fj_rules.proofs.Events.Growth.{kind_more}
use Rattle.fj_rules.proofs.Events.Lawful.{by_events, is_numbered}
use Rattle.fj_rules.proofs.Events.KindsKept.{completer_known, completer_stays, kept_known}

-- p may be the parent of t
pub record IsAbove (h : List Event) (t p : ℕ) : Type 0 where
  pub completer : is_completer h p ≡ true
  pub smaller : p < t

abbrev AreAbove : List Event → Type 0
AreAbove h = (t p : ℕ) → parent h t ≡ Some p → IsAbove h t p

-- an event that gives a task its kind may accept it
pub accepts_may : (pool : Pool) (h : List Event) (e : Event) (t : ℕ) (k : Kind) → Allowed pool h e → kind_by t e ≡ Some k → MayAccept pool h t k
accepts_may pool h (Acc u o j) t k may is = go (u == t) refl is
  where
    go : (b : Bool) → (u == t) ≡ b → (if b then Some j else None) ≡ Some k → MayAccept pool h t k
    go true same is = subst (λ (v : ℕ). MayAccept pool h v k) (eqb-true u t same) (let kinds : j ≡ k = cc in subst (MayAccept pool h u) kinds may.0)
    go false same is = absurd cc
accepts_may pool h (Make u j) t k may is = go (u == t) refl is
  where
    go : (b : Bool) → (u == t) ≡ b → (if b then Some j else None) ≡ Some k → MayAccept pool h t k
    go true same is = subst (λ (v : ℕ). MayAccept pool h v k) (eqb-true u t same) (let kinds : j ≡ k = cc in subst (MayAccept pool h u) kinds may.0)
    go false same is = absurd cc
accepts_may pool h _ t k may is = absurd cc

above_new : (pool : Pool) (h : List Event) (t p : ℕ) (k : Kind) → AllowedFrom pool [] h → MayAccept pool h t k → parent_in (Some k) ≡ Some p → IsAbove h t p
above_new pool h t p k so may is =
    let under = subst (λ (o : Option ℕ). IfSome o (λ q. (is_kept h q ≡ true) × (is_completer h q ≡ true))) is may.under in
    let below : p < accepted h = ltb-true p (accepted h) (sym (is_numbered pool h so p) ∙ kept_known h p under.0) in
    record { completer = under.1; smaller = omega (arith, below, may.number) }

above_more : (pool : Pool) (h : List Event) (e : Event) → AllowedFrom pool [] h → AreAbove h → Allowed pool h e → AreAbove (h ++ e ∷ [])
unfolding parent
above_more pool h e so above may t p is = go (kind h t) refl (kind_by t e) refl (sym (ap parent_in (kind_more h t e)) ∙ is)
  where
    kept : IsAbove h t p → IsAbove (h ++ e ∷ []) t p
    kept was = record { completer = completer_stays h e p was.completer; smaller = was.smaller }

    go : (k : Option Kind) → kind h t ≡ k → (said : Option Kind) → kind_by t e ≡ said → parent_in (or_else k said) ≡ Some p → IsAbove (h ++ e ∷ []) t p
    go (Some k) ks said also is = kept (above t p (ap parent_in ks ∙ is))
    go None ks (Some k) also is = kept (above_new pool h t p k so (accepts_may pool h e t k may also) is)
    go None ks None also is = absurd cc

above_none : AreAbove []
unfolding parent kind
above_none t p is = absurd cc

-- a parent is a completer, and was accepted before its child
pub parent_above : (pool : Pool) (h : List Event) → AllowedFrom pool [] h → AreAbove h
parent_above pool = by_events pool AreAbove above_none (above_more pool)

pub parent_smaller : (pool : Pool) (h : List Event) (t p : ℕ) → AllowedFrom pool [] h → parent h t ≡ Some p → p < t
parent_smaller pool h t p so is = (parent_above pool h so t p is).smaller

pub parent_completer : (pool : Pool) (h : List Event) (t p : ℕ) → AllowedFrom pool [] h → parent h t ≡ Some p → is_completer h p ≡ true
parent_completer pool h t p so is = (parent_above pool h so t p is).completer

pub parent_known : (pool : Pool) (h : List Event) (t p : ℕ) → AllowedFrom pool [] h → parent h t ≡ Some p → is_in p (tasks h) ≡ true
parent_known pool h t p so is = completer_known h p (parent_completer pool h t p so is)

-- ---- the way up

-- those above a task on its way have smaller numbers
above_smaller : (pool : Pool) (n : ℕ) (h : List Event) (c u : ℕ) → AllowedFrom pool [] h → is_in u (path_up n h (parent h c)) ≡ true → u < c
unfolding path_up
above_smaller pool zero h c u so there = absurd cc
above_smaller pool (suc n) h c u so there = go (parent h c) refl there (λ p. above_smaller pool n h p u so)
  where
    go : (from : Option ℕ) → parent h c ≡ from → is_in u (path_up (suc n) h from) ≡ true → ((p : ℕ) → is_in u (path_up n h (parent h p)) ≡ true → u < p) → u < c
    go None is there rest = absurd cc
    go (Some p) is there rest =
        let below = parent_smaller pool h c p so is in
        ⊎_elim (λ here. omega (arith, below, eqb-true p u here)) (λ later. omega (arith, below, rest p later)) (or_cases (p == u) (is_in u (path_up n h (parent h p))) there)

once_cons : (c : ℕ) (us : List ℕ) → is_in c us ≡ false → Once us → Once (c ∷ us)
once_cons c us absent once t = go (c == t) refl
  where
    go : (b : Bool) → (c == t) ≡ b → times_in t (c ∷ us) ≤ 1
    go true is = omega (arith, times_in_cons t c us ∙ ap (λ b. cond b 1 0 + times_in t us) is, times_in_none t us (ap (λ v. is_in v us) (sym (eqb-true c t is)) ∙ absent))
    go false is = omega (arith, times_in_cons t c us ∙ ap (λ b. cond b 1 0 + times_in t us) is, once t)

way_once : (pool : Pool) (n : ℕ) (h : List Event) (from : Option ℕ) → AllowedFrom pool [] h → Once (path_up n h from)
unfolding path_up
way_once pool zero h from so = λ t. omega arith
way_once pool (suc n) h None so = λ t. omega arith
way_once pool (suc n) h (Some c) so =
    once_cons c (path_up n h (parent h c)) (absent (is_in c (path_up n h (parent h c))) refl) (way_once pool n h (parent h c) so)
  where
    absent : (b : Bool) → is_in c (path_up n h (parent h c)) ≡ b → b ≡ false
    absent true there = absurd (omega (arith, above_smaller pool n h c c so there))
    absent false there = refl

-- no task stands twice on the way
pub path_once : (pool : Pool) (h : List Event) (c : ℕ) → AllowedFrom pool [] h → Once (path h c)
unfolding path
path_once pool h c so = way_once pool (suc c) h (Some c) so

-- a test that the first on a way passes, and each parent whose child passes it, is passed by all on the way
pub way_has : (test : ℕ → Bool) (n : ℕ) (h : List Event) (c u : ℕ) → ((t p : ℕ) → test t ≡ true → parent h t ≡ Some p → test p ≡ true)
    → test c ≡ true → is_in u (path_up n h (Some c)) ≡ true → test u ≡ true
unfolding path_up
way_has test zero h c u hands has there = absurd cc
way_has test (suc n) h c u hands has there =
    ⊎_elim (λ here. ap test (sym (eqb-true c u here)) ∙ has) (λ later. go (parent h c) refl later (λ p. way_has test n h p u hands)) (or_cases (c == u) (is_in u (path_up n h (parent h c))) there)
  where
    none_from : (n : ℕ) → is_in u (path_up n h None) ≡ true → ⊥
    none_from zero there = absurd cc
    none_from (suc n) there = absurd cc

    go : (from : Option ℕ) → parent h c ≡ from → is_in u (path_up n h from) ≡ true
        → ((p : ℕ) → test p ≡ true → is_in u (path_up n h (Some p)) ≡ true → test u ≡ true) → test u ≡ true
    go None is later rest = absurd (none_from n later)
    go (Some p) is later rest = rest p (hands c p has is) later

-- the way of a completer has completers only
pub path_completers : (pool : Pool) (h : List Event) (c u : ℕ) → AllowedFrom pool [] h → is_completer h c ≡ true → is_in u (path h c) ≡ true → is_completer h u ≡ true
unfolding path
path_completers pool h c u so = way_has (is_completer h) (suc c) h c u (λ t p _ is. parent_completer pool h t p so is)

-- the last of a longer list is the last of its rest
last_more : (c u : ℕ) (us : List ℕ) → last_of (c ∷ u ∷ us) ≡ last_of (u ∷ us)
last_more c u us = let longer : length (c ∷ u ∷ us) - 1 ≡ suc (length (u ∷ us) - 1) = omega arith in ap (slice_get (c ∷ u ∷ us)) longer

-- where there is enough room for the whole way, its last has no parent
way_root : (pool : Pool) (n : ℕ) (h : List Event) (c r : ℕ) → AllowedFrom pool [] h → c < n → last_of (path_up n h (Some c)) ≡ Some r → parent h r ≡ None
unfolding path_up
way_root pool zero h c r so room is = absurd (omega (arith, room))
way_root pool (suc n) h c r so room is = go n (parent h c) refl (omega (arith, room)) is (λ p below. way_root pool n h p r so below)
  where
    go : (m : ℕ) (from : Option ℕ) → parent h c ≡ from → c ≤ m → last_of (c ∷ path_up m h from) ≡ Some r
        → ((p : ℕ) → p < m → last_of (path_up m h (Some p)) ≡ Some r → parent h r ≡ None) → parent h r ≡ None
    go zero None free room is rest = let same : c ≡ r = cc in ap (parent h) (sym same) ∙ free
    go (suc m) None free room is rest = let same : c ≡ r = cc in ap (parent h) (sym same) ∙ free
    go zero (Some p) up room is rest = absurd (omega (arith, room, parent_smaller pool h c p so up))
    go (suc m) (Some p) up room is rest = rest p (omega (arith, room, parent_smaller pool h c p so up)) (sym (last_more c p (path_up m h (parent h p))) ∙ is)

-- the way is never cut short: its last member, the root, has no parent
pub root_free : (pool : Pool) (h : List Event) (c r : ℕ) → AllowedFrom pool [] h → root_of (path h c) ≡ Some r → parent h r ≡ None
unfolding path
root_free pool h c r so is = way_root pool (suc c) h c r so (omega arith) is
