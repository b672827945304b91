-- What stands under each number of a shelf, from how it is kept.
use Rattle.std.proofs.Common.{ℕ, suc, ◌≡◌, ◌≢◌, ◌+◌, ◌≤◌, ◌<◌, ◌%◌, Bool, true, false, cond, List, [], ◌∷◌, ◌++◌, length, Option, Some, None, get_or, set, refl, ⊎_elim, ap, sym, ◌∙◌, subst, arith, length-set}
use Rattle.std.specs.Prelude.{◌==◌, ◌||◌, if◌then◌else◌, MatchOption, is_some, replicate, slice_get, option_map, IfNone}
use Rattle.std.proofs.lemmas.Bool.{eq-eqb, eqb-true, ne_eqb, or_parts, true≢false, cases_eq, or_cases}
use Rattle.std.proofs.lemmas.List.{map-append, get_or-set_same, get_or-set_other, get_or-replicate, length-replicate}
use Rattle.std.proofs.lemmas.Nat.{mod_below}
use Rattle.std.proofs.lemmas.Option.{slice_get-get_or, get_or_from_slice_get}
use Rattle.fj_rules.specs.Lists.{is_in, times_in, or_else}
use Rattle.fj_rules.proofs.Lists.Members.{is_in_append, times_in_append, times_in_cons, times_in_some, times_in_none, Once, once_more}
use Rattle.fj_rules.proofs.Places.KeptPlaces.{few_within}
use Rattle.fj_slots.specs.Aside.{Listed, numbers, Without, entry_in}
use Rattle.fj_slots.specs.Slots.{in_slot, guessed, entry_of, IsShelf}
use Rattle.fj_slots.specs.Shelves.{Shelved, no_entries, with_entry, without_entry, AreFewer}

-- functions that agree everywhere are the same
pub same_everywhere : {A B : Type 0} (f g : A → B) → ((x : A) → f x ≡ g x) → f ≡ g
same_everywhere f g same = λ i x. same x i

-- ---- the entries aside

pub numbers_long : {T : Type 0} (items : List (ℕ × T)) → length (numbers items) ≡ length items
numbers_long [] = refl
numbers_long (x ∷ items) = ap suc (numbers_long items)

pub not_aside : {T : Type 0} (items : List (ℕ × T)) (n : ℕ) → is_in n (numbers items) ≡ false → entry_in items n ≡ None
unfolding entry_in
not_aside [] n none = refl
not_aside (x ∷ items) n none = let parts = or_parts (x.0 == n) (is_in n (numbers items)) none in rw parts.0 (not_aside items n parts.1)

pub none_aside : {T : Type 0} (items : List (ℕ × T)) (n : ℕ) → entry_in items n ≡ None → is_in n (numbers items) ≡ false
unfolding entry_in
none_aside [] n none = refl
none_aside {T} (x ∷ items) n none = go (x.0 == n) refl none (none_aside items n)
  where
    go : (b : Bool) → (x.0 == n) ≡ b → (if b then Some x.1 else entry_in items n) ≡ None → (entry_in items n ≡ None → is_in n (numbers items) ≡ false) → is_in n (numbers (x ∷ items)) ≡ false
    go true at is rest = absurd cc
    go false at is rest = rw at (rest is)

-- one more at the end, under a number that was free
aside_more : {T : Type 0} (items : List (ℕ × T)) (n m : ℕ) (x : T) → entry_in items n ≡ None → entry_in (items ++ (n, x) ∷ []) m ≡ (if n == m then Some x else entry_in items m)
unfolding entry_in
aside_more [] n m x free = refl
aside_more {T} (y ∷ items) n m x free = go (y.0 == n) refl (y.0 == m) refl (n == m) refl free (aside_more items n m x)
  where
    go : (a : Bool) → (y.0 == n) ≡ a → (b : Bool) → (y.0 == m) ≡ b → (e : Bool) → (n == m) ≡ e → (if a then Some y.1 else entry_in items n) ≡ None
        → (entry_in items n ≡ None → entry_in (items ++ (n, x) ∷ []) m ≡ (if n == m then Some x else entry_in items m))
        → (if b then Some y.1 else entry_in (items ++ (n, x) ∷ []) m) ≡ (if e then Some x else (if b then Some y.1 else entry_in items m))
    go true at b bt e et none rest = absurd cc
    go false at true bt true et none rest = absurd (true≢false (sym bt ∙ ap (λ v. y.0 == v) (sym (eqb-true n m et)) ∙ at))
    go false at true bt false et none rest = refl
    go false at false bt e et none rest = rest none ∙ rw et refl

-- one taken out of those that stand once
aside_less : {T : Type 0} (before later : List (ℕ × T)) (n m : ℕ) (x : T) → Once (numbers (before ++ (n, x) ∷ later)) → entry_in (before ++ later) m ≡ (if n == m then None else entry_in (before ++ (n, x) ∷ later) m)
unfolding entry_in
aside_less {T} [] later n m x once = go (n == m) refl
  where
    absent : is_in n (numbers later) ≡ false
    absent = out (is_in n (numbers later)) refl
      where
        out : (b : Bool) → is_in n (numbers later) ≡ b → b ≡ false
        out false is = refl
        out true is = absurd (omega (arith, once n, times_in_cons n n (numbers later), ap {B = ℕ} (λ (b : Bool). cond b 1 0) (eq-eqb n n refl), times_in_some n (numbers later) is))

    go : (b : Bool) → (n == m) ≡ b → entry_in later m ≡ (if b then None else (if b then Some x else entry_in later m))
    go true at = subst (λ v. entry_in later v ≡ None) (eqb-true n m at) (not_aside later n absent)
    go false at = refl
aside_less {T} (y ∷ before) later n m x once = go (y.0 == m) refl (n == m) refl (aside_less before later n m x rest)
  where
    rest : Once (numbers (before ++ (n, x) ∷ later))
    rest u = omega (arith, once u, times_in_cons u y.0 (numbers (before ++ (n, x) ∷ later)))

    here : 1 ≤ times_in n (numbers (before ++ (n, x) ∷ later))
    here = omega (arith, ap (times_in n) (map-append (λ i. i.0) before ((n, x) ∷ later)), times_in_append n (numbers before) (n ∷ numbers later), times_in_cons n n (numbers later), ap {B = ℕ} (λ (b : Bool). cond b 1 0) (eq-eqb n n refl))

    apart : (y.0 == n) ≡ true → ⊥
    apart same = omega (arith, once n, times_in_cons n y.0 (numbers (before ++ (n, x) ∷ later)), ap {B = ℕ} (λ (b : Bool). cond b 1 0) same, here)

    go : (b : Bool) → (y.0 == m) ≡ b → (e : Bool) → (n == m) ≡ e
        → entry_in (before ++ later) m ≡ (if n == m then None else entry_in (before ++ (n, x) ∷ later) m)
        → (if b then Some y.1 else entry_in (before ++ later) m) ≡ (if e then None else (if b then Some y.1 else entry_in (before ++ (n, x) ∷ later) m))
    go true bt true et less = absurd (apart (ap (λ v. y.0 == v) (eqb-true n m et) ∙ bt))
    go true bt false et less = refl
    go false bt e et less = less ∙ rw et refl

-- ---- the slots

slot_here : {T : Type 0} (slots : List (Option (ℕ × T))) (i : ℕ) (o : Option (ℕ × T)) → i < length slots → slice_get (set slots i o) i ≡ Some o
slot_here slots i o within =
    slice_get-get_or (set slots i o) i o (omega (arith, within, length-set slots i o)) ∙ ap Some (get_or-set_same slots i o o within)

slot_there : {T : Type 0} (slots : List (Option (ℕ × T))) (i j : ℕ) (o : Option (ℕ × T)) → j < length slots → j ≢ i → slice_get (set slots i o) j ≡ slice_get slots j
slot_there slots i j o within other =
    slice_get-get_or (set slots i o) j o (omega (arith, within, length-set slots i o)) ∙ ap Some (get_or-set_other slots i j o o other) ∙ sym (slice_get-get_or slots j o within)

-- ---- the whole shelf

module _ {T : Type 0} (slots : List (Option (ℕ × T))) (aside : List (ℕ × T)) (n : ℕ) (x : T) where
  -- the entry goes into the empty slot of its guess
  into_slot : (i : ℕ) → i ≡ n % length slots → i < length slots → slice_get slots i ≡ Some None → (m : ℕ) → m % length slots < length slots
      → entry_of (set slots i (Some (n, x))) aside m ≡ with_entry (entry_of slots aside) n x m
  unfolding entry_of guessed
  into_slot i is within empty m place = rw length-set (⊎_elim here there (cases_eq (m % length slots) i))
    where
      here : m % length slots ≡ i → or_else (in_slot (slice_get (set slots i (Some (n, x))) (m % length slots)) m) (entry_in aside m) ≡ (if n == m then Some x else or_else (in_slot (slice_get slots (m % length slots)) m) (entry_in aside m))
      here at = rw (at, empty, slot_here slots i (Some (n, x)) within) (pick (n == m))
        where
          pick : (b : Bool) → or_else (if b then Some x else None) (entry_in aside m) ≡ (if b then Some x else entry_in aside m)
          pick true = refl
          pick false = refl

      there : m % length slots ≢ i → or_else (in_slot (slice_get (set slots i (Some (n, x))) (m % length slots)) m) (entry_in aside m) ≡ (if n == m then Some x else or_else (in_slot (slice_get slots (m % length slots)) m) (entry_in aside m))
      there other = rw (slot_there slots i (m % length slots) (Some (n, x)) place other, ne_eqb n m (λ same. other (ap (λ k. k % length slots) (sym same) ∙ sym is))) refl

  -- it leaves the slot
  from_slot : (i : ℕ) → i ≡ n % length slots → i < length slots → slice_get slots i ≡ Some (Some (n, x)) → entry_in aside n ≡ None → (m : ℕ) → m % length slots < length slots
      → entry_of (set slots i None) aside m ≡ without_entry (entry_of slots aside) n m
  unfolding entry_of guessed
  from_slot i is within filled absent m place = rw length-set (⊎_elim here there (cases_eq (m % length slots) i))
    where
      here : m % length slots ≡ i → or_else (in_slot (slice_get (set slots i None) (m % length slots)) m) (entry_in aside m) ≡ (if n == m then None else or_else (in_slot (slice_get slots (m % length slots)) m) (entry_in aside m))
      here at = rw (at, filled, slot_here slots i None within) (pick (n == m) refl)
        where
          pick : (b : Bool) → (n == m) ≡ b → entry_in aside m ≡ (if b then None else or_else (if b then Some x else None) (entry_in aside m))
          pick true same = subst (λ v. entry_in aside v ≡ None) (eqb-true n m same) absent
          pick false same = refl

      there : m % length slots ≢ i → or_else (in_slot (slice_get (set slots i None) (m % length slots)) m) (entry_in aside m) ≡ (if n == m then None else or_else (in_slot (slice_get slots (m % length slots)) m) (entry_in aside m))
      there other = rw (slot_there slots i (m % length slots) None place other, ne_eqb n m (λ same. other (ap (λ k. k % length slots) (sym same) ∙ sym is))) refl

  -- the entry goes aside
  into_aside : guessed slots n ≡ None → entry_in aside n ≡ None → (m : ℕ) → entry_of slots (aside ++ (n, x) ∷ []) m ≡ with_entry (entry_of slots aside) n x m
  unfolding entry_of
  into_aside none absent m = rw (aside_more aside n m x absent) (go (n == m) refl (guessed slots m) refl)
    where
      go : (b : Bool) → (n == m) ≡ b → (o : Option T) → guessed slots m ≡ o → or_else o (if b then Some x else entry_in aside m) ≡ (if b then Some x else or_else o (entry_in aside m))
      go true same None is = refl
      go true same (Some y) is = absurd (differs (sym none ∙ ap (guessed slots) (eqb-true n m same) ∙ is))
        where
          differs : ◌≡◌ {A = Option T} None (Some y) → ⊥
          differs eq = cc
      go false same o is = refl

-- it leaves the others aside
pub from_aside : {T : Type 0} (slots : List (Option (ℕ × T))) (aside rest : List (ℕ × T)) (n : ℕ) (x : T) → IsShelf slots aside → Without aside n x rest → (m : ℕ) → entry_of slots rest m ≡ without_entry (entry_of slots aside) n m
unfolding entry_of
from_aside {T} slots aside rest n x is took m =
    rw (took.3, took.2, aside_less took.0 took.1 n m x (rw took.2 at is.once)) (go (n == m) refl)
  where
    there : is_in n (numbers aside) ≡ true
    there = rw (took.2, map-append (λ (i : ℕ × T). i.0) took.0 ((n, x) ∷ took.1), is_in_append n (numbers took.0) (n ∷ numbers took.1), eq-eqb n n refl) (or_true (is_in n (numbers took.0)))
      where
        or_true : (b : Bool) → (b || true) ≡ true
        or_true true = refl
        or_true false = refl

    go : (b : Bool) → (n == m) ≡ b → or_else (guessed slots m) (if b then None else entry_in (took.0 ++ (n, x) ∷ took.1) m) ≡ (if b then None else or_else (guessed slots m) (entry_in (took.0 ++ (n, x) ∷ took.1) m))
    go true same = subst (λ v. or_else (guessed slots v) None ≡ None) (eqb-true n m same) (rw (is.apart n there) refl)
    go false same = refl

-- ---- it stays a shelf

slot_shelf : {T : Type 0} (slots : List (Option (ℕ × T))) (aside : List (ℕ × T)) (n : ℕ) (o : Option (ℕ × T)) (i : ℕ) → i ≡ n % length slots
    → ((m : ℕ) → is_in m (numbers aside) ≡ true → in_slot (Some o) m ≡ None) → IsShelf slots aside → IsShelf (set slots i o) aside
unfolding guessed
slot_shelf {T} slots aside n o i is apart was = record {
  some = omega (arith, was.some, length-set slots i o);
  once = was.once;
  apart = λ m there. rw length-set (⊎_elim (here m there) (other m there) (cases_eq (m % length slots) i));
}
  where
    within : i < length slots
    within = omega (arith, is, mod_below n (length slots) was.some)

    here : (m : ℕ) → is_in m (numbers aside) ≡ true → m % length slots ≡ i → in_slot (slice_get (set slots i o) (m % length slots)) m ≡ None
    here m there at = rw (at, slot_here slots i o within) (apart m there)

    other : (m : ℕ) → is_in m (numbers aside) ≡ true → m % length slots ≢ i → in_slot (slice_get (set slots i o) (m % length slots)) m ≡ None
    other m there differs = rw (slot_there slots i (m % length slots) o (mod_below m (length slots) was.some) differs) (was.apart m there)

-- what the two places of a number say, where nothing stands under it
neither : {T : Type 0} (first later : Option T) → or_else first later ≡ None → (first ≡ None) × (later ≡ None)
neither None later is = (refl, is)
neither (Some x) later is = absurd cc

pub put_in_slot : {T : Type 0} (slots new : List (Option (ℕ × T))) (aside : List (ℕ × T)) (n : ℕ) (x : T) (i : ℕ) → IsShelf slots aside → i ≡ n % length slots → slice_get slots i ≡ Some None
    → entry_of slots aside n ≡ None → new ≡ set slots i (Some (n, x)) → IsShelf new aside × (entry_of new aside ≡ with_entry (entry_of slots aside) n x)
unfolding entry_of
put_in_slot {T} slots new aside n x i was is empty free at =
    rw at (
      slot_shelf slots aside n (Some (n, x)) i is apart was,
      same_everywhere (entry_of (set slots i (Some (n, x))) aside) (with_entry (entry_of slots aside) n x)
          (λ m. into_slot slots aside n x i is (omega (arith, is, mod_below n (length slots) was.some)) empty m (mod_below m (length slots) was.some)),
    )
  where
    apart : (m : ℕ) → is_in m (numbers aside) ≡ true → (if n == m then Some x else None) ≡ None
    apart m there = go (n == m) refl
      where
        go : (b : Bool) → (n == m) ≡ b → (if b then Some x else None) ≡ None
        go true same = absurd (true≢false (sym (ap (λ v. is_in v (numbers aside)) (eqb-true n m same) ∙ there) ∙ none_aside aside n (neither (guessed slots n) (entry_in aside n) free).1))
        go false same = refl

pub take_from_slot : {T : Type 0} (slots new : List (Option (ℕ × T))) (aside : List (ℕ × T)) (n : ℕ) (x : T) (i : ℕ) → IsShelf slots aside → i ≡ n % length slots → slice_get slots i ≡ Some (Some (n, x))
    → new ≡ set slots i None → IsShelf new aside × (entry_of new aside ≡ without_entry (entry_of slots aside) n) × (Some x ≡ entry_of slots aside n)
unfolding entry_of guessed
take_from_slot {T} slots new aside n x i was is filled at =
    rw at (
      slot_shelf slots aside n None i is (λ m there. refl) was,
      same_everywhere (entry_of (set slots i None) aside) (without_entry (entry_of slots aside) n)
          (λ m. from_slot slots aside n x i is (omega (arith, is, mod_below n (length slots) was.some)) filled absent m (mod_below m (length slots) was.some)),
      rw (← is, filled, eq-eqb n n refl) refl,
    )
  where
    shown : in_slot (slice_get slots (n % length slots)) n ≡ Some x
    shown = rw (← is, filled, eq-eqb n n refl) refl

    absent : entry_in aside n ≡ None
    absent = go (is_in n (numbers aside)) refl
      where
        go : (b : Bool) → is_in n (numbers aside) ≡ b → entry_in aside n ≡ None
        go true there = absurd (differs (sym shown ∙ was.apart n there))
          where
            differs : ◌≡◌ {A = Option T} (Some x) None → ⊥
            differs eq = cc
        go false there = not_aside aside n there

pub put_aside : {T : Type 0} (slots : List (Option (ℕ × T))) (aside : List (ℕ × T)) (n : ℕ) (x : T) → IsShelf slots aside → entry_of slots aside n ≡ None
    → IsShelf slots (aside ++ (n, x) ∷ []) × (entry_of slots (aside ++ (n, x) ∷ []) ≡ with_entry (entry_of slots aside) n x)
unfolding entry_of
put_aside {T} slots aside n x was free = (
  record { some = was.some; once = subst Once (sym (map-append (λ (i : ℕ × T). i.0) aside ((n, x) ∷ []))) (once_more (numbers aside) n (none_aside aside n none.1) was.once); apart = λ m there. apart m there },
  same_everywhere (entry_of slots (aside ++ (n, x) ∷ [])) (with_entry (entry_of slots aside) n x) (into_aside slots aside n x none.0 none.1),
)
  where
    none : (guessed slots n ≡ None) × (entry_in aside n ≡ None)
    none = neither (guessed slots n) (entry_in aside n) free

    apart : (m : ℕ) → is_in m (numbers (aside ++ (n, x) ∷ [])) ≡ true → guessed slots m ≡ None
    apart m there = ⊎_elim (was.apart m) (λ last. subst (λ v. guessed slots v ≡ None) (eqb-true n m (one last)) none.0)
        (or_cases (is_in m (numbers aside)) (is_in m (n ∷ [])) (sym (ap (is_in m) (map-append (λ (i : ℕ × T). i.0) aside ((n, x) ∷ [])) ∙ is_in_append m (numbers aside) (n ∷ [])) ∙ there))
      where
        one : is_in m (n ∷ []) ≡ true → (n == m) ≡ true
        one is = ⊎_elim (λ at. at) (λ none. absurd cc) (or_cases (n == m) false is)

pub take_aside : {T : Type 0} (slots : List (Option (ℕ × T))) (aside new : List (ℕ × T)) (n : ℕ) (x : T) → IsShelf slots aside → Without aside n x new
    → IsShelf slots new × (entry_of slots new ≡ without_entry (entry_of slots aside) n) × (Some x ≡ entry_of slots aside n)
unfolding entry_of entry_in
take_aside {T} slots aside new n x was took = (
  record { some = was.some; once = λ m. omega (arith, was.once m, counts m); apart = λ m there. was.apart m (still m there) },
  same_everywhere (entry_of slots new) (without_entry (entry_of slots aside) n) (from_aside slots aside new n x was took),
  rw (was.apart n here, took.2) (sym (found took.0)),
)
  where
    counts : (m : ℕ) → times_in m (numbers aside) ≡ cond (n == m) 1 0 + times_in m (numbers new)
    counts m =
        let old = ap (times_in m) (ap numbers took.2 ∙ map-append (λ (i : ℕ × T). i.0) took.0 ((n, x) ∷ took.1)) ∙ times_in_append m (numbers took.0) (n ∷ numbers took.1) in
        let left = ap (times_in m) (ap numbers took.3 ∙ map-append (λ (i : ℕ × T). i.0) took.0 took.1) ∙ times_in_append m (numbers took.0) (numbers took.1) in
        omega (arith, old, left, times_in_cons m n (numbers took.1))

    some_in : (m : ℕ) (ns : List ℕ) → 1 ≤ times_in m ns → is_in m ns ≡ true
    some_in m ns many = go (is_in m ns) refl
      where
        go : (b : Bool) → is_in m ns ≡ b → b ≡ true
        go true is = refl
        go false is = absurd (omega (arith, many, times_in_none m ns is))

    still : (m : ℕ) → is_in m (numbers new) ≡ true → is_in m (numbers aside) ≡ true
    still m there = some_in m (numbers aside) (omega (arith, counts m, times_in_some m (numbers new) there))

    here : is_in n (numbers aside) ≡ true
    here = some_in n (numbers aside) (omega (arith, counts n, ap {B = ℕ} (λ (b : Bool). cond b 1 0) (eq-eqb n n refl)))

    free : (before : List (ℕ × T)) → is_in n (numbers before) ≡ false → entry_in (before ++ (n, x) ∷ took.1) n ≡ Some x
    free [] none = rw (eq-eqb n n refl) refl
    free (y ∷ before) none = let parts = or_parts (y.0 == n) (is_in n (numbers before)) none in rw parts.0 (free before parts.1)

    found : (before : List (ℕ × T)) → entry_in (took.0 ++ (n, x) ∷ took.1) n ≡ Some x
    found before = free took.0 (go (is_in n (numbers took.0)) refl)
      where
        go : (b : Bool) → is_in n (numbers took.0) ≡ b → b ≡ false
        go false is = refl
        go true is =
            absurd (omega (arith, was.once n, ap (times_in n) (ap numbers took.2 ∙ map-append (λ (i : ℕ × T). i.0) took.0 ((n, x) ∷ took.1)), times_in_append n (numbers took.0) (n ∷ numbers took.1), times_in_cons n n (numbers took.1), ap {B = ℕ} (λ (b : Bool). cond b 1 0) (eq-eqb n n refl), times_in_some n (numbers took.0) is))

-- nothing stands under a number that is in neither place
pub take_nothing : {T : Type 0} (slots : List (Option (ℕ × T))) (aside : List (ℕ × T)) (n : ℕ) → guessed slots n ≡ None → is_in n (numbers aside) ≡ false
    → (entry_of slots aside ≡ without_entry (entry_of slots aside) n) × (None ≡ entry_of slots aside n)
unfolding entry_of
take_nothing {T} slots aside n none absent =
    (same_everywhere (entry_of slots aside) (without_entry (entry_of slots aside) n) (λ m. go m (n == m) refl), sym nothing)
  where
    nothing : or_else (guessed slots n) (entry_in aside n) ≡ None
    nothing = rw none (not_aside aside n absent)

    go : (m : ℕ) (b : Bool) → (n == m) ≡ b → or_else (guessed slots m) (entry_in aside m) ≡ (if b then None else or_else (guessed slots m) (entry_in aside m))
    go m true same = subst (λ v. or_else (guessed slots v) (entry_in aside v) ≡ None) (eqb-true n m same) nothing
    go m false same = refl

-- ---- room

-- where there are fewer entries than room, there is room aside
pub room_aside : {T : Type 0} (slots : List (Option (ℕ × T))) (aside : List (ℕ × T)) (room : ℕ) → IsShelf slots aside → AreFewer (entry_of slots aside) room → length aside < room
unfolding entry_of
room_aside {T} slots aside room was fewer =
    omega (arith, fewer.1, few_within (numbers aside) fewer.0 was.once (λ m there. fewer.2 m (seen m there)), long)
  where
    long : length (numbers aside) ≡ length aside
    long = numbers_long aside

    seen : (m : ℕ) → is_in m (numbers aside) ≡ true → is_some (or_else (guessed slots m) (entry_in aside m)) ≡ true
    seen m there = go (guessed slots m) (entry_in aside m) refl
      where
        go : (first later : Option T) → entry_in aside m ≡ later → is_some (or_else first later) ≡ true
        go (Some y) later is = refl
        go None (Some y) is = refl
        go None None is = absurd (true≢false (sym there ∙ none_aside aside m is))

-- ---- an empty shelf

pub nothing_stands : {T : Type 0} (room : ℕ) → 0 < room → IsShelf (replicate {A = Option (ℕ × T)} room None) [] × (entry_of (replicate {A = Option (ℕ × T)} room None) [] ≡ no_entries {T = T})
unfolding entry_of guessed entry_in
nothing_stands {T} room some =
    let slots : List (Option (ℕ × T)) = replicate room None in
    let long : length slots ≡ room = length-replicate room None in (
      record { some = omega (arith, some, long); once = λ n. omega arith; apart = λ n there. absurd cc },
      same_everywhere (entry_of slots []) no_entries (λ n. empty n),
    )
  where
    empty : (n : ℕ) → or_else (in_slot (slice_get (replicate {A = Option (ℕ × T)} room None) (n % length (replicate {A = Option (ℕ × T)} room None))) n) None ≡ None
    empty n =
        let slots : List (Option (ℕ × T)) = replicate room None in
        let within : n % length slots < length slots = mod_below n (length slots) (omega (arith, some, (length-replicate {A = Option (ℕ × T)} room None))) in
        rw (slice_get-get_or slots (n % length slots) None within, get_or-replicate {A = Option (ℕ × T)} room (n % length slots) None None (omega (arith, within, (length-replicate {A = Option (ℕ × T)} room None)))) refl

-- ---- what was read

-- an entry is put into the slot of its guess, which was read empty
-- what a slot has under a number is its entry
in_slot_is : {T : Type 0} (o : Option (Option (ℕ × T))) (n : ℕ) → is_some (in_slot o n) ≡ true → (x : T) × (o ≡ Some (Some (n, x)))
in_slot_is None n is = absurd cc
in_slot_is (Some None) n is = absurd cc
in_slot_is {T} (Some (Some y)) n is = go (y.0 == n) refl is
  where
    go : (b : Bool) → (y.0 == n) ≡ b → is_some (if b then Some y.1 else None) ≡ true → (x : T) × (Some (Some y) ≡ Some (Some (n, x)))
    go true at there = (y.1, ap (λ k. Some (Some (k, y.1))) (eqb-true y.0 n at))
    go false at there = absurd cc

-- it is taken out of that slot
pub take_read : {T : Type 0} (slots new : List (Option (ℕ × T))) (aside : List (ℕ × T)) (n i : ℕ) (result : Option T) (b : Bool) → IsShelf slots aside
    → i ≡ n % length slots → b ≡ is_some (in_slot (slice_get slots i) n) → b ≡ true → result ≡ option_map (λ x. x.1) (get_or slots i None) → new ≡ set slots i None
    → IsShelf new aside × (entry_of new aside ≡ without_entry (entry_of slots aside) n) × (result ≡ entry_of slots aside n)
take_read {T} slots new aside n i result b was at test held gives made =
    let has : is_some (in_slot (slice_get slots i) n) ≡ true = sym test ∙ held in
    let there = in_slot_is (slice_get slots i) n has in
    let read : get_or slots i None ≡ Some (n, there.0) = get_or_from_slice_get slots i (Some (n, there.0)) None there.1 in
    let done = take_from_slot slots new aside n there.0 i was at there.1 made in
    (done.0, done.1, gives ∙ ap (option_map (λ x. x.1)) read ∙ done.2)

-- where the slot has it not, it is not the guess
pub not_guessed : {T : Type 0} (slots : List (Option (ℕ × T))) (n i : ℕ) (b : Bool) → i ≡ n % length slots → b ≡ is_some (in_slot (slice_get slots i) n) → b ≡ false → guessed slots n ≡ None
unfolding guessed
not_guessed {T} slots n i b at test not_held =
    let none : is_some (in_slot (slice_get slots i) n) ≡ false = sym test ∙ not_held in
    nothing (in_slot (slice_get slots (n % length slots)) n) (rw at at none)
  where
    nothing : (o : Option T) → is_some o ≡ false → o ≡ None
    nothing None is = refl
    nothing (Some y) is = absurd cc

-- what is left aside, and what came out
pub take_rest : {T : Type 0} (slots : List (Option (ℕ × T))) (old new : Listed T) (n : ℕ) (result : Option T) → IsShelf slots old.items → guessed slots n ≡ None
    → MatchOption result ((new ≡ old) × (is_in n (numbers old.items) ≡ false)) (λ x. Without old.items n x new.items)
    → IsShelf slots new.items × (entry_of slots new.items ≡ without_entry (entry_of slots old.items) n) × (result ≡ entry_of slots old.items n)
take_rest slots old new n (Some x) was none took = take_aside slots old.items new.items n x was took
take_rest {T} slots old new n None was none took =
    let same : new.items ≡ old.items = ap (λ l. l.items) took.0 in
    let nothing = take_nothing slots old.items n none took.1 in
    (subst (IsShelf slots) (sym same) was, ap (entry_of slots) same ∙ nothing.0, nothing.1)

-- nothing came out, and so nothing has changed
pub nothing_changes : {T : Type 0} (slots : List (Option (ℕ × T))) (old new : Listed T) (n : ℕ) (result : Option T) (shelf : Shelved T) → MatchOption result ((new ≡ old) × (is_in n (numbers old.items) ≡ false)) (λ x. Without old.items n x new.items)
    → record { slots = slots; aside = old.items; room = old.room } ≡ shelf → IfNone result (record { slots = slots; aside = new.items; room = new.room } ≡ shelf)
nothing_changes {T} slots old new n None shelf took was = ap (λ (l : Listed T). let s : Shelved T = record { slots = slots; aside = l.items; room = l.room } in s) took.0 ∙ was
nothing_changes slots old new n (Some x) shelf took was = tt

-- what the slot of the guess has came out
pub came_out : {T : Type 0} (P : Type 0) (slots : List (Option (ℕ × T))) (n i : ℕ) (result : Option T) (b : Bool) → b ≡ is_some (in_slot (slice_get slots i) n) → b ≡ true
    → result ≡ option_map (λ x. x.1) (get_or slots i None) → IfNone result P
came_out {T} P slots n i result b test held gives =
    let has : is_some (in_slot (slice_get slots i) n) ≡ true = sym test ∙ held in
    let there = in_slot_is (slice_get slots i) n has in
    some_out result there.0 (gives ∙ ap (option_map (λ x. x.1)) (get_or_from_slice_get slots i (Some (n, there.0)) None there.1))
  where
    some_out : (o : Option T) (x : T) → o ≡ Some x → IfNone o P
    some_out (Some y) x is = tt
    some_out None x is = absurd cc

-- ---- a sweep
