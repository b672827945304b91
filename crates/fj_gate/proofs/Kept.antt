-- The rule holds again after a change of one seat.
use Rattle.std.proofs.Common.{◌≡◌, ◌⊎◌, inl, inr, ℕ, ◌+◌, ◌*◌, ◌<◌, ◌≤◌, ◌==◌, cond, nat_lt, List, [], ◌∷◌, ◌++◌, length, set, Some, sym, refl, ap, ◌∙◌, subst, arith, length-append, sum_by}
use mathlib.Core.Option.{some}
use lib.ListN.{get_elem?}
use Rattle.fj_rules.specs.Lists.{times_in}
use Rattle.fj_gate.specs.Numbers.{IsNumbersBelow}
use Rattle.fj_gate.specs.Rule.{joined, admitted, turned_away, IsUntold, IsOpen, IsClosed, Fits, IsGate}
use Rattle.fj_gate.specs.Steps.{fresh, drew, turned, heard_closed, saw, closed_at}
use Rattle.fj_gate.specs.declared.word.View.{View}
use Rattle.std.proofs.lemmas.List.Sums.{count_by-le-length}
use Rattle.fj_gate.proofs.Lists.{times_in-one, times_in-joined, length-joined, sum_by-set, sum_by-bound, joined-set_same, one_more}
use Rattle.fj_gate.proofs.Seats.{EachSeat-set, first_after, first_set, parts_of}
use Rattle.fj_rules.proofs.Lists.Members.{times_in_append}

module _ (word : ℕ) (views : List View) (r : IsGate word views) (seat : ℕ) (v : View) (at : get_elem? views seat ≡ some v) where
  -- an open gate, and room in the seat for one ticket more
  pub draws : IsOpen word views → length v.drawn < 65536 * v.parts → IsGate (word + 2) (set views seat (drew (admitted views) v))
  draws o room =
      let w = drew (admitted views) v in
      let views' = set views seat w in
      let longer = length-append v.drawn (admitted views ∷ []) in
      let change = sum_by-set (λ u. length u.drawn) views seat v w at in
      let before = length-joined views in
      let after = length-joined views' in
      let more : admitted views' ≡ admitted views + 1 = omega arith in
      let fits = r.3 seat v at in
      let word_is = o.0 in
      let parts = sum_by-set parts_of views seat v w at in
      let parts_are = r.2 in (
        inl ((let e : word + 2 ≡ 2 * admitted views' = omega arith in e), EachSeat-set IsUntold IsUntold views seat w o.1 (λ u h. h) (o.1 seat v at)),
        (
          refl,
          λ x.
              let t = sum_by-set (λ u. times_in x u.drawn) views seat v w at in
              let e = times_in_append x v.drawn (admitted views ∷ []) in
              let one = times_in-one x (admitted views) in
              let b = times_in-joined x views in
              let a = times_in-joined x views' in
              let old = r.1.1 x in
              let now : times_in x (joined views') ≡ cond (nat_lt x (admitted views)) 1 0 + cond (admitted views == x) 1 0 = omega arith in
              now ∙ one_more x (admitted views) ∙ ap (λ m. cond (nat_lt x m) 1 0) (sym more),
        ),
        (let e : sum_by parts_of views' ≡ 32 = omega arith in e),
        EachSeat-set (Fits (admitted views)) (Fits (admitted views')) views seat w r.3
            (λ u h. let h0 = h.0 in ((let e : u.seen ≤ admitted views' = omega arith in e), h.1, h.2)) (
              (let e : admitted views + 1 ≤ admitted views' = omega arith in e),
              (let e : length (v.drawn ++ admitted views ∷ []) ≤ 65536 * v.parts = omega arith in e),
              fits.2,
            ),
      )

  -- a step that draws nothing
  stays : (word' : ℕ) (w : View) → w.drawn ≡ v.drawn → w.parts ≡ v.parts → Fits (admitted views) w → (IsOpen word' (set views seat w) ⊎ IsClosed word' (set views seat w)) → IsGate word' (set views seat w)
  stays word' w list parts fits state =
      let views' = set views seat w in
      let same = joined-set_same views seat v w at list in
      let count : admitted views' ≡ admitted views = ap length same in
      let change = sum_by-set parts_of views seat v w at in
      let all = r.2 in (
        state,
        subst (λ (l : List ℕ). IsNumbersBelow (length l) l) (sym same) r.1,
        (let e : sum_by parts_of views' ≡ 32 = omega arith in e),
        subst (λ m. (j : ℕ) (u : View) → get_elem? views' j ≡ some u → Fits m u) (sym count)
            (EachSeat-set (Fits (admitted views)) (Fits (admitted views)) views seat w r.3 (λ u h. h) fits),
      )

  -- the gate stays open
  stays_open : (w : View) → w.drawn ≡ v.drawn → IsUntold w → IsOpen word views → IsOpen word (set views seat w)
  stays_open w list untold o =
      let count : admitted (set views seat w) ≡ admitted views = ap length (joined-set_same views seat v w at list) in
      let word_is = o.0 in
      ((let e : word ≡ 2 * admitted (set views seat w) = omega arith in e), EachSeat-set IsUntold IsUntold views seat w o.1 (λ u h. h) untold)

  -- it stays closed, and so many more were turned away
  stays_closed : (w : View) (more : ℕ) → w.drawn ≡ v.drawn → w.told ≡ v.told + more → w.closed ≡ v.closed → IsClosed word views → IsClosed (word + 2 * more) (set views seat w)
  stays_closed w more list told same c =
      let views' = set views seat w in
      let count : admitted views' ≡ admitted views = ap length (joined-set_same views seat v w at list) in
      let change = sum_by-set (λ u. u.told) views seat v w at in
      let first = first_after views seat v w c.1 at c.2 same in
      let word_is = c.0 in (
        (let e : word + 2 * more ≡ 2 * (admitted views' + turned_away views') + 1 = omega arith in e),
        first.0,
        first.1,
        first.2 ∙ c.3 ∙ ap (λ (k : ℕ). Some k) (sym count),
      )

  -- a closed gate, and an entrant that no admission has told so yet
  pub turns_away : IsClosed word views → v.told < v.parts → IsGate (word + 2) (set views seat (turned v))
  turns_away c room = let fits = r.3 seat v at in
      stays (word + 2) (turned v) refl refl (fits.0, fits.1, (let e : v.told + 1 ≤ v.parts = omega arith in e)) (inr (stays_closed (turned v) 1 refl refl refl c))

  pub sees : IsOpen word views → IsGate word (set views seat (saw (admitted views) v))
  sees o = let fits = r.3 seat v at in
      stays word (saw (admitted views) v) refl refl ((let e : admitted views ≤ admitted views = omega arith in e), fits.1, fits.2) (inl (stays_open (saw (admitted views) v) refl (o.1 seat v at) o))

  pub hears : IsClosed word views → IsGate word (set views seat (heard_closed v))
  hears c = let fits = r.3 seat v at in
      let e : word + 2 * 0 ≡ word = omega arith in
      stays word (heard_closed v) refl refl fits (inr (subst (λ m. IsClosed m (set views seat (heard_closed v))) e (stays_closed (heard_closed v) 0 refl (omega arith) refl c)))

-- the closer closes an open gate
pub shuts : (word : ℕ) (views : List View) (r : IsGate word views) (v : View) → get_elem? views 0 ≡ some v → IsOpen word views → IsGate (word + 1) (set views 0 (closed_at (admitted views) v))
shuts word views r v at o =
    let w = closed_at (admitted views) v in
    let views' = set views 0 w in
    let count : admitted views' ≡ admitted views = ap length (joined-set_same views 0 v w at refl) in
    let none_sent : turned_away views ≤ 0 * sum_by parts_of views = sum_by-bound (λ u. u.told) parts_of 0 views (λ seat u e. let q = o.1 seat u e in let q0 = q.0 in omega arith) in
    let change = sum_by-set (λ u. u.told) views 0 v w at in
    let word_is = o.0 in
    let fits = r.3 0 v at in
    stays word views r 0 v at (word + 1) w refl refl ((let e : admitted views ≤ admitted views = omega arith in e), fits.1, fits.2)
    (inr ((let e : word + 1 ≡ 2 * (admitted views' + turned_away views') + 1 = omega arith in e), w, first_set views v w at, ap (λ (k : ℕ). Some k) (sym count)))

-- one seat has every part
module _ (word : ℕ) (views : List View) (r : IsGate word views) (seat : ℕ) (v : View) (at : get_elem? views seat ≡ some v) (all : v.parts ≡ 32) where
  -- so the other seats have none, and add nothing
  alone : (f : View → ℕ) (c : ℕ) → ((u : View) → Fits (admitted views) u → f u ≤ c * u.parts) → f (fresh 0) ≡ 0 → sum_by f views ≡ f v
  alone f c small_f none_f =
      let views' = set views seat (fresh 0) in
      let change = sum_by-set f views seat v (fresh 0) at in
      let parts = sum_by-set parts_of views seat v (fresh 0) at in
      let is = r.2 in
      let left : sum_by parts_of views' ≡ 0 = omega arith in
      let bound : sum_by f views' ≤ c * sum_by parts_of views' = sum_by-bound f parts_of c views' (EachSeat-set (Fits (admitted views)) (λ u. f u ≤ c * u.parts) views seat (fresh 0) r.3 small_f (omega arith)) in
      let zero_left : c * sum_by parts_of views' ≡ 0 = ap (λ m. c * m) left ∙ omega arith in
      omega arith

  pub alone_numbers : IsNumbersBelow (admitted views) v.drawn
  alone_numbers =
      let len = alone (λ u. length u.drawn) 65536 (λ u h. h.1) refl in (
        (let e : length v.drawn ≡ admitted views = sym (length-joined views ∙ len) in e),
        λ x. sym (times_in-joined x views ∙ alone (λ u. times_in x u.drawn) 65536 (λ u h. let h1 = h.1 in let t : times_in x u.drawn ≤ length u.drawn = count_by-le-length (λ y. y == x) u.drawn in omega arith) refl) ∙ r.1.1 x,
      )
