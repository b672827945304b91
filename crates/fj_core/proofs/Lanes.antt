-- What was taken in, lane by lane.
use Rattle.std.proofs.Common.{ℕ, ◌≡◌, ◌+◌, ◌*◌, ◌≤◌, ◌<◌, List, [], ◌∷◌, ◌++◌, map, length, Some, refl, ap, sym, ◌∙◌, subst, arith, get_or, length-append, zero, suc}
use Rattle.std.specs.Prelude.{slice_get, slice_set, All, ◌==◌}
use Rattle.std.specs.List.{sum_by}
use Rattle.std.proofs.Math.Nat.{suc-mul, zero-mul}
use Rattle.std.proofs.lemmas.Bool.{eq-eqb, ne_eqb}
use Rattle.std.proofs.lemmas.List.{length-set, append-nil, map-append}
use Rattle.std.proofs.lemmas.List.Sums.{sum_by-set, sum_by-cons}
use Rattle.std.proofs.lemmas.List.Elements.{filter-append, All-set}
use Rattle.std.proofs.lemmas.Option.{slice_get_within, get_or_from_slice_get}
use Rattle.fj_rules.specs.declared.event.Event.{Event}
use Rattle.fj_rules.specs.declared.event.Event.TheVariants.{Acc}
use Rattle.fj_rules.specs.declared.owner.Owner.TheVariants.{Sub}
use Rattle.fj_rules.specs.declared.kind.Kind.{Kind}
use Rattle.fj_rules.specs.Queues.{pushed}
use Rattle.fj_rules.specs.Pasts.{Past, grown}
use Rattle.fj_rules.proofs.Events.Growth.{pushed_more}
use Rattle.fj_lane.specs.declared.parcel.Parcel.{Parcel}
use Rattle.fj_lane.specs.Ends.{DrainState}
use Rattle.fj_calls.specs.declared.booking.Booking.{Booking}
use Rattle.fj_calls.specs.Booked.{AreBooked, IsBooked, booked_by}
use Rattle.fj_calls.proofs.SetAt.{SetAt, Here, There, set_at}

-- ---- sums over lanes

pub set_sum : {X : Type 0} (f : X → ℕ) (xs : List X) (s : ℕ) (x y : X) → slice_get xs s ≡ Some x → sum_by f (slice_set xs s y) + f x ≡ sum_by f xs + f y
set_sum f xs s x y at =
    ap (λ z. sum_by f (slice_set xs s y) + f z) (sym (get_or_from_slice_get xs s x x at)) ∙ sum_by-set f xs s y x (slice_get_within xs s x at)

pub sum_within : {X : Type 0} (f g : X → ℕ) (xs : List X) → All (λ x. f x ≤ g x) xs → sum_by f xs ≤ sum_by g xs
sum_within f g [] all = omega arith
sum_within f g (x ∷ xs) all =
    let first : f x ≤ g x = all zero x (omega arith) in
    let left : sum_by f (x ∷ xs) ≡ f x + sum_by f xs = sum_by-cons f x xs in
    let right : sum_by g (x ∷ xs) ≡ g x + sum_by g xs = sum_by-cons g x xs in
    omega (arith, first, left, right, sum_within f g xs (λ k d within. all (suc k) d (omega (arith, within))))

-- ---- bookings

booked_more : (bookings : List Booking) (b : Booking) (u : ℕ) → b.by ≡ u → booked_by (bookings ++ b ∷ []) u ≡ booked_by bookings u ++ b ∷ []
booked_more bookings b u is = filter-append (λ b. b.by == u) bookings (b ∷ []) ∙ rw (eq-eqb b.by u is) refl

booked_same : (bookings : List Booking) (b : Booking) (u : ℕ) → (b.by ≡ u → ⊥) → booked_by (bookings ++ b ∷ []) u ≡ booked_by bookings u
booked_same bookings b u other = filter-append (λ b. b.by == u) bookings (b ∷ []) ∙ rw (ne_eqb b.by u other) (append-nil (booked_by bookings u))

pushed_here : (h : List Event) (t s : ℕ) (k : Kind) → pushed (h ++ Acc t (Sub s) k ∷ []) (Sub s) ≡ pushed h (Sub s) ++ t ∷ []
pushed_here h t s k = pushed_more h (Sub s) (Acc t (Sub s) k) ∙ rw (eq-eqb s s refl) refl

pushed_there : (h : List Event) (t s u : ℕ) (k : Kind) → (u ≡ s → ⊥) → pushed (h ++ Acc t (Sub s) k ∷ []) (Sub u) ≡ pushed h (Sub u)
pushed_there h t s u k other = pushed_more h (Sub u) (Acc t (Sub s) k) ∙ rw (ne_eqb u s other) (append-nil (pushed h (Sub u)))

-- the pool is the same, and no submitter has pushed a task
pub record PushesNone (old new : Past) : Type 0 where
  pub pool : new.pool ≡ old.pool
  pub pushes : (s : ℕ) → pushed new.events (Sub s) ≡ pushed old.events (Sub s)

module _ {B : Type 0} where
  -- ---- what is booked, lane by lane

  -- no submitter has pushed a task
  pub same_booked : (past past' : Past) (lanes : List (DrainState B)) (bookings : List Booking) → PushesNone past past' → AreBooked past lanes bookings → AreBooked past' lanes bookings
  same_booked past past' lanes bookings none is = record {
    lane_each = is.lane_each ∙ ap (λ p. p.limits.submitters) (sym none.pool);
    each = λ s d at. let was = is.each s d at in record { tickets = was.tickets; tasks = was.tasks ∙ sym (none.pushes s) };
    all = is.all;
    within = is.within;
  }

  lane_within : (lanes : List (DrainState B)) (s : ℕ) (d : DrainState B) → All (λ d. length d.drained ≤ d.capacity) lanes → slice_get lanes s ≡ Some d → length d.drained ≤ d.capacity
  lane_within lanes s d all at = subst (λ (d : DrainState B). length d.drained ≤ d.capacity) (get_or_from_slice_get lanes s d d at) (all s d (slice_get_within lanes s d at))

  -- a drain gave nothing
  pub missed_booked : (past : Past) (lanes : List (DrainState B)) (bookings : List Booking) (s : ℕ) (d e : DrainState B) → slice_get lanes s ≡ Some d
      → e.drained ≡ d.drained → e.capacity ≡ d.capacity → AreBooked past lanes bookings → AreBooked past (slice_set lanes s e) bookings
  missed_booked past lanes bookings s d e at drained capacity is = record {
    lane_each = length-set lanes s e ∙ is.lane_each;
    each = λ u x there. here_or_there u x (set_at lanes s u e x there);
    all = is.all ∙ omega (arith, set_sum (λ d. length d.drained) lanes s d e at, ap (λ ps. length ps) drained);
    within = All-set (λ d. length d.drained ≤ d.capacity) lanes s e (omega (arith, ap (λ ps. length ps) drained, capacity, lane_within lanes s d is.within at)) is.within;
  }
    where
      here_or_there : (u : ℕ) (x : DrainState B) → SetAt lanes s u e x → IsBooked past.events bookings u x
      here_or_there u x (There other there) = is.each u x there
      here_or_there u x (Here here same) =
          let was = is.each s d at in
          record {
            tickets = rw (here, same) (was.tickets ∙ ap (map (λ p. p.ticket)) (sym drained));
            tasks = rw here was.tasks;
          }

  -- a parcel was taken in
  pub took_booked : (past past' : Past) (lanes : List (DrainState B)) (bookings : List Booking) (s t : ℕ) (k : Kind) (d e : DrainState B) (p : Parcel B)
      → slice_get lanes s ≡ Some d → e.drained ≡ d.drained ++ p ∷ [] → length e.drained ≤ e.capacity → PushesNone (grown past (Acc t (Sub s) k ∷ [])) past' → AreBooked past lanes bookings
      → AreBooked past' (slice_set lanes s e) (bookings ++ record { ticket = p.ticket; serial = t; by = s } ∷ [])
  took_booked past past' lanes bookings s t k d e p at drained few none is = record {
    lane_each = length-set lanes s e ∙ is.lane_each ∙ ap (λ p. p.limits.submitters) (sym none.pool);
    each = λ u x there. here_or_there u x (set_at lanes s u e x there);
    all = one_more ∙ omega (arith, is.all, set_sum (λ d. length d.drained) lanes s d e at, ap (λ ps. length ps) drained, length-append d.drained (p ∷ []));
    within = All-set (λ d. length d.drained ≤ d.capacity) lanes s e few is.within;
  }
    where
      b : Booking
      b = record { ticket = p.ticket; serial = t; by = s }

      one_more : length (bookings ++ b ∷ []) ≡ length bookings + 1
      one_more = length-append bookings (b ∷ [])

      here_or_there : (u : ℕ) (x : DrainState B) → SetAt lanes s u e x → IsBooked past'.events (bookings ++ b ∷ []) u x
      here_or_there u x (There other there) =
          let was = is.each u x there in
          record {
            tickets = ap (map (λ b. b.ticket)) (booked_same bookings b u (λ same. other (sym same))) ∙ was.tickets;
            tasks = ap (map (λ b. b.serial)) (booked_same bookings b u (λ same. other (sym same))) ∙ was.tasks ∙ sym (none.pushes u ∙ pushed_there past.events t s u k other);
          }
      here_or_there u x (Here here same) =
          let was = is.each s d at in
          rw (here, same) (record {
            tickets = ap (map (λ b. b.ticket)) (booked_more bookings b s refl) ∙ map-append (λ b. b.ticket) (booked_by bookings s) (b ∷ []) ∙ ap (λ ns. ns ++ p.ticket ∷ []) was.tickets
                ∙ sym (ap (map (λ p. p.ticket)) drained ∙ map-append (λ p. p.ticket) d.drained (p ∷ []));
            tasks = ap (map (λ b. b.serial)) (booked_more bookings b s refl) ∙ map-append (λ b. b.serial) (booked_by bookings s) (b ∷ []) ∙ ap (λ ns. ns ++ t ∷ []) was.tasks
                ∙ sym (none.pushes s ∙ pushed_here past.events t s k);
          })

  -- there is room for one booking more
  pub booking_room : (past : Past) (lanes : List (DrainState B)) (bookings : List Booking) (s room : ℕ) (d e : DrainState B) (p : Parcel B)
      → slice_get lanes s ≡ Some d → e.drained ≡ d.drained ++ p ∷ [] → e.capacity ≡ d.capacity → length e.drained ≤ e.capacity → sum_by (λ d. d.capacity) lanes ≤ room → AreBooked past lanes bookings
      → length bookings < room
  booking_room past lanes bookings s room d e p at drained capacity few enough is =
      omega (
        arith,
        is.all,
        enough,
        set_sum (λ d. length d.drained) lanes s d e at,
        ap (λ ps. length ps) drained,
        length-append d.drained (p ∷ []),
        set_sum (λ d. d.capacity) lanes s d e at,
        capacity,
        sum_within (λ d. length d.drained) (λ d. d.capacity) (slice_set lanes s e) (All-set (λ d. length d.drained ≤ d.capacity) lanes s e few is.within),
      )

  pub same_capacity : (lanes : List (DrainState B)) (s room : ℕ) (d e : DrainState B) → slice_get lanes s ≡ Some d → e.capacity ≡ d.capacity → sum_by (λ d. d.capacity) lanes ≤ room → sum_by (λ d. d.capacity) (slice_set lanes s e) ≤ room
  same_capacity lanes s room d e at capacity enough = omega (arith, enough, set_sum (λ d. d.capacity) lanes s d e at, capacity)

  -- ---- before anything was taken in

  is_empty : (lanes : List (DrainState B)) (s : ℕ) (d : DrainState B) → All (λ d. d.drained ≡ []) lanes → slice_get lanes s ≡ Some d → d.drained ≡ []
  is_empty lanes s d all at = subst (λ (d : DrainState B). d.drained ≡ []) (get_or_from_slice_get lanes s d d at) (all s d (slice_get_within lanes s d at))

  none_drained : (lanes : List (DrainState B)) → All (λ d. d.drained ≡ []) lanes → sum_by (λ d. length d.drained) lanes ≡ 0
  none_drained [] all = refl
  none_drained (d ∷ lanes) all =
      let first : d.drained ≡ [] = all zero d (omega arith) in
      let left : sum_by (λ d. length d.drained) (d ∷ lanes) ≡ length d.drained + sum_by (λ d. length d.drained) lanes = sum_by-cons (λ d. length d.drained) d lanes in
      omega (arith, left, ap (λ ps. length ps) first, none_drained lanes (λ k e within. all (suc k) e (omega (arith, within))))

  pub new_booked : (past : Past) (lanes : List (DrainState B)) → past.events ≡ [] → length lanes ≡ past.pool.limits.submitters → All (λ d. d.drained ≡ []) lanes → AreBooked past lanes []
  unfolding pushed
  new_booked past lanes none count all = record {
    lane_each = count;
    each = λ s d at. record { tickets = ap (map (λ p. p.ticket)) (sym (is_empty lanes s d all at)); tasks = ap (λ h. pushed h (Sub s)) (sym none) };
    all = sym (none_drained lanes all);
    within = λ k d within. let gone : length (get_or lanes k d).drained ≡ 0 = ap (λ ps. length ps) (all k d within) in omega (arith, gone);
  }

  -- lanes of one capacity
  pub equal_capacities : (capacity : ℕ) (lanes : List (DrainState B)) → All (λ d. d.capacity ≡ capacity) lanes → sum_by (λ d. d.capacity) lanes ≡ length lanes * capacity
  equal_capacities capacity [] all = sym (zero-mul capacity)
  equal_capacities capacity (d ∷ lanes) all =
      let first : d.capacity ≡ capacity = all zero d (omega arith) in
      let left : sum_by (λ d. d.capacity) (d ∷ lanes) ≡ d.capacity + sum_by (λ d. d.capacity) lanes = sum_by-cons (λ d. d.capacity) d lanes in
      let rest : sum_by (λ d. d.capacity) lanes ≡ length lanes * capacity = equal_capacities capacity lanes (λ k e within. all (suc k) e (omega (arith, within))) in
      omega (arith, left, first, rest, suc-mul (length lanes) capacity)

  pub enough_room : (lanes : List (DrainState B)) (capacity n room : ℕ) → All (λ d. d.capacity ≡ capacity) lanes → length lanes ≡ n → room ≡ n * capacity → sum_by (λ d. d.capacity) lanes ≤ room
  enough_room lanes capacity n room all count is =
      let product : length lanes * capacity ≡ n * capacity = ap (λ k. k * capacity) count in
      omega (arith, equal_capacities capacity lanes all, product, is)
