-- The table of first bookings, as a booking is made and as one is found.
use Rattle.std.proofs.Common.{ℕ, zero, suc, ◌≡◌, ◌<◌, Bool, List, [], ◌∷◌, ◌++◌, length, Option, Some, None, refl, ap, sym, ◌∙◌, subst, arith, get_or, length-append}
use Rattle.std.specs.Prelude.{slice_get}
use Rattle.std.specs.List.{find}
use Rattle.std.proofs.lemmas.Bool.{eq-eqb, ne_eqb}
use Rattle.std.proofs.lemmas.List.Folds.{find-append}
use Rattle.std.proofs.lemmas.Option.{slice_get-get_or}
use Rattle.fj_calls.proofs.SetAt.{SetAt, Here, There, set_at}
use Rattle.fj_calls.specs.declared.booking.Booking.{Booking}
use Rattle.fj_calls.specs.Booked.{IsIndex, is_under, booked_under, mark_if}

-- ---- places of a list

front_at : {X : Type 0} (xs ys : List X) (k : ℕ) (x : X) → slice_get xs k ≡ Some x → slice_get (xs ++ ys) k ≡ Some x
front_at [] ys k x is = absurd (let no : ◌≡◌ {A = Option _} None (Some x) = is in cc)
front_at (z ∷ xs) ys zero x is = is
front_at (z ∷ xs) ys (suc k) x is = front_at xs ys k x is

last_at : {X : Type 0} (xs : List X) (x : X) → slice_get (xs ++ x ∷ []) (length xs) ≡ Some x
last_at [] x = refl
last_at (z ∷ xs) x = last_at xs x

-- ---- the first one under a ticket, with one booking more

found : (p : Booking → Bool) (bookings : List Booking) (b x : Booking) → find p bookings ≡ Some x → find p (bookings ++ b ∷ []) ≡ Some x
found p bookings b x is = find-append p bookings (b ∷ []) ∙ rw is refl

found_here : (t : ℕ) (bookings : List Booking) (b : Booking) → find (is_under t) bookings ≡ None → t ≡ b.ticket → find (is_under t) (bookings ++ b ∷ []) ≡ Some b
found_here t bookings b is same = find-append (is_under t) bookings (b ∷ []) ∙ rw is (rw (eq-eqb b.ticket t (sym same)) refl)

not_found : (t : ℕ) (bookings : List Booking) (b : Booking) → find (is_under t) bookings ≡ None → (t ≡ b.ticket → ⊥) → find (is_under t) (bookings ++ b ∷ []) ≡ None
not_found t bookings b is other = find-append (is_under t) bookings (b ∷ []) ∙ rw is (rw (ne_eqb b.ticket t (λ same. other (sym same))) refl)

-- ---- the table

abbrev IsFirst : List Booking → ℕ → ℕ → Type 0
IsFirst bookings t place = (place < length bookings) × (slice_get bookings place ≡ find (is_under t) bookings)

known : (bookings : List Booking) (b : Booking) (t place : ℕ) → IsFirst bookings t place → IsFirst (bookings ++ b ∷ []) t place
known bookings b t place (within, same) =
    let is : slice_get bookings place ≡ Some (get_or bookings place b) = slice_get-get_or bookings place b within in
    (omega (arith, within, length-append bookings (b ∷ [])), front_at bookings (b ∷ []) place _ is ∙ sym (found (is_under t) bookings b _ (sym same ∙ is)))

-- the table stays, since it does not reach the ticket or has it
same_index : (bookings : List Booking) (first : List (Option ℕ)) (b : Booking) → (slice_get first b.ticket ≡ Some None → ⊥) → IsIndex bookings first → IsIndex (bookings ++ b ∷ []) first
same_index bookings first b full index = record {
  there = λ t place at. known bookings b t place (index.there t place at);
  absent = λ t at. not_found t bookings b (index.absent t at) (λ same. full (subst (λ u. slice_get first u ≡ Some None) same at));
}

pub more_index : (bookings : List Booking) (first : List (Option ℕ)) (b : Booking) (entry : Option (Option ℕ)) → slice_get first b.ticket ≡ entry → IsIndex bookings first
    → IsIndex (bookings ++ b ∷ []) (mark_if entry first b.ticket (length bookings))
more_index bookings first b None is index = same_index bookings first b (λ at. absurd (let no : ◌≡◌ {A = Option (Option ℕ)} None (Some None) = sym is ∙ at in cc)) index
more_index bookings first b (Some (Some place)) is index = same_index bookings first b (λ at. absurd (let no : ◌≡◌ {A = Option (Option ℕ)} (Some (Some place)) (Some None) = sym is ∙ at in cc)) index
more_index bookings first b (Some None) is index = record {
  there = λ t place at. there t place (set_at first b.ticket t (Some (length bookings)) (Some place) at);
  absent = λ t at. absent t (set_at first b.ticket t (Some (length bookings)) None at);
}
  where
    there : (t place : ℕ) → SetAt first b.ticket t (Some (length bookings)) (Some place) → IsFirst (bookings ++ b ∷ []) t place
    there t place (There other at) = known bookings b t place (index.there t place at)
    there t place (Here same new) =
        let now : place ≡ length bookings = cc in
        let was : find (is_under t) bookings ≡ None = index.absent t (subst (λ u. slice_get first u ≡ Some None) (sym same) is) in
        subst (IsFirst (bookings ++ b ∷ []) t) (sym now) (omega (arith, length-append bookings (b ∷ [])), last_at bookings b ∙ sym (found_here t bookings b was same))

    absent : (t : ℕ) → SetAt first b.ticket t (Some (length bookings)) None → find (is_under t) (bookings ++ b ∷ []) ≡ None
    absent t (There other at) = not_found t bookings b (index.absent t at) other
    absent t (Here same new) = absurd (let no : ◌≡◌ {A = Option ℕ} None (Some (length bookings)) = new in cc)

-- ---- a booking found

pub within_bookings : (bookings : List Booking) (first : List (Option ℕ)) (t place n : ℕ) → IsIndex bookings first → slice_get first t ≡ Some (Some place) → n ≡ length bookings → place < n
within_bookings bookings first t place n index at is = omega (arith, is, (index.there t place at).0)

pub found_by_place : (bookings : List Booking) (first : List (Option ℕ)) (t place : ℕ) (b : Booking) → IsIndex bookings first → slice_get first t ≡ Some (Some place) → b ≡ get_or bookings place b
    → Some b.serial ≡ booked_under bookings t
found_by_place bookings first t place b index at is =
    let there : IsFirst bookings t place = index.there t place at in
    let same : find (is_under t) bookings ≡ Some b = sym there.1 ∙ slice_get-get_or bookings place b there.0 ∙ ap Some (sym is) in
    rw same refl
