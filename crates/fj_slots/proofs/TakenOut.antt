-- A number that stands once is taken out of a list.
use Rattle.std.specs.List.{remove}
use Rattle.std.proofs.Common.{arith, ℕ, ◌≡◌, ◌≢◌, ◌<◌, ◌≤◌, zero, suc, Bool, false, cond, List, [], ◌∷◌, length, get_or, ap, sym}
use Rattle.std.proofs.lemmas.Bool.{eq-eqb, ne_eqb}
use Rattle.fj_rules.specs.Lists.{is_in, times_in, without}
use Rattle.fj_rules.proofs.Lists.Members.{times_in_cons, times_in_some}
use Rattle.fj_rules.proofs.Places.OnePlace.{never}
use Rattle.fj_rules.proofs.Events.Queues.{without_absent}

-- A number that stands once is taken out of a list.
somewhere : (t : ℕ) (xs : List ℕ) (i d : ℕ) → i < length xs → get_or xs i d ≡ t → 1 ≤ times_in t xs
somewhere t [] i d within same = absurd (omega (arith, within))
somewhere t (x ∷ xs) zero d within same = omega (arith, times_in_cons t x xs, ap {B = ℕ} (λ (b : Bool). cond b 1 0) (eq-eqb x t same))
somewhere t (x ∷ xs) (suc i) d within same = omega (arith, times_in_cons t x xs, somewhere t xs i d (omega (arith, within)) same)

pub without_at : (t : ℕ) (xs : List ℕ) (i d : ℕ) → times_in t xs ≤ 1 → i < length xs → get_or xs i d ≡ t → without xs (t ∷ []) ≡ remove xs i
without_at t [] i d once within same = absurd (omega (arith, within))
without_at t (x ∷ xs) zero d once within same =
    let here = ap {B = ℕ} (λ (b : Bool). cond b 1 0) (eq-eqb x t same) in
    let absent : is_in t xs ≡ false = never (is_in t xs) (λ there. omega (arith, once, times_in_cons t x xs, here, times_in_some t xs there)) in
    rw (eq-eqb t x (sym same)) (without_absent xs t absent)
without_at t (x ∷ xs) (suc i) d once within same =
    let later : i < length xs = omega (arith, within) in
    let differs : t ≢ x = λ first. omega (arith, once, times_in_cons t x xs, somewhere t xs i d later same, ap {B = ℕ} (λ (b : Bool). cond b 1 0) (eq-eqb x t (sym first))) in
    rw (ne_eqb t x differs) (ap (λ (ys : List ℕ). x ∷ ys) (without_at t xs i d (omega (arith, once, times_in_cons t x xs)) later same))
