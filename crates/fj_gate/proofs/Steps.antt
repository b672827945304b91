-- Each step on the word keeps the gate's rule, and tells its seat what it says.
use Rattle.std.proofs.lemmas.Nat.{and_mask}
use Rattle.std.specs.Int.Bits.{bit_and, bit_or, or_add_and}
use Rattle.std.specs.Prelude.{IsSome, IfSome}
use Rattle.std.proofs.Common.{◌≡◌, ⊎_elim, ℕ, ◌+◌, ◌/◌, ◌%◌, ◌^◌, ◌<◌, ◌≤◌, length, set, get_or, Option, Some, sym, refl, ap, ◌∙◌, subst, arith, length-set, get_or-set_same}
use mathlib.Core.Option.{some, none}
use lib.ListN.{get_elem?}
use Rattle.atomic_table.specs.Table.{State, step, keeps, stepped, Allows}
use Rattle.atomic_table.proofs.Lists.{set_again}
use Rattle.fj_gate.specs.Numbers.{IsNumbersBelow}
use Rattle.fj_gate.specs.Rule.{admitted, IsOpen, IsClosed, IsGate, IsRuled}
use Rattle.fj_gate.specs.Steps.{Seated, drew, turned, heard_closed, saw, closed_at, Admits, Looks, Watches, Closes, Meets}
use Rattle.fj_gate.specs.declared.word.View.{View}
use Rattle.fj_gate.proofs.Seats.{small, knows}
use Rattle.fj_gate.proofs.Kept.{draws, turns_away, sees, hears, shuts, alone_numbers}

placed : (s : State (Unit {0}) View) → IsRuled s → (n id : ℕ) (me : Seated) (w : View) → IsGate n (set s.views id w) → IsRuled (stepped s 0 n id me.1 w keeps)
placed s r n id me w h = let wide = r.0 in (length-set s.words 0 n ∙ wide, subst (λ m. IsGate m (set s.views id w)) (sym (get_or-set_same s.words 0 n 0 (omega arith))) h)

-- an admission, by an entrant that may draw and was not told Closed
pub admits : (slots id : ℕ) (me : Seated) → length me.0.drawn < 65536 → me.0.parts ≡ 1 → me.0.told ≡ 0 → Allows IsRuled slots id me 0 (λ x. (x + 2) % 2 ^ 64) (Admits (step slots 0 2 0 none) me)
admits slots id me room one untold s r _ at _ =
    let x : ℕ = get_or s.words 0 0 in
    let bound = small x s.views r.1 in
    let sum : x + 2 ≡ (x + 2) % 18446744073709551616 = omega arith in
    let fits = r.1.3 id me.0 at in
    let seen = fits.0 in
    ⊎_elim
    (λ (o : IsOpen x s.views).
    let word_is = o.0 in
    let half : admitted s.views ≡ x / 2 = omega arith in
    let even : x % 2 ≡ 0 = omega arith in
    let w = drew (admitted s.views) me.0 in (
      w,
      keeps,
      tt,
      subst (λ m. IsRuled (stepped s 0 m id me.1 w keeps)) sum (placed s r (x + 2) id me w (draws x s.views r.1 id me.0 at o (omega arith))),
      ((λ _. ((let e : me.0.seen ≤ x / 2 = omega arith in e), ap (λ (k : ℕ). (drew k me.0, me.1)) half)), λ odd. absurd (odd even)),
    ))
    (λ (c : IsClosed x s.views).
    let word_is = c.0 in
    let odd : x % 2 ≡ 1 = omega arith in
    let w = turned me.0 in (
      w,
      keeps,
      tt,
      subst (λ m. IsRuled (stepped s 0 m id me.1 w keeps)) sum (placed s r (x + 2) id me w (turns_away x s.views r.1 id me.0 at c (omega arith))),
      ((λ even. absurd (omega arith)), λ _. refl),
    ))
    r.1.0

-- the word as it was, again
again : (s : State (Unit {0}) View) → IsRuled s → (id : ℕ) (me : Seated) → get_elem? s.views id ≡ some me.0 → IsRuled (stepped s 0 (get_or s.words 0 0) id me.1 me.0 keeps)
again s r id me at = placed s r (get_or s.words 0 0) id me me.0 (subst (λ l. IsGate (get_or s.words 0 0) l) (sym (set_again s.views id me.0 at)) r.1)

pub looks : (slots id : ℕ) (me : Seated) → Allows IsRuled slots id me 0 (λ x. x) (Looks (step slots 0 0 0 none) me)
looks slots id me s r _ at _ =
    let x : ℕ = get_or s.words 0 0 in
    let fits = r.1.3 id me.0 at in
    let seen = fits.0 in
    ⊎_elim
    (λ (o : IsOpen x s.views).
    let word_is = o.0 in
    let half : admitted s.views ≡ x / 2 = omega arith in
    let even : x % 2 ≡ 0 = omega arith in
    let mine = o.1 id me.0 at in
    let w = saw (admitted s.views) me.0 in (
      w,
      keeps,
      tt,
      placed s r x id me w (sees x s.views r.1 id me.0 at o),
      ((λ _. ((let e : me.0.seen ≤ x / 2 = omega arith in e), mine.0, mine.1, ap (λ (k : ℕ). (saw k me.0, me.1)) half)), λ odd. absurd (odd even)),
    ))
    (λ (c : IsClosed x s.views).
    let word_is = c.0 in
    let odd : x % 2 ≡ 1 = omega arith in
    let w = heard_closed me.0 in
    (w, keeps, tt, placed s r x id me w (hears x s.views r.1 id me.0 at c), ((λ even. absurd (omega arith)), λ _. refl)))
    r.1.0

some_there : (o : Option ℕ) (n : ℕ) → o ≡ Some n → IsSome o
some_there o n e = subst (λ (p : Option ℕ). IsSome p) (sym e) refl

at_least : (o : Option ℕ) (n least : ℕ) → o ≡ Some n → least ≤ n → IfSome o (λ k. least ≤ k)
at_least o n least e h = subst (λ (p : Option ℕ). IfSome p (λ k. least ≤ k)) (sym e) h

-- a look by the closer, which has the first seat
watches_first : (slots : ℕ) (me : Seated) → Allows IsRuled slots 0 me 0 (λ x. x) (Watches (step slots 0 0 0 none) me)
watches_first slots me s r _ at _ =
    let x : ℕ = get_or s.words 0 0 in
    let fits = r.1.3 0 me.0 at in
    let seen = fits.0 in
    ⊎_elim
    (λ (o : IsOpen x s.views).
    let word_is = o.0 in
    let half : admitted s.views ≡ x / 2 = omega arith in
    let even : x % 2 ≡ 0 = omega arith in
    let mine = o.1 0 me.0 at in
    let w = saw (admitted s.views) me.0 in (
      w,
      keeps,
      tt,
      placed s r x 0 me w (sees x s.views r.1 0 me.0 at o),
      ((λ _. ((let e : me.0.seen ≤ x / 2 = omega arith in e), mine.2, ap (λ (k : ℕ). (saw k me.0, me.1)) half)), λ odd. absurd (odd even)),
    ))
    (λ (c : IsClosed x s.views).
    let word_is = c.0 in
    let odd : x % 2 ≡ 1 = omega arith in
    (me.0, keeps, tt, again s r 0 me at, ((λ even. absurd (omega arith)), λ _. (some_there me.0.closed (admitted s.views) (knows x s.views me.0 at c), refl))))
    r.1.0

pub watches : (slots id : ℕ) (me : Seated) → id ≡ 0 → Allows IsRuled slots id me 0 (λ x. x) (Watches (step slots 0 0 0 none) me)
watches slots id me first = subst (λ k. Allows IsRuled slots k me 0 (λ x. x) (Watches (step slots 0 0 0 none) me)) (sym first) (watches_first slots me)

or_even : (x : ℕ) → x % 2 ≡ 0 → bit_or x 1 ≡ x + 1
or_even x even = let a = or_add_and x 1 in let b : bit_and x 1 ≡ x % 2 = and_mask x 1 in omega arith

or_odd : (x : ℕ) → x % 2 ≡ 1 → bit_or x 1 ≡ x
or_odd x odd = let a = or_add_and x 1 in let b : bit_and x 1 ≡ x % 2 = and_mask x 1 in omega arith

closes_first : (slots : ℕ) (me : Seated) → Allows IsRuled slots 0 me 0 (λ x. bit_or x 1) (Closes (step slots 0 1 0 none) me)
closes_first slots me s r _ at _ =
    let x : ℕ = get_or s.words 0 0 in
    let fits = r.1.3 0 me.0 at in
    let seen = fits.0 in
    ⊎_elim
    (λ (o : IsOpen x s.views).
    let word_is = o.0 in
    let half : admitted s.views ≡ x / 2 = omega arith in
    let even : x % 2 ≡ 0 = omega arith in
    let mine = o.1 0 me.0 at in
    let w = closed_at (admitted s.views) me.0 in (
      w,
      keeps,
      tt,
      subst (λ m. IsRuled (stepped s 0 m 0 me.1 w keeps)) (sym (or_even x even)) (placed s r (x + 1) 0 me w (shuts x s.views r.1 me.0 at o)),
      ((λ _. ((let e : me.0.seen ≤ x / 2 = omega arith in e), mine.2, ap (λ (k : ℕ). (closed_at k me.0, me.1)) half)), λ odd. absurd (odd even)),
    ))
    (λ (c : IsClosed x s.views).
    let word_is = c.0 in
    let odd : x % 2 ≡ 1 = omega arith in
    let known = knows x s.views me.0 at c in (
      me.0,
      keeps,
      tt,
      subst (λ m. IsRuled (stepped s 0 m 0 me.1 me.0 keeps)) (sym (or_odd x odd)) (again s r 0 me at),
      ((λ even. absurd (omega arith)), λ _. (some_there me.0.closed (admitted s.views) known, at_least me.0.closed (admitted s.views) me.0.seen known seen, refl)),
    ))
    r.1.0

pub closes : (slots id : ℕ) (me : Seated) → id ≡ 0 → Allows IsRuled slots id me 0 (λ x. bit_or x 1) (Closes (step slots 0 1 0 none) me)
closes slots id me first = subst (λ k. Allows IsRuled slots k me 0 (λ x. bit_or x 1) (Closes (step slots 0 1 0 none) me)) (sym first) (closes_first slots me)

meets_first : (slots : ℕ) (me : Seated) → Allows IsRuled slots 0 me 0 (λ x. x) (Meets (step slots 0 0 0 none) me)
meets_first slots me s r _ at _ =
    let x : ℕ = get_or s.words 0 0 in
    let fits = r.1.3 0 me.0 at in
    let seen = fits.0 in (
      me.0,
      keeps,
      tt,
      again s r 0 me at,
      λ all.
          let numbers = alone_numbers x s.views r.1 0 me.0 at all in
          ⊎_elim
          (λ (o : IsOpen x s.views).
          let word_is = o.0 in
          let half : admitted s.views ≡ x / 2 = omega arith in
          let even : x % 2 ≡ 0 = omega arith in
          let mine = o.1 0 me.0 at in
          ((λ _. (mine.2, subst (λ m. IsNumbersBelow m me.0.drawn) half numbers, (let e : me.0.seen ≤ x / 2 = omega arith in e), mine.0, mine.1)), λ odd. absurd (odd even)))
          (λ (c : IsClosed x s.views).
          let word_is = c.0 in
          let odd : x % 2 ≡ 1 = omega arith in
          ((λ even. absurd (omega arith)), λ _. (admitted s.views, knows x s.views me.0 at c, numbers, seen)))
          r.1.0,
    )

pub meets : (slots id : ℕ) (me : Seated) → id ≡ 0 → Allows IsRuled slots id me 0 (λ x. x) (Meets (step slots 0 0 0 none) me)
meets slots id me first = subst (λ k. Allows IsRuled slots k me 0 (λ x. x) (Meets (step slots 0 0 0 none) me)) (sym first) (meets_first slots me)
