use Rattle.std.specs.Prelude.{Bool, ◌&&◌}
use Rattle.std.proofs.Common.{ℕ, ◌≡◌, ◌+◌, List, length, get_or, true, false, inl, inr, refl, sym, ap, ◌∙◌, subst, arith}
use Rattle.std.proofs.lemmas.Bool.{cases_lt, eq-eqb, eqb-true, true≢false}
use Rattle.std.proofs.lemmas.List.{get_or_default}
use Rattle.std.proofs.lemmas.Grind.{same_number_lists}
use Rattle.fj_slots.specs.Aside.{numbers}
use Rattle.fj_slots.proofs.Beside.{numbers_zip}
use Rattle.fj_slots.proofs.hand.Hand.holds.Invariants.{AreSame}
use Rattle.fj_slots.proofs.hand.Hand.holds.Goals as goal

-- one number more is the same
same_on : (xs ys : List ℕ) (i : ℕ) → AreSame i xs ys → get_or xs i 0 ≡ get_or ys i 0 → AreSame (i + 1) xs ys
same_on xs ys i before here k low = elim (cases_lt k i) [
  | inl lower ↦ before k lower
  | inr high ↦ let is : i ≡ k = omega (arith, low, high) in subst (λ n. get_or xs n 0 ≡ get_or ys n 0) is here
]

both_true : (a b : Bool) → (a && b) ≡ true → (a ≡ true) × (b ≡ true)
both_true true b e = (refl, e)
both_true false b e = absurd (true≢false (sym e))

pub loop-i-preserved : goal.loop-i-preserved
loop-i-preserved g c =
    let xs = c.self.inside.serials.items in
    let ys = c.args.serials.now in
    let i = c.loop-i.i in
    let left : c.index.result.now ≡ get_or xs i 0 =
    c.index.ensures ∙ get_or_default xs i c.index.result.now 0 (omega (arith, c.loop-i-test.true, c.if-len-serials.false, c.len.ensures, c.self.inside.serials.ok.0)) in
    let right : c.index-serials-i.result ≡ get_or ys i 0 = c.index-serials-i.is ∙ get_or_default ys i c.index-serials-i.result 0 c.loop-i-test.true in (
      λ is.
          let both = both_true c.loop-i.same c.eq-same.result is in
          same_on xs ys i (c.loop-i.invariant.0 both.0) (sym left ∙ eqb-true c.index.result.now c.index-serials-i.result (sym c.eq-same.ensures ∙ both.1) ∙ right),
      λ all.
          let before : c.loop-i.same ≡ true = c.loop-i.invariant.1 (λ k low. all k (omega (arith, low))) in
          let here : c.eq-same.result ≡ true = c.eq-same.ensures ∙ eq-eqb _ _ (left ∙ all i (omega arith) ∙ sym right) in
          rw (before, here) refl,
    )

pub returns-then-len-serials : goal.returns-then-len-serials
returns-then-len-serials g c =
    let q = c.self.inside in (
      λ is. absurd (true≢false (sym is)),
      λ all.
          let same = sym (numbers_zip q.serials.items q.bodies.items c.self.invariant.one_body_each) ∙ ap (λ h. numbers h.stack) c.self.view_is ∙ all in
          absurd (c.if-len-serials.true (omega (arith, c.len.ensures, q.serials.ok.0, ap length same))),
    )

pub returns : goal.returns
returns g c =
    let xs = c.self.inside.serials.items in
    let ys = c.args.serials.now in
    let long : length xs ≡ length ys = omega (arith, c.len.ensures, c.self.inside.serials.ok.0, c.if-len-serials.false) in
    let are = numbers_zip xs c.self.inside.bodies.items c.self.invariant.one_body_each in
    rw (← c.self.view_is, are) (
      λ is. same_number_lists xs ys long (λ k low. c.loop-i.invariant.0 is k (omega (arith, low, long, c.loop-i-test.false))),
      λ all. c.loop-i.invariant.1 (λ k low. ap (λ ns. get_or ns k 0) all),
    )
