use Rattle.std.proofs.Common.{◌≡◌, length, arith, sym, ap, ◌∙◌}
use Rattle.std.specs.Prelude.{vec_len}
use Rattle.std.proofs.lemmas.Bool.{eq-eqb, true≢false}
use Rattle.fj_slots.proofs.Beside.{length_zip}
use Rattle.fj_slots.proofs.hand.Hand.is_empty.Goals as goal

pub returns-else-is_empty : goal.returns-else-is_empty
returns-else-is_empty g c =
    let q = c.self.inside in (
      λ is. absurd (true≢false (sym is ∙ c.if-is_empty.false)),
      λ none.
          let empty : vec_len q.serials ≡ 0 = omega (arith, length_zip q.serials.items q.bodies.items c.self.invariant.one_body_each, ap (λ h. length h.stack) c.self.view_is, ap length none.0, q.serials.ok.0) in
          c.is_empty.ensures ∙ eq-eqb _ _ empty,
    )
