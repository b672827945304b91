use Rattle.std.proofs.Common.{ap, sym, ◌∙◌, arith}
use Rattle.fj_rules.specs.Bounds.{Bounds}
use Rattle.fj_rules.proofs.Steps.AnswersAllowed.{history_allowed}
use Rattle.fj_body.proofs.InHands.{in_hand_hooked, hooked_none}
use Rattle.fj_bodies.proofs.hooked.is_hooked.Goals as goal

pub returns-then-is_this : goal.returns-then-is_this
returns-then-is_this c = sym (in_hand_hooked c.args.machine.now.events c.loop-w.w c.args.t (sym c.hook.ensures.hook ∙ c.is_this.ensures.0 c.if-is_this.true))

pub returns : goal.returns
returns c =
    sym (hooked_none c.args.machine.now.pool c.args.machine.now.events c.args.t (history_allowed c.args.machine.now c.requires) c.hook-first.ensures.apart
    (λ w low. c.loop-w.invariant w (omega (arith, low, c.loop-w-test.false, c.workers-w-end.ensures.number, ap (λ (l : Bounds). l.workers) c.limits-limits.ensures.limits))))
