use Rattle.std.proofs.Common.{true, false, ◌∙◌, ap, sym}
use Rattle.std.specs.Prelude.{is_some}
use Rattle.fj_body.proofs.Acts.{hook_there, acts_as, stuck_acts}
use Rattle.fj_bodies.proofs.store.Store.act.Goals as goal

pub returns-then-is_stuck-clause-acts : goal.returns-then-is_stuck-clause-acts
returns-then-is_stuck-clause-acts g c = rw c.body_of.ensures (stuck_acts (is_some c.args.hand.now.hook) _ _ _ _ (sym c.is_stuck.ensures ∙ c.if-is_stuck.true))

pub returns-then-is_some-clause-acts : goal.returns-then-is_some-clause-acts
returns-then-is_some-clause-acts g c =
    acts_as true _ _ _ _ _ _ _ (hook_there c.args.hand.now.hook ∙ ap is_some (sym c.hooked.ensures) ∙ sym c.is_some.ensures ∙ c.if-is_some.true) c.serve_hook.ensures.acts

pub returns-else-is_some-clause-acts : goal.returns-else-is_some-clause-acts
returns-else-is_some-clause-acts g c =
    acts_as false _ _ _ _ _ _ _ (hook_there c.args.hand.now.hook ∙ ap is_some (sym c.hooked.ensures) ∙ sym c.is_some.ensures ∙ c.if-is_some.false) c.serve_body.ensures.acts
