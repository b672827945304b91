-- A hand fits as before, where each worker holds what it held.
use Rattle.std.proofs.Common.{◌<◌, sym, ◌∙◌, subst}
use Rattle.fj_rules.specs.Pasts.{Past}
use Rattle.fj_rules.proofs.Steps.KeepsHands.{KeepsHands}
use Rattle.fj_slots.specs.Hands.{HandState}
use Rattle.fj_body.specs.Fitting.{Fits}

-- a hand fits as before
pub still_fits : {B : Type 0} (past past' : Past) (hand : HandState B) → KeepsHands past past' → Fits past hand → Fits past' hand
still_fits past past' hand keeps fits = record {
  there = subst (λ pool. hand.worker < pool.limits.workers) (sym keeps.pool) fits.there;
  bodies = fits.bodies ∙ sym (keeps.stacks hand.worker);
  hook = fits.hook ∙ sym (keeps.hooks hand.worker);
}
