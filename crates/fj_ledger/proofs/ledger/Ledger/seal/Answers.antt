use Rattle.std.proofs.Common.{◌≡◌, None, arith, sym, subst, ◌∙◌}
use Rattle.fj_rules.specs.Bounds.{Pool}
use Rattle.fj_rules.specs.Pasts.{Past}
use Rattle.fj_rules.specs.Epochs.{seal_refusal}
use Rattle.fj_rules.proofs.Headline.Sealing.{MaySeal, may_seal}
use Rattle.fj_ledger.proofs.Updates.Sealed.{sealed_holds}
use Rattle.fj_ledger.proofs.ledger.Ledger.seal.Goals as goal
use Rattle.fj_ledger.proofs.ledger.Ledger.seal.Goals.{In_default}

-- what may be sealed, as the fields have it
may : (c : In_default) → (past : Past) → past ≡ c.args.self.now → MaySeal past
may c past is =
    may_seal past (subst (λ (p : Past). seal_refusal p ≡ None) (sym is) (sym c.seal_refusal.ensures ∙ c.in_default.is))

pub seal-requires : goal.seal-requires
seal-requires c = record { few = (may (goal.at.seal-requires c).In_default _ c.self.view_is).few }

pub invariant_of-self-2 : goal.invariant_of-self-2
invariant_of-self-2 c =
    let at = (goal.at.invariant_of-self-2 c).In_default in
    let pool : Pool = record { mode = c.self.inside.mode; limits = c.self.inside.limits } in
    let h = c.self.inside.log.events in
    let sealed = may at _ c.self.view_is in record {
      holds = rw (c.in_ok-events.ensures.sealed, c.clear.ensures.items) (sealed_holds pool h _ _ _ _ _ _ c.self.invariant.holds sealed.quiet (omega (arith, sealed.few)));
      log_room = rw c.in_ok-events.ensures.sealed (c.self.invariant.log_room);
      open_room = c.self.invariant.open_room;
      gone_room = rw c.clear.ensures.capacity (c.self.invariant.gone_room);
    }
