use Rattle.std.proofs.Common.{◌≡◌, true, subst}
use Rattle.fj_calls.specs.declared.cutoff.Cutoff.{Cutoff}
use Rattle.fj_core.proofs.Parts.{parts_due}
use Rattle.fj_core.proofs.Shutting.{number_of, due_pushes_none, shut_core}
use Rattle.fj_core.proofs.pool_core.Core.stop_at.Goals as goal

pub invariant_of-self : goal.invariant_of-self
invariant_of-self g c =
    let closing : Cutoff = record { number = c.at.result.number; stopping = true } in
    record {
      core = shut_core _ _ _ _ _ closing c.args.number c.len.result (number_of _ _ c.at.ensures) c.len.ensures c.make_due.ensures c.self.invariant.core;
      room = c.self.invariant.room;
      parts = parts_due _ _ _ _ _ c.make_due.ensures c.self.invariant.parts;
    }

pub returns-clause-pool : goal.returns-clause-pool
returns-clause-pool g c = subst (λ s. c.make_due.new.store.past.pool ≡ s.store.past.pool) c.self.view_is (due_pushes_none _ _ _ _ c.make_due.ensures).pool
