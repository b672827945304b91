use Rattle.std.proofs.Common.{◌<◌, length, rules, arith, sym, subst}
use Rattle.fj_gate.specs.Ends.{EntrantState}
use Rattle.fj_gate.proofs.Steps.{admits}
use Rattle.fj_gate.proofs.entrant.Entrant.admit.Goals as goal

pub fetch_add-found-requires : goal.fetch_add-found-requires
fetch_add-found-requires c =
    let room = subst (λ (e : EntrantState). length e.drawn < e.each) (sym c.self.view_is) c.requires in
    let most = c.self.invariant.most in
    (search rules, search rules, admits _ _ _ (omega arith) c.self.invariant.own_part (c.self.invariant.untold (search rules)).0)
