use Rattle.std.proofs.Common.{◌≡◌, [], All, refl, sym, ap, ◌∙◌, subst, arith}
use Rattle.fj_rules.proofs.Making.{made}
use Rattle.fj_gate.specs.Ends.{EntrantState, new_closer, new_entrant}
use Rattle.fj_calls.specs.Cores.{IsNew}
use Rattle.fj_parts.specs.Holdings.{holding_of, nothing}
use Rattle.fj_parts.proofs.Holdings.{first_nothing, tied_have_ends}
use Rattle.fj_parts.proofs.Seating.{all_drains, all_new, paired}
use Rattle.fj_parts.proofs.parts.make.Goals as goal

pub seat_all-requires-clause-new : goal.seat_all-requires-clause-new
seat_all-requires-clause-new g c = λ k d within.
    let is = c.in_ok-entrants.ensures.entrants.1 k d within in
    is ∙ ap (λ n. new_entrant n c.args.lane_capacity) (sym (ap (λ (e : EntrantState). e.gate) is))

pub new-requires-clause-capacities : goal.new-requires-clause-capacities
new-requires-clause-capacities g c = all_drains (λ d. d.capacity ≡ c.args.lane_capacity) c.args.lane_capacity c.in_ok-entrants.entrants.items c.in_ok-seats.seats.items c.in_ok-seats.drains.items c.in_ok-seats.ensures (λ l. refl)

pub new-requires-clause-untouched : goal.new-requires-clause-untouched
new-requires-clause-untouched g c = all_drains (λ d. d.drained ≡ []) c.args.lane_capacity c.in_ok-entrants.entrants.items c.in_ok-seats.seats.items c.in_ok-seats.drains.items c.in_ok-seats.ensures (λ l. refl)

pub tie_all-requires : goal.tie_all-requires
tie_all-requires g c = subst (λ hs. All (λ h. holding_of h ≡ nothing) hs) (sym c.in-Ok.ensures.hands) (first_nothing c.args.limits.workers c.args.start)

pub invariant_of-result : goal.invariant_of-result
invariant_of-result g c =
    let opened = c.in_ok-entrants.ensures in record {
      paired = paired c.args.lane_capacity c.submitters.result c.in_ok-entrants.closer c.in_ok-entrants.entrants.items c.in_ok-seats.seats.items c.in_ok-seats.drains.items (g.C.CoreView.state c.in-Ok.core).lanes c.in_ok-seats.ensures opened.closer
          (omega (arith, opened.entrants.0, c.in_ok-entrants.entrants.ok.0)) opened.entrants.1 c.in-Ok.ensures.core.lanes_same;
      held = tied_have_ends c.args.mode c.args.limits c.args.start (g.C.CoreView.state c.in-Ok.core).store.past c.in-Ok.untied.items c.in-Ok-both.tied.0.items c.in-Ok-both.tied.1.items c.in-Ok.ensures.core.past c.in-Ok.ensures.hands
          (made _ c.in-Ok-both.ensures.0 c.tie_all.ensures);
    }

pub returns : goal.returns
returns g c =
    let opened = c.in_ok-entrants.ensures in
    let seated = c.in_ok-seats.ensures in record {
      lanes = seated.lanes;
      lane_each = omega (arith, seated.lane_each, opened.entrants.0, c.in_ok-entrants.entrants.ok.0, c.submitters.ensures.number);
      core = subst (λ ds. IsNew c.args.mode c.args.limits ds (g.C.CoreView.state c.in-Ok.core)) seated.drains_are c.in-Ok.ensures.core;
      hands = (made _ c.in-Ok-both.ensures.0 c.tie_all.ensures).hands_are ∙ c.in-Ok.ensures.hands;
      seats = all_new c.in_ok-entrants.closer.gate c.args.lane_capacity c.in_ok-entrants.entrants.items c.in_ok-seats.seats.items c.in_ok-seats.drains.items seated opened.entrants.1;
      closer = subst (λ n. c.in_ok-entrants.closer ≡ new_closer c.in_ok-entrants.closer.gate n) c.submitters.ensures.number opened.closer;
    }
