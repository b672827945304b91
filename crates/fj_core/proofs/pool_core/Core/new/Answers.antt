use Rattle.std.proofs.Common.{rules, ◌≡◌, ◌∙◌, [], ◌++◌, ap, sym, subst, refl}
use Rattle.fj_rules.specs.Pasts.{fresh}
use Rattle.fj_rules.proofs.Making.{made}
use Rattle.fj_rules.proofs.Headline.Parting.{fits_none}
use Rattle.fj_core.proofs.Lanes.{new_booked, enough_room}
use Rattle.fj_core.proofs.Reached.{new_closing}
use Rattle.fj_calls.specs.Archives.{Archived}
use Rattle.fj_calls.specs.Booked.{AreBooked, Booked}
use Rattle.fj_calls.specs.Cores.{AreParts}
use Rattle.fj_core.proofs.pool_core.Core.new.Goals as goal

pub invariant_of-core : goal.invariant_of-core
invariant_of-core g c =
    let all = c.in_ok-bookings.ensures in
    let hands = made _ all.0 c.both-hands.ensures in
    let past : c.in_ok-bookings.store.past ≡ fresh c.args.mode c.args.limits = made _ all.1 c.new-2.ensures.past in
    let booked = made _ hands.0 c.new.ensures in
    record {
      core = record {
        booked = subst (λ bs. AreBooked c.in_ok-bookings.store.past c.args.drains.items bs) (sym (ap (λ (b : Booked). b.bookings) booked))
            (new_booked _ _ (ap (λ p. p.events) past) (sym c.args.drains.ok.0 ∙ c.requires.lanes ∙ sym (ap (λ p. p.pool.limits.submitters) past)) c.requires.untouched);
        closes = new_closing _ _ _ _ (ap (λ p. p.events) past) (ap (λ k. k.number) c.new-3.ensures);
      };
      room = enough_room _ c.args.lane_capacity c.args.limits.submitters _ c.requires.capacities (sym c.args.drains.ok.0 ∙ c.requires.lanes) (search rules);
      parts = subst (λ (a : Archived). AreParts (a.handed ++ a.kept) c.in_ok-bookings.store.past) (sym c.new-4.ensures) (subst (AreParts []) (sym past) (fits_none _ _));
    }

pub returns-clause-core : goal.returns-clause-core
returns-clause-core g c =
    let all = c.in_ok-bookings.ensures in
    let hands = made _ all.0 c.both-hands.ensures in record {
      past = made _ all.1 c.new-2.ensures.past;
      bodies = made _ all.1 c.new-2.ensures.bodies;
      results = made _ all.1 c.new-2.ensures.results;
      taken = made _ all.1 c.new-2.ensures.taken;
      free = made _ all.1 c.new-2.ensures.free;
      lanes_same = refl;
      bookings = ap (λ (b : Booked). b.bookings) (made _ hands.0 c.new.ensures);
      closing = c.new-3.ensures;
      handed = ap (λ (a : Archived). a.handed) c.new-4.ensures;
      parts = ap (λ (a : Archived). a.kept) c.new-4.ensures;
      missed_seals = c.zero.ensures;
    }
