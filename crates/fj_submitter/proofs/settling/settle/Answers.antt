use Rattle.std.proofs.Common.{◌≡◌, [], ◌∷◌, ◌++◌, ap, ◌∙◌, subst, arith, rules}
use Rattle.std.proofs.lemmas.List.Elements.{All-push}
use Rattle.fj_submitter.specs.Seats.{IsNamed, IsSeat, SeatState}
use Rattle.fj_submitter.proofs.Meeting.{begins, meets, steps}
use Rattle.fj_submitter.proofs.settling.settle.Goals as goal
use Rattle.fj_submitter.proofs.settling.settle.Given as given

module _ (g : given.Over) where
  abbrev S : Type 0
  S = SeatState g.row.B.Denot

  abbrev Named : SeatState g.row.B.Denot → Type 0
  Named seat = IsNamed g.N.Naming.gate g.N.Naming.lanes seat

pub loop-submitter-init : goal.loop-submitter-init
loop-submitter-init g c =
    let no_entrants : c.args.entrants.items ≡ [] = c.requires.empty.0 in
    let no_rests : c.args.rests.items ≡ [] = c.requires.empty.1 in record {
      entrant_room = search rules;
      rest_room = search rules;
      gates = rw no_entrants (λ k d low. absurd (omega (arith, low)));
      halfway = begins g.N.Naming.lanes c.args.submitters.items c.args.drains.items c.args.entrants.items c.args.rests.items c.requires.all c.requires.lanes no_entrants no_rests;
    }

pub meet-requires : goal.meet-requires
meet-requires g c =
    let opened = c.submitter-inside.inside.0.0 in
    let same : ◌≡◌ {A = S g} (record { number = opened.number; entrant = opened.entrant; feed = opened.feed }) c.in-Some.submitter = ap (λ x. x.seat) c.submitter-inside.view_is ∙ c.submitter.view_is in
    let named : Named g c.in-Some.submitter = subst (Named g) c.submitter.view_is c.submitter.invariant in
    ap (λ (s : S g). s.feed.lane) same
    ∙ meets g.N.Naming.lanes c.args.drains.items c.args.submitters.items c.loop-submitter.drains.items c.pop-in-Some.new.self.items c.in-Some-pop.drain c.loop-submitter.submitters.items c.pop.new.self.items c.in-Some.submitter c.loop-submitter.entrants.items
    c.loop-submitter.rests.items c.loop-submitter.invariant.halfway c.in-Some-pop.ensures.items c.in-Some.ensures.items c.requires.all c.requires.lanes named.1

pub loop-submitter-preserved : goal.loop-submitter-preserved
loop-submitter-preserved g c =
    let opened = c.submitter-inside.inside.0.0 in
    let same : ◌≡◌ {A = S g} (record { number = opened.number; entrant = opened.entrant; feed = opened.feed }) c.in-Some.submitter = ap (λ x. x.seat) c.submitter-inside.view_is ∙ c.submitter.view_is in
    let named : Named g c.in-Some.submitter = subst (Named g) c.submitter.view_is c.submitter.invariant in
    let entrants = c.push_reserved.ensures in
    let rests = c.push_reserved-in-Some.ensures in
    let before = c.loop-submitter.invariant in record {
      entrant_room = omega (arith, before.entrant_room, c.in-Some.ensures.len, entrants.len, entrants.capacity);
      rest_room = omega (arith, before.rest_room, c.in-Some.ensures.len, rests.len, rests.capacity);
      gates = rw entrants.items (All-push (λ e. e.gate ≡ g.N.Naming.gate) c.loop-submitter.entrants.items opened.entrant before.gates (ap (λ (s : S g). s.entrant.gate) same ∙ named.0));
      halfway = steps c.args.drains.items c.args.submitters.items c.loop-submitter.drains.items c.pop-in-Some.new.self.items c.in-Some-pop.drain c.loop-submitter.submitters.items c.pop.new.self.items c.in-Some.submitter c.loop-submitter.entrants.items
          c.push_reserved.new.self.items c.loop-submitter.rests.items c.push_reserved-in-Some.new.self.items c.meet.result before.halfway c.in-Some-pop.ensures.items c.in-Some.ensures.items (c.meet.ensures.all ∙ ap (λ (s : S g). s.feed.fed) same) (subst IsSeat same c.submitter-inside.invariant)
          (subst (λ (s : S g). c.push_reserved.new.self.items ≡ c.loop-submitter.entrants.items ++ s.entrant ∷ []) same entrants.items) rests.items;
    }
