use Rattle.std.proofs.Common.{◌≡◌, List, All, length, sym, ap, ◌∙◌, subst}
use Rattle.std.proofs.lemmas.List.{length-map}
use Rattle.atomic_table.specs.Seated.{TableId}
use Rattle.fj_lane.specs.Ends.{LaneId}
use Rattle.fj_rules.specs.Pasts.{Past}
use Rattle.fj_parts.specs.Holdings.{AreKept, IsTied}
use Rattle.fj_submitter.specs.Lanes.{lanes_of}
use Rattle.fj_parts.specs.Parts.{PartsState}
use Rattle.fj_submitter.specs.Seats.{AreAll}
use Rattle.fj_parts.proofs.Seating.{all_named, all_seats}
use Rattle.fj_parts.proofs.parts.Parts.named.Goals as goal

module _ {B K O : Type 0} where
  -- the name has the lanes of the parts
  lanes_named : (named : List LaneId) (made parts : PartsState B K O) → named ≡ lanes_of parts.core.lanes → made ≡ parts → named ≡ lanes_of made.core.lanes
  lanes_named named made parts lanes is = lanes ∙ sym (ap (λ (p : PartsState B K O). lanes_of p.core.lanes) is)

  -- and their pairs
  pairs_named : (named : List TableId) (made parts : PartsState B K O) → named ≡ parts.pairs → made ≡ parts → named ≡ made.pairs
  pairs_named named made parts pairs is = pairs ∙ sym (ap (λ (p : PartsState B K O). p.pairs) is)

pub new-requires-clause-hands : goal.new-requires-clause-hands
new-requires-clause-hands g c =
    let inside = c.self.inside in
    subst (λ ps. All (λ t. IsTied ps t) inside.hands.items) (sym (pairs_named g.N.Naming.hands _ c.args.self c.requires.hands c.self.view_is)) c.self.invariant.held.each

pub new-requires-clause-named : goal.new-requires-clause-named
new-requires-clause-named g c =
    let inside = c.self.inside in
    all_named inside.closer g.N.Naming.gate (lanes_of (g.C.CoreView.state inside.core).lanes) g.N.Naming.lanes inside.seats.items c.self.invariant.paired
    (c.requires.gate ∙ sym (ap (λ (p : PartsState g.row.B.Denot g.row.B-Key.Denot g.row.B-Out.Denot). p.closer.gate) c.self.view_is)) (lanes_named g.N.Naming.lanes _ c.args.self c.requires.lanes c.self.view_is)

pub new-requires-2-clause-lanes : goal.new-requires-2-clause-lanes
new-requires-2-clause-lanes g c = sym (lanes_named g.N.Naming.lanes _ c.args.self c.requires.lanes c.self.view_is)

pub new-requires-2-clause-pool : goal.new-requires-2-clause-pool
new-requires-2-clause-pool g c = ap (λ (p : PartsState g.row.B.Denot g.row.B-Key.Denot g.row.B-Out.Denot). p.core.store.past.pool) c.self.view_is ∙ sym c.requires.pool

pub new-requires-4-clause-submitters : goal.new-requires-4-clause-submitters
new-requires-4-clause-submitters g c = c.self.invariant.paired.all ∙ ap length (sym (lanes_named g.N.Naming.lanes _ c.args.self c.requires.lanes c.self.view_is))

pub new-requires-3-clause-ends : goal.new-requires-3-clause-ends
new-requires-3-clause-ends g c =
    let inside = c.self.inside in
    subst (λ (past : Past). AreKept g.N.Naming.hands past inside.ends.items) (sym (ap (λ core. core.store.past) c.new-2.ensures))
    (subst (λ ps. AreKept ps (g.C.CoreView.state inside.core).store.past inside.ends.items) (sym (pairs_named g.N.Naming.hands _ c.args.self c.requires.hands c.self.view_is)) c.self.invariant.held.kept)

pub returns-clause-core : goal.returns-clause-core
returns-clause-core g c = c.new-3.ensures ∙ c.new-2.ensures ∙ ap (λ (p : PartsState g.row.B.Denot g.row.B-Key.Denot g.row.B-Out.Denot). p.core) c.self.view_is

pub returns-clause-workers : goal.returns-clause-workers
returns-clause-workers g c =
    let tied = c.self.inside.hands.items in
    let named : length g.N.Naming.hands ≡ length tied = ap length (pairs_named g.N.Naming.hands _ c.args.self c.requires.hands c.self.view_is) ∙ length-map tied (λ t. t.pair) in
    ap length c.in-Ok.ensures.hands ∙ length-map tied (λ t. t.hand) ∙ sym named

pub returns-clause-all : goal.returns-clause-all
returns-clause-all g c =
    let inside = c.self.inside in
    subst (λ seats. AreAll (length g.N.Naming.lanes) seats) (sym c.in-Ok.ensures.submitters)
    (all_seats inside.closer (lanes_of (g.C.CoreView.state inside.core).lanes) g.N.Naming.lanes inside.seats.items c.self.invariant.paired (lanes_named g.N.Naming.lanes _ c.args.self c.requires.lanes c.self.view_is))
