use Rattle.std.proofs.Common.{[], ◌∷◌, ◌++◌, length, sym, ap, ◌∙◌, subst}
use Rattle.std.proofs.lemmas.List.{map-append}
use Rattle.std.proofs.lemmas.Iterator.Adapters.{YieldsList-from_vec}
use Rattle.std.proofs.lemmas.Iterator.Consumers.{YieldsList-end, YieldsList-turn}
use Rattle.fj_parts.specs.Holdings.{IsTied, TiedState, hands_of}
use Rattle.fj_parts.proofs.Holdings.{at_turn, same_items}
use Rattle.fj_parts.proofs.named.name_hands.Goals as goal

pub loop-hand-init : goal.loop-hand-init
loop-hand-init g c = record { next = tt; finite = tt; same = c.in_ok-hands.ensures.items }

pub loop-hand-preserved : goal.loop-hand-preserved
loop-hand-preserved g c = record {
  next = tt;
  finite = tt;
  same = c.in_ok-push.ensures.items ∙ ap (λ hands. hands ++ c.hand.inside.held ∷ []) c.loop-hand.invariant.same ∙ ap (λ t. hands_of c.loop-hand.yielded ++ t.hand ∷ []) c.hand.view_is
      ∙ sym (map-append (λ (t : TiedState g.row.B.Denot). t.hand) c.loop-hand.yielded (c.in-Some.hand ∷ []));
}

pub invariant_of-push : goal.invariant_of-push
invariant_of-push g c =
    let gives = c.into_iter-hand-iterator.ensures.into_iter_gives in
    let t = YieldsList-turn (YieldsList-from_vec c.args.tied.items gives.0 (gives.1 ∙ c.args.tied.ok.0)) c.loop-hand.yielded c.loop-hand.hand-iterator c.loop-hand.yielded_by c.next.result c.next.new.self c.in-Some.hand c.in-Some.is c.next.ensures.steps in
    let named = at_turn (IsTied g.N.Naming.hands) c.args.tied.items (length c.loop-hand.yielded) c.in-Some.hand c.requires t in
    record { tied = subst (IsTied g.N.Naming.hands) (sym c.hand.view_is) named; known = c.hand.invariant }

pub returns : goal.returns
returns g c =
    let gives = c.into_iter-hand-iterator.ensures.into_iter_gives in
    let t = YieldsList-end (YieldsList-from_vec c.args.tied.items gives.0 (gives.1 ∙ c.args.tied.ok.0)) c.loop-hand.yielded c.loop-hand.hand-iterator c.loop-hand.yielded_by c.next.result c.next.new.self c.in-None.is c.next.ensures.steps in
    c.loop-hand.invariant.same ∙ ap hands_of (sym (same_items c.loop-hand.yielded) ∙ t.0)
