use Rattle.std.proofs.Common.{◌≡◌, length, sym, ◌∙◌, subst}
use Rattle.std.proofs.lemmas.Iterator.Adapters.{YieldsList-from_vec}
use Rattle.std.proofs.lemmas.Iterator.Consumers.{YieldsList-end, YieldsList-turn}
use Rattle.fj_parts.specs.Holdings.{AreTied, holding_of, nothing}
use Rattle.fj_parts.proofs.Holdings.{at_turn, none_tied, one_tied, same_items}
use Rattle.fj_parts.proofs.tied.tie_all.Goals as goal

pub loop-held-init : goal.loop-held-init
loop-held-init g c = record { next = tt; finite = tt; tied = none_tied c.in_ok-tied.tied.items c.in_ok-ends.ends.items c.in_ok-tied.ensures.items c.in_ok-ends.ensures.items }

pub invariant_of-push : goal.invariant_of-push
invariant_of-push g c =
    let gives = c.into_iter-held-iterator.ensures.into_iter_gives in
    let t = YieldsList-turn (YieldsList-from_vec c.args.hands.items gives.0 (gives.1 ∙ c.args.hands.ok.0)) c.loop-held.yielded c.loop-held.held-iterator c.loop-held.yielded_by c.next.result c.next.new.self c.in-Some.held c.in-Some.is c.next.ensures.steps in
    c.in_ok-kept.ensures.first.1 ∙ sym (at_turn (λ h. holding_of h ≡ nothing) c.args.hands.items (length c.loop-held.yielded) c.in-Some.held c.requires t)

pub loop-held-preserved : goal.loop-held-preserved
loop-held-preserved g c = record {
  next = tt;
  finite = tt;
  tied = one_tied c.loop-held.yielded c.loop-held.tied.items c.push.new.self.items c.loop-held.ends.items c.push-in-loop-held.new.self.items _ c.in_ok-kept.kept c.loop-held.invariant.tied c.in_ok-push.ensures.items
      c.in_ok-push-2.ensures.items c.in_ok-kept.ensures.pair c.in_ok-kept.ensures.first.0;
}

pub returns : goal.returns
returns g c =
    let gives = c.into_iter-held-iterator.ensures.into_iter_gives in
    let t = YieldsList-end (YieldsList-from_vec c.args.hands.items gives.0 (gives.1 ∙ c.args.hands.ok.0)) c.loop-held.yielded c.loop-held.held-iterator c.loop-held.yielded_by c.next.result c.next.new.self c.in-None.is c.next.ensures.steps in
    subst (λ hs. AreTied hs c.loop-held.tied.items c.loop-held.ends.items) (sym (same_items c.loop-held.yielded) ∙ t.0) c.loop-held.invariant.tied
