use Rattle.std.proofs.Common.{Some, sym, ap, ◌∙◌, subst}
use Rattle.std.specs.Prelude.{slice_get}
use Rattle.fj_agreement.specs.Ends.{EndState}
use Rattle.fj_body.specs.Fitting.{Fits}
use Rattle.fj_parts.specs.declared.holding.Holding.{Holding}
use Rattle.fj_guarded.proofs.GoesOn.{all_on, asked_on}
use Rattle.fj_parts.proofs.Holdings.{fits_holding, kept_after, met_fits, same_pair}
use Rattle.fj_parts.proofs.locked.Locked.serve.Goals as goal

pub meet-requires : goal.meet-requires
meet-requires g c =
    let lock = c.self.inside in
    let mine = c.hand.inside in record {
      pair = same_pair g.N.Naming.hands lock.guarded.store.past lock.ends.items mine.held.worker c.end_of.result mine.end.pair c.index_mut-end.result.now c.self.invariant.ends c.end_of.ensures c.hand.invariant.tied c.index_mut-end.ensures.value;
    }

pub serve-next-requires-clause-fits : goal.serve-next-requires-clause-fits
serve-next-requires-clause-fits g c =
    let lock = c.self.inside in
    let mine = c.hand.inside in
    met_fits g.N.Naming.hands lock.guarded.store.past lock.ends.items mine.held c.end_of.result mine.end c.index_mut-end.result.now c.self.invariant.ends c.end_of.ensures c.hand.invariant.tied c.hand.invariant.known c.index_mut-end.ensures.value
    c.meet.ensures.same

pub agree_on-requires : goal.agree_on-requires
agree_on-requires g c =
    let lock = c.self.inside in
    let mine = c.hand.inside in record {
      pair = ap (λ (e : EndState Holding). e.pair) c.meet.ensures.stays.0
          ∙ same_pair g.N.Naming.hands lock.guarded.store.past lock.ends.items mine.held.worker c.end_of.result mine.end.pair c.index_mut-end.result.now c.self.invariant.ends c.end_of.ensures c.hand.invariant.tied c.index_mut-end.ensures.value
          ∙ sym (ap (λ (e : EndState Holding). e.pair) c.meet.ensures.stays.1);
    }

pub invariant_of-self : goal.invariant_of-self
invariant_of-self g c =
    let lock = c.self.inside in
    let mine = c.hand.inside in
    let done = c.serve-next.ensures in
    let ends = kept_after g.N.Naming.hands lock.guarded.store.past c.serve-next.new.self.store.past lock.ends.items mine.held.worker c.end_of.result mine.end.pair c.index_mut-end.result.now c.agree_on.new.self c.self.invariant.ends c.end_of.ensures
    c.hand.invariant.tied c.index_mut-end.ensures.value (c.agree_on.ensures.stays.0 ∙ ap (λ (e : EndState Holding). e.pair) c.meet.ensures.stays.0)
    (c.agree_on.ensures.value.0 ∙ fits_holding c.serve-next.new.self.store.past c.serve-next.new.hand mine.held.worker done.fits done.worker) done.others in record {
      ends = ends;
      log = all_on _ _ _ c.self.invariant.log (asked_on g.B.Body.key_of g.B.Body.rooted_as _ _ _ _ c.args.ask c.serve-next.result done.serves done.resumes);
    }

pub invariant_of-hand : goal.invariant_of-hand
invariant_of-hand g c = record {
  tied = ap (λ w. slice_get g.N.Naming.hands w) c.serve-next.ensures.worker ∙ c.hand.invariant.tied
      ∙ ap (λ p. Some p) (sym (c.agree_on.ensures.stays.1 ∙ ap (λ (e : EndState Holding). e.pair) c.meet.ensures.stays.1));
  known = c.agree_on.ensures.value.1;
}

pub returns-clause-fits : goal.returns-clause-fits
returns-clause-fits g c =
    let lock = c.self.inside in
    let mine = c.hand.inside in
    subst (λ h. Fits c.args.self.now.store.past h) c.hand.view_is
    (subst (λ s. Fits s.store.past mine.held) c.self.view_is
    (met_fits g.N.Naming.hands lock.guarded.store.past lock.ends.items mine.held c.end_of.result mine.end c.index_mut-end.result.now c.self.invariant.ends c.end_of.ensures c.hand.invariant.tied c.hand.invariant.known
    c.index_mut-end.ensures.value c.meet.ensures.same))
