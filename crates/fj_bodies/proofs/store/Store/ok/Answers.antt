use Rattle.std.proofs.Common.{inr, refl, sym, ap, subst, ◌∙◌}
use Rattle.fj_rules.specs.declared.step.Step.TheVariants.{End}
use Rattle.fj_rules.specs.declared.step.Ending.TheVariants.{Ok as EndOk}
use Rattle.fj_rules.specs.Lists.{is_in}
use Rattle.fj_slots.specs.Shelves.{entries}
use Rattle.fj_body.specs.Choosing.{TellsRefusal}
use Rattle.fj_body.specs.Endings.{EndsOk}
use Rattle.fj_body.specs.Fitting.{Fits}
use Rattle.fj_body.specs.Stores.{StoreState}
use Rattle.fj_rules.proofs.Steps.Answered.{ok_done, ok_replies, end_free}
use Rattle.fj_body.proofs.Endings.{ok_stored, filled, newest_kept, ok_fits, asker_is}
use Rattle.fj_bodies.proofs.Calms.{refused_steps}
use Rattle.fj_bodies.proofs.Completing.{popped, popped_runs, ok_first, ok_last}
use Rattle.fj_bodies.proofs.Polling.{tells_refusal}
use Rattle.fj_bodies.proofs.Results.{keeps_room, keeps_store, keeps_stored, result_room}
use Rattle.fj_bodies.proofs.Refused.{end_refused}
use Rattle.fj_rules.proofs.Steps.AboutTasks.{end_about}
use Rattle.fj_bodies.proofs.NoneLost.{ok_results}
use Rattle.fj_bodies.proofs.DueTasks.{step_due}
use Rattle.fj_bodies.proofs.Waits.{holds_now, releases_now, waits_on}
use Rattle.fj_bodies.proofs.store.Store.ok.Goals as goal

pub pop-t-requires : goal.pop-t-requires
pop-t-requires g c =
    let past = c.self.inside.machine in
    let fits : Fits past c.args.hand.now = subst (λ p. Fits p c.args.hand.now) (ap (λ s. s.past) (sym c.self.view_is)) c.requires.fits in
    filled past c.args.hand.now c.worker.result _ fits c.worker.ensures (ok_done past c.worker.result c.step.result c.step.ensures.step.0 c.in-Done.is)

pub release_due-requires : goal.release_due-requires
release_due-requires g c =
    let past = c.self.inside.machine in
    let hand = c.args.hand.now in
    let w = c.worker.result in
    let t = c.pop-t.result.0 in
    let fits : Fits past hand = subst (λ p. Fits p hand) (ap (λ s. s.past) (sym c.self.view_is)) c.requires.fits in
    record {
      waiting = waits_on _ c.self.invariant.stored c.step.ensures.step.1;
      due = λ free. step_due past c.step.new.self (End w EndOk) _ _ _ t c.self.invariant.stored c.step.ensures.step.1
          (end_about past w t EndOk c.self.invariant.stored.run (popped_runs past hand c.pop-t.new.self w t c.pop-t.result.1 fits c.worker.ensures c.pop-t.ensures.popped)) (c.self.invariant.rests free);
    }

pub invariant_of-self : goal.invariant_of-self
invariant_of-self g c =
    let past = c.self.inside.machine in
    let hand = c.args.hand.now in
    let w = c.worker.result in
    let t = c.pop-t.result.0 in
    let ts = c.self.inside.taken.items in
    let fits : Fits past hand = subst (λ p. Fits p hand) (ap (λ s. s.past) (sym c.self.view_is)) c.requires.fits in
    let done = ok_done past w c.step.result c.step.ensures.step.0 c.in-Done.is in
    let kept = newest_kept past hand c.pop-t.new.self w t c.pop-t.result.1 c.self.invariant.stored.run fits c.worker.ensures c.pop-t.ensures.popped done in
    let last = ok_last past c.step.new.self hand c.pop-t.new.self w t c.pop-t.result.1 c.self.invariant.stored.run fits c.worker.ensures c.pop-t.ensures.popped done c.step.ensures.step.1 in
    holds_now c.self.inside.bodies c.keep_unless_taken.new.results
    (keeps_stored c.step.new.self _ c.self.inside.results c.keep_unless_taken.new.results ts t _
    (ok_stored past c.step.new.self w _ (entries c.self.inside.results) ts c.self.invariant.stored c.step.ensures.step.1 done) (rw c.step.ensures.step.1 kept) last c.keep_unless_taken.ensures)
    (ok_results past c.step.new.self w t _ c.self.inside.results c.keep_unless_taken.new.results ts c.self.invariant.stored.run c.step.ensures.step.1 done
    (popped past hand c.pop-t.new.self w done.task t c.pop-t.result.1 fits c.worker.ensures c.pop-t.ensures.popped done.runs) c.keep_unless_taken.ensures c.self.invariant.complete)
    (rw (c.step.ensures.step.1, keeps_room (is_in t ts) c.self.inside.results c.keep_unless_taken.new.results t _ c.keep_unless_taken.ensures) c.self.invariant.room) c.release_due.ensures.waiting c.release_due.ensures.releases

pub new-kept-requires : goal.new-kept-requires
new-kept-requires g c =
    let past = c.self.inside.machine in
    let fits : Fits past c.args.hand.now = subst (λ p. Fits p c.args.hand.now) (ap (λ s. s.past) (sym c.self.view_is)) c.requires.fits in
    let free = end_free past c.worker.result c.step.result c.step.ensures.step.0 c.in-Done.is in
    let asks = asker_is past c.args.hand.now c.pop-t.new.self c.worker.result c.pop-t.result.0 c.pop-t.result.1 fits c.worker.ensures free c.pop-t.ensures.popped in
    rw c.into_key.ensures (rw asks at c.requires.right)

pub keep_unless_taken-requires-clause-first : goal.keep_unless_taken-requires-clause-first
keep_unless_taken-requires-clause-first g c =
    let past = c.self.inside.machine in
    let fits : Fits past c.args.hand.now = subst (λ p. Fits p c.args.hand.now) (ap (λ s. s.past) (sym c.self.view_is)) c.requires.fits in
    ok_first past c.args.hand.now c.pop-t.new.self c.worker.result c.pop-t.result.0 c.pop-t.result.1 _ _ _ c.self.invariant.stored fits c.worker.ensures c.pop-t.ensures.popped
    (ok_done past c.worker.result c.step.result c.step.ensures.step.0 c.in-Done.is)

pub keep_unless_taken-requires-clause-room : goal.keep_unless_taken-requires-clause-room
keep_unless_taken-requires-clause-room g c =
    let past = c.self.inside.machine in
    let hand = c.args.hand.now in
    let w = c.worker.result in
    let t = c.pop-t.result.0 in
    let ts = c.self.inside.taken.items in
    let fits : Fits past hand = subst (λ p. Fits p hand) (ap (λ s. s.past) (sym c.self.view_is)) c.requires.fits in
    let done = ok_done past w c.step.result c.step.ensures.step.0 c.in-Done.is in
    let kept = newest_kept past hand c.pop-t.new.self w t c.pop-t.result.1 c.self.invariant.stored.run fits c.worker.ensures c.pop-t.ensures.popped done in
    let first = ok_first past hand c.pop-t.new.self w t c.pop-t.result.1 _ _ _ c.self.invariant.stored fits c.worker.ensures c.pop-t.ensures.popped done in
    result_room c.step.new.self _ (entries c.self.inside.results) ts t c.self.inside.results.room
    (ok_stored past c.step.new.self w (entries c.self.inside.bodies) (entries c.self.inside.results) ts c.self.invariant.stored c.step.ensures.step.1 done) (rw c.step.ensures.step.1 kept) first
    (rw c.step.ensures.step.1 c.self.invariant.room.results)

pub returns-in-Done-clause-ends : goal.returns-in-Done-clause-ends
returns-in-Done-clause-ends g c =
    let mid : StoreState g.row.B.Denot g.row.B-Key.Denot g.row.B-Out.Denot = record { past = c.step.new.self; bodies = c.self.inside.bodies; results = c.self.inside.results; taken = c.self.inside.taken.items; stuck = c.self.inside.stuck } in
    rw (← c.self.view_is) (
      ap (λ s. s.stuck) c.self.view_is ∙ c.requires.free,
      record {
        mid = mid;
        done = record mid { results = c.keep_unless_taken.new.results };
        task = c.pop-t.result.0;
        body = c.pop-t.result.1;
        step = rw (c.worker.ensures, c.in-Done.is) at c.step.ensures.step;
        others = refl;
        held = c.pop-t.ensures.popped;
        kept = keeps_store mid c.pop-t.result.0 _ c.keep_unless_taken.new.results (rw (c.new-kept.ensures, c.into_key.ensures) at c.keep_unless_taken.ensures);
        releases = releases_now c.self.inside.bodies c.keep_unless_taken.new.results c.release_due.ensures.releases;
      },
    )

pub returns-in-Done-clause-fits : goal.returns-in-Done-clause-fits
returns-in-Done-clause-fits g c =
    let past = c.self.inside.machine in
    let fits : Fits past c.args.hand.now = subst (λ p. Fits p c.args.hand.now) (ap (λ s. s.past) (sym c.self.view_is)) c.requires.fits in
    ok_fits past c.step.new.self _ c.args.hand.now c.pop-t.new.self c.worker.result c.pop-t.result.0 c.pop-t.result.1 _ c.release_due.ensures.releases.some.0 c.self.invariant.stored.run fits
    c.worker.ensures c.pop-t.ensures.popped c.step.ensures.step.1
    (ok_done past c.worker.result c.step.result c.step.ensures.step.0 c.in-Done.is)
    (ap (λ w. w.past) c.release_due.ensures.releases.some.3)

pub unreachable-requires : goal.unreachable-requires
unreachable-requires g c =
    let past = c.self.inside.machine in
    ok_replies past c.worker.result c.step.result c.step.ensures.step.0 c.in_default.not-Done c.in_default.not-Refused

pub returns-in-Refused-clause-ends : goal.returns-in-Refused-clause-ends
returns-in-Refused-clause-ends g c =
    let past = c.self.inside.machine in
    let hand = c.args.hand.now in
    let r = c.in-Refused.refusal in
    let fits : Fits past hand = subst (λ p. Fits p hand) (ap (λ s. s.past) (sym c.self.view_is)) c.requires.fits in
    let same = c.step.ensures.refused _ c.in-Refused.is in
    let steps = refused_steps past c.step.new.self (End c.worker.result EndOk) c.step.result _ c.step.ensures.step c.in-Refused.is same in
    tells_refusal (λ answer new. EndsOk g.B.Body.key_of c.args.self.now hand c.args.out answer new hand) c.args.self.now _ (End hand.worker EndOk) r _ c.requires.free
    (rw (← c.self.view_is, ← c.worker.ensures) steps, refl)
    (subst (λ s. TellsRefusal s r c.refused.result c.refused.new.self) c.self.view_is (rw same at c.refused.ensures))
    (λ stuck. (inr stuck, refl))
    (λ refuses other. (c.requires.free, refuses, refl, end_refused past hand c.worker.result EndOk c.step.result r fits c.worker.ensures c.step.ensures.step.0 c.in-Refused.is other))
