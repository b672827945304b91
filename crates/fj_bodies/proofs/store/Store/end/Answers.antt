use Rattle.std.proofs.Common.{◌≡◌, false, inr, refl, sym, ap, subst, ◌∙◌}
use Rattle.fj_rules.specs.declared.step.Step.TheVariants.{End}
use Rattle.fj_body.specs.Choosing.{TellsRefusal}
use Rattle.fj_body.specs.Endings.{EndsBody}
use Rattle.fj_body.specs.Fitting.{Fits}
use Rattle.fj_body.specs.Stores.{StoreState}
use Rattle.fj_bodies.proofs.Completing.{end_fired, end_runs, end_unfired, not_over, popped, popped_runs, popped_ends, filled_hand, fired_fits, unfired_fits, fired_stored, out_stored, in_stored, end_kept, end_free, end_room, ends_in_hook, ends_over_out, ends_over_in}
use Rattle.fj_rules.proofs.Steps.AboutTasks.{end_about}
use Rattle.fj_bodies.proofs.Calms.{refused_steps}
use Rattle.fj_bodies.proofs.NoneLost.{bare_results}
use Rattle.fj_bodies.proofs.DueTasks.{step_due}
use Rattle.fj_bodies.proofs.Polling.{tells_refusal}
use Rattle.fj_bodies.proofs.Refused.{end_refused}
use Rattle.fj_bodies.proofs.Waits.{holds_now, releases_now, waits_on}
use Rattle.fj_bodies.specs.declared.due.Due.TheVariants.{One}
use Rattle.fj_bodies.specs.DueTasks.{AreDue}
use Rattle.fj_bodies.specs.Waits.{AreWaiting, waits}
use Rattle.fj_bodies.proofs.store.Store.end.Goals as goal
use Rattle.fj_bodies.proofs.store.Store.end.Goals.{in-Hook, in_default-said+then-is_gone_now, in_default-said+else-is_gone_now}

-- ---- it is refused

pub returns-in-Refused-clause-ends : goal.returns-in-Refused-clause-ends
returns-in-Refused-clause-ends g c =
    let past = c.self.inside.machine in
    let hand = c.args.hand.now in
    let r = c.in-Refused.refusal in
    let fits : Fits past hand = subst (λ p. Fits p hand) (ap (λ s. s.past) (sym c.self.view_is)) c.requires.fits in
    let same = c.make-said.ensures.refused _ c.in-Refused.is in
    let steps = refused_steps past c.make-said.new.machine (End c.worker.result c.as_ending.result) c.make-said.result _ c.make-said.ensures.step c.in-Refused.is same.0 in
    rw (← c.as_ending.ensures) (
    tells_refusal (λ answer new. EndsBody c.args.self.now hand c.as_ending.result answer new hand) c.args.self.now _ (End hand.worker c.as_ending.result) r _ c.requires.free
    (rw (← c.self.view_is, ← c.worker.ensures) steps, refl)
    (subst (λ s. TellsRefusal s r c.refused.result c.refused.new.self) c.self.view_is (rw (same.0, same.1) at c.refused.ensures))
    (λ stuck. (inr stuck, refl))
    (λ refuses other. (c.requires.free, refuses, refl, end_refused past hand c.worker.result c.as_ending.result c.make-said.result r fits c.worker.ensures c.make-said.ensures.step.0 c.in-Refused.is other)))

-- ---- it is not

pub pop-t-requires : goal.pop-t-requires
pop-t-requires g c =
    let past = c.self.inside.machine in
    let fits : Fits past c.args.hand.now = subst (λ p. Fits p c.args.hand.now) (ap (λ s. s.past) (sym c.self.view_is)) c.requires.fits in
    let runs = end_runs past c.worker.result c.as_ending.result c.make-said.result c.make-said.ensures.step.0 c.in_default.not-Refused in
    filled_hand past c.args.hand.now c.worker.result runs.0 fits c.worker.ensures runs.1

pub is_gone_now-requires : goal.is_gone_now-requires
is_gone_now-requires g c =
    let past = c.self.inside.machine in
    let hand = c.args.hand.now in
    let fits : Fits past hand = subst (λ p. Fits p hand) (ap (λ s. s.past) (sym c.self.view_is)) c.requires.fits in
    let over = end_unfired past c.worker.result c.as_ending.result c.make-said.result c.make-said.ensures.step.0 c.in_default-said.not-Hook c.in_default.not-Refused in
    let ends = popped_ends past hand c.pop-t.new.self c.worker.result c.pop-t.result.0 c.pop-t.result.1 _ fits c.worker.ensures c.pop-t.ensures.popped over in
    end_kept past c.make-said.new.machine c.worker.result c.pop-t.result.0 c.as_ending.result _ _ _ c.self.invariant.stored ends c.make-said.ensures.step.1

pub put-requires : goal.put-requires
put-requires g c =
    let past = c.self.inside.machine in
    let hand = c.args.hand.now in
    let fits : Fits past hand = subst (λ p. Fits p hand) (ap (λ s. s.past) (sym c.self.view_is)) c.requires.fits in
    let over = end_unfired past c.worker.result c.as_ending.result c.make-said.result c.make-said.ensures.step.0 c.in_default-said.not-Hook c.in_default.not-Refused in
    let ends = popped_ends past hand c.pop-t.new.self c.worker.result c.pop-t.result.0 c.pop-t.result.1 _ fits c.worker.ensures c.pop-t.ensures.popped over in
    record {
      free = end_free past c.make-said.new.machine c.worker.result c.pop-t.result.0 c.as_ending.result _ _ _ _ c.self.invariant.stored ends c.make-said.ensures.bodies;
      room = end_room past c.make-said.new.machine c.worker.result c.pop-t.result.0 c.make-said.new.bodies.room c.as_ending.result _ _ _ _ c.self.invariant.stored ends c.make-said.ensures.step.1 c.make-said.ensures.bodies (rw c.make-said.ensures.room c.self.invariant.room.bodies);
    }

pub release_due-requires : goal.release_due-requires
release_due-requires g c =
    let past = c.self.inside.machine in
    let hand = c.args.hand.now in
    let fits : Fits past hand = subst (λ p. Fits p hand) (ap (λ s. s.past) (sym c.self.view_is)) c.requires.fits in
    let waiting : AreWaiting (waits c.make-said.new.machine c.self.inside.taken) = waits_on _ c.self.invariant.stored c.make-said.ensures.step.1 in
    let due : c.self.inside.stuck ≡ false → AreDue c.make-said.new.machine.events c.self.inside.taken.items (One c.pop-t.result.0) =
    λ free. step_due past c.make-said.new.machine (End c.worker.result c.as_ending.result) _ _ _ c.pop-t.result.0 c.self.invariant.stored c.make-said.ensures.step.1
    (end_about past c.worker.result c.pop-t.result.0 c.as_ending.result c.self.invariant.stored.run (popped_runs past hand c.pop-t.new.self c.worker.result c.pop-t.result.0 c.pop-t.result.1 fits c.worker.ensures c.pop-t.ensures.popped))
    (c.self.invariant.rests free) in
    elim c.match-said-2.branch [
      | in-Hook b ↦ rw b.self-inside-is (record { waiting = waiting; due = due })
      | in_default-said+then-is_gone_now b ↦ rw b.self-inside-is (record { waiting = waiting; due = due })
      | in_default-said+else-is_gone_now b ↦ rw b.self-inside-is (record { waiting = waiting; due = due })
    ]

pub invariant_of-self-2 : goal.invariant_of-self-2
invariant_of-self-2 g c =
    let past = c.self.inside.machine in
    let hand = c.args.hand.now in
    let w = c.worker.result in
    let t = c.pop-t.result.0 in
    let said = c.make-said.result in
    let made = c.make-said.ensures in
    let fits : Fits past hand = subst (λ p. Fits p hand) (ap (λ s. s.past) (sym c.self.view_is)) c.requires.fits in
    let complete = bare_results past c.make-said.new.machine w c.args.bare c.as_ending.result _ _ c.self.invariant.stored.run c.as_ending.ensures made.step.1 c.self.invariant.complete in
    elim c.match-said-2.branch [
      | in-Hook b ↦
          let releases = rw b.self-inside-is at c.release_due.ensures.releases in
          let fired = end_fired past w b.in-Hook.c c.as_ending.result said made.step.0 b.in-Hook.is in
          rw b.self-inside-is (holds_now c.make-said.new.bodies c.self.inside.results (fired_stored past c.make-said.new.machine w b.in-Hook.c c.as_ending.result _ _ _ _ c.self.invariant.stored fired made.step.1 made.bodies) complete
          (rw (made.room, made.step.1) c.self.invariant.room) c.release_due.ensures.waiting releases)
      | in_default-said+then-is_gone_now b ↦
          let releases = rw b.self-inside-is at c.release_due.ensures.releases in
          let over = end_unfired past w c.as_ending.result said made.step.0 b.in_default-said.not-Hook c.in_default.not-Refused in
          let ends = popped_ends past hand c.pop-t.new.self w t c.pop-t.result.1 _ fits c.worker.ensures c.pop-t.ensures.popped over in
          rw b.self-inside-is (holds_now c.make-said.new.bodies c.self.inside.results
          (out_stored past c.make-said.new.machine w t c.as_ending.result _ _ _ _ c.self.invariant.stored ends made.step.1 made.bodies (sym b.is_gone_now.ensures ∙ b.if-is_gone_now.true)) complete
          (rw (made.room, made.step.1) c.self.invariant.room) c.release_due.ensures.waiting releases)
      | in_default-said+else-is_gone_now b ↦
          let releases = rw b.self-inside-is at c.release_due.ensures.releases in
          let over = end_unfired past w c.as_ending.result said made.step.0 b.in_default-said.not-Hook c.in_default.not-Refused in
          let ends = popped_ends past hand c.pop-t.new.self w t c.pop-t.result.1 _ fits c.worker.ensures c.pop-t.ensures.popped over in
          rw b.self-inside-is (holds_now b.put.new.self c.self.inside.results
          (in_stored past c.make-said.new.machine w t c.as_ending.result _ _ _ c.pop-t.result.1 _ _ c.self.invariant.stored ends made.step.1 made.bodies (sym b.is_gone_now.ensures ∙ b.if-is_gone_now.false) b.put.ensures.entries) complete
          (rw (b.put.ensures.room, made.room, made.step.1) c.self.invariant.room) c.release_due.ensures.waiting releases)
    ]

pub returns : goal.returns
returns g c =
    let past = c.self.inside.machine in
    let hand = c.args.hand.now in
    let w = c.worker.result in
    let t = c.pop-t.result.0 in
    let body = c.pop-t.result.1 in
    let popped_off = c.pop-t.ensures.popped in
    let said = c.make-said.result in
    let made = c.make-said.ensures in
    let new = c.make-said.new.machine in
    let fits : Fits past hand = subst (λ p. Fits p hand) (ap (λ s. s.past) (sym c.self.view_is)) c.requires.fits in
    let free = ap (λ s. s.stuck) c.self.view_is ∙ c.requires.free in
    let mid : StoreState g.row.B.Denot g.row.B-Key.Denot g.row.B-Out.Denot =
    record { past = new; bodies = c.make-said.new.bodies; results = c.self.inside.results; taken = c.self.inside.taken.items; stuck = c.self.inside.stuck } in
    elim c.match-said-2.branch [
      | in-Hook b ↦
          let releases = rw b.self-inside-is at c.release_due.ensures.releases in
          let fired = end_fired past w b.in-Hook.c c.as_ending.result said made.step.0 b.in-Hook.is in
          let one = popped past hand c.pop-t.new.self w b.in-Hook.c t body fits c.worker.ensures popped_off fired.runs in
          rw (b.told-is, b.hand-is, b.self-inside-is) (record {
            ends = rw (← c.self.view_is, ← c.as_ending.ensures) (
              free,
              refl,
              ends_in_hook _ mid _ hand c.pop-t.new.self b.give_hook.new.self w t b.in-Hook.c c.as_ending.result body c.worker.ensures one (sym b.in-Hook.is ∙ made.step.0, made.step.1) popped_off b.give_hook.ensures refl made.bodies
                  (releases_now c.make-said.new.bodies c.self.inside.results releases),
            );
            fits = fired_fits past new _ hand c.pop-t.new.self b.give_hook.new.self w b.in-Hook.c t body _ releases.some.0 c.self.invariant.stored.run fits c.worker.ensures popped_off b.give_hook.ensures made.step.1 fired
                (ap (λ w. w.past) releases.some.3);
          })
      | in_default-said+then-is_gone_now b ↦
          let releases = rw b.self-inside-is at c.release_due.ensures.releases in
          let over = end_unfired past w c.as_ending.result said made.step.0 b.in_default-said.not-Hook c.in_default.not-Refused in
          let ends = popped_ends past hand c.pop-t.new.self w t body _ fits c.worker.ensures popped_off over in
          rw (b.told-is, b.hand-is, b.self-inside-is) (record {
            ends = rw (← c.self.view_is, ← c.as_ending.ensures) (
              free,
              ends_over_out _ mid _ hand c.pop-t.new.self w t c.as_ending.result body said c.worker.ensures made.step (not_over said b.in_default-said.not-Hook c.in_default.not-Refused) popped_off
                  (sym b.is_gone_now.ensures ∙ b.if-is_gone_now.true) refl made.bodies (releases_now c.make-said.new.bodies c.self.inside.results releases),
            );
            fits = unfired_fits past new _ hand c.pop-t.new.self w t body _ releases.some.0 c.self.invariant.stored.run fits c.worker.ensures popped_off made.step.1 ends (ap (λ w. w.past) releases.some.3);
          })
      | in_default-said+else-is_gone_now b ↦
          let releases = rw b.self-inside-is at c.release_due.ensures.releases in
          let over = end_unfired past w c.as_ending.result said made.step.0 b.in_default-said.not-Hook c.in_default.not-Refused in
          let ends = popped_ends past hand c.pop-t.new.self w t body _ fits c.worker.ensures popped_off over in
          rw (b.told-is, b.hand-is, b.self-inside-is) (record {
            ends = rw (← c.self.view_is, ← c.as_ending.ensures) (
              free,
              ends_over_in _ (record mid { bodies = b.put.new.self }) _ hand c.pop-t.new.self w t c.as_ending.result body said _ c.worker.ensures made.step (not_over said b.in_default-said.not-Hook c.in_default.not-Refused) popped_off
                  (sym b.is_gone_now.ensures ∙ b.if-is_gone_now.false) refl made.bodies b.put.ensures.entries (releases_now b.put.new.self c.self.inside.results releases),
            );
            fits = unfired_fits past new _ hand c.pop-t.new.self w t body _ releases.some.0 c.self.invariant.stored.run fits c.worker.ensures popped_off made.step.1 ends (ap (λ w. w.past) releases.some.3);
          })
    ]
