use Rattle.std.proofs.Common.{ℕ, List, length, inr, refl, sym, ap, subst, ◌∙◌}
use Rattle.fj_rules.specs.declared.step.Step.TheVariants.{HookDone}
use Rattle.fj_rules.specs.Lists.{is_in}
use Rattle.fj_slots.specs.Shelves.{entries}
use Rattle.fj_body.specs.Choosing.{TellsRefusal}
use Rattle.fj_body.specs.Fitting.{Fits}
use Rattle.fj_body.specs.HookEndings.{EndsHook}
use Rattle.fj_body.specs.Stores.{StoreState}
use Rattle.fj_bodies.proofs.Completing.{not_over}
use Rattle.fj_body.proofs.Sweeps.{gone_longer}
use Rattle.fj_body.proofs.HookEndings.{hook_fired, hook_unfired, hook_swept, own_hook_about, hook_first, hook_fired_fits, hook_over_fits, hook_ends_in_hook, hook_ends_over}
use Rattle.fj_bodies.proofs.Calms.{refused_steps}
use Rattle.fj_bodies.proofs.HookDone.{after_hook, hook_there, none_began}
use Rattle.fj_bodies.proofs.NoneLost.{hook_results}
use Rattle.fj_bodies.proofs.DueTasks.{step_due}
use Rattle.fj_bodies.proofs.Polling.{tells_refusal}
use Rattle.fj_bodies.proofs.Refused.{hook_refused}
use Rattle.fj_bodies.proofs.Results.{keeps_room, keeps_store, keeps_stored, result_room}
use Rattle.fj_bodies.proofs.Waits.{holds_now, releases_now, waits_on}
use Rattle.fj_bodies.proofs.store.Store.hook_done.Goals as goal
use Rattle.fj_bodies.proofs.store.Store.hook_done.Goals.{in-Some, in-None}

-- ---- it is refused

pub returns-in-Refused-clause-ends : goal.returns-in-Refused-clause-ends
returns-in-Refused-clause-ends g c =
    let past = c.self.inside.machine in
    let hand = c.args.hand.now in
    let w = c.worker-w.result in
    let r = c.in-Refused.refusal in
    let fits : Fits past hand = subst (λ p. Fits p hand) (ap (λ s. s.past) (sym c.self.view_is)) c.requires.fits in
    let same = c.step-said.ensures.refused _ c.in-Refused.is in
    let steps = refused_steps past c.step-said.new.self (HookDone w) c.step-said.result _ c.step-said.ensures.step c.in-Refused.is same in
    tells_refusal (λ answer new. EndsHook g.B.Body.key_of c.args.self.now hand c.args.out answer new hand) c.args.self.now _ (HookDone hand.worker) r _ c.requires.free
    (rw (← c.self.view_is, ← c.worker-w.ensures) steps, refl)
    (subst (λ s. TellsRefusal s r c.refused.result c.refused.new.self) c.self.view_is (rw same at c.refused.ensures))
    (λ stuck. (inr stuck, refl))
    (λ refuses other. (c.requires.free, refuses, refl, hook_refused past hand w c.step-said.result r fits c.worker-w.ensures c.step-said.ensures.step.0 c.in-Refused.is other))

-- ---- it is not

pub sweep_since-requires : goal.sweep_since-requires
sweep_since-requires g c = rw c.gone-before.ensures (gone_longer c.self.inside.machine c.step-said.new.self _ c.step-said.ensures.step.1 c.self.invariant.stored.run)

pub take_hook-c-requires : goal.take_hook-c-requires
take_hook-c-requires g c =
    let past = c.self.inside.machine in
    let hand = c.args.hand.now in
    let fits : Fits past hand = subst (λ p. Fits p hand) (ap (λ s. s.past) (sym c.self.view_is)) c.requires.fits in
    hook_there past hand c.worker-w.result c.step-said.result c.step-said.ensures.step.0 c.in_default.not-Refused fits c.worker-w.ensures

pub keep_unless_taken-requires-clause-first : goal.keep_unless_taken-requires-clause-first
keep_unless_taken-requires-clause-first g c =
    let past = c.self.inside.machine in
    let hand = c.args.hand.now in
    let fits : Fits past hand = subst (λ p. Fits p hand) (ap (λ s. s.past) (sym c.self.view_is)) c.requires.fits in
    hook_first past hand c.worker-w.result c.take_hook-c.result.0 c.take_hook-c.result.1 _ _ _ c.self.invariant.stored fits c.worker-w.ensures c.take_hook-c.ensures.hook

pub keep_unless_taken-requires-clause-room : goal.keep_unless_taken-requires-clause-room
keep_unless_taken-requires-clause-room g c =
    let past = c.self.inside.machine in
    let hand = c.args.hand.now in
    let w = c.worker-w.result in
    let t = c.take_hook-c.result.0 in
    let ts = c.self.inside.taken.items in
    let fits : Fits past hand = subst (λ p. Fits p hand) (ap (λ s. s.past) (sym c.self.view_is)) c.requires.fits in
    let swept = hook_swept past c.step-said.new.self w _ (entries c.take_begun-begun.new.bodies) _ c.self.invariant.stored.run c.step-said.ensures.step.1
    (ap (λ (ts : List ℕ). length ts) c.gone-before.ensures) c.sweep_since.ensures.entries in
    let after = after_hook past c.step-said.new.self hand w t c.take_hook-c.result.1 c.step-said.result c.take_begun-begun.result c.self.inside.bodies c.take_begun-begun.new.bodies _ (entries c.self.inside.results) ts
    c.self.invariant.stored fits c.worker-w.ensures c.take_hook-c.ensures.hook c.step-said.ensures.step.0 c.in_default.not-Refused c.step-said.ensures.step.1 (c.take_begun-begun.ensures.some, c.take_begun-begun.ensures.none) swept in
    let first = hook_first past hand w t c.take_hook-c.result.1 _ _ _ c.self.invariant.stored fits c.worker-w.ensures c.take_hook-c.ensures.hook in
    result_room c.step-said.new.self _ (entries c.self.inside.results) ts t c.self.inside.results.room after.stored after.kept first (rw c.step-said.ensures.step.1 c.self.invariant.room.results)

pub release_due-requires : goal.release_due-requires
release_due-requires g c =
    let past = c.self.inside.machine in
    let hand = c.args.hand.now in
    let w = c.worker-w.result in
    let t = c.take_hook-c.result.0 in
    let fits : Fits past hand = subst (λ p. Fits p hand) (ap (λ s. s.past) (sym c.self.view_is)) c.requires.fits in
    record {
      waiting = waits_on _ c.self.invariant.stored c.step-said.ensures.step.1;
      due = λ free. step_due past c.step-said.new.self (HookDone w) _ _ _ t c.self.invariant.stored c.step-said.ensures.step.1
          (own_hook_about past hand w t c.take_hook-c.result.1 _ _ _ c.self.invariant.stored fits c.worker-w.ensures c.take_hook-c.ensures.hook)
          (c.self.invariant.rests free);
    }

pub invariant_of-self-2 : goal.invariant_of-self-2
invariant_of-self-2 g c =
    let past = c.self.inside.machine in
    let hand = c.args.hand.now in
    let w = c.worker-w.result in
    let t = c.take_hook-c.result.0 in
    let ts = c.self.inside.taken.items in
    let fits : Fits past hand = subst (λ p. Fits p hand) (ap (λ s. s.past) (sym c.self.view_is)) c.requires.fits in
    let swept = hook_swept past c.step-said.new.self w _ (entries c.take_begun-begun.new.bodies) _ c.self.invariant.stored.run c.step-said.ensures.step.1
    (ap (λ (ts : List ℕ). length ts) c.gone-before.ensures) c.sweep_since.ensures.entries in
    let after = after_hook past c.step-said.new.self hand w t c.take_hook-c.result.1 c.step-said.result c.take_begun-begun.result c.self.inside.bodies c.take_begun-begun.new.bodies _ (entries c.self.inside.results) ts
    c.self.invariant.stored fits c.worker-w.ensures c.take_hook-c.ensures.hook c.step-said.ensures.step.0 c.in_default.not-Refused c.step-said.ensures.step.1 (c.take_begun-begun.ensures.some, c.take_begun-begun.ensures.none) swept in
    holds_now c.sweep_since.new.bodies c.keep_unless_taken.new.results
    (keeps_stored c.step-said.new.self _ c.self.inside.results c.keep_unless_taken.new.results ts t _ after.stored after.kept after.last c.keep_unless_taken.ensures)
    (hook_results past c.step-said.new.self w t t _ c.self.inside.results c.keep_unless_taken.new.results ts c.self.invariant.stored.run c.step-said.ensures.step.1 after.only refl c.keep_unless_taken.ensures c.self.invariant.complete)
    (rw (c.sweep_since.ensures.room, c.take_begun-begun.ensures.room, c.step-said.ensures.step.1, keeps_room (is_in t ts) c.self.inside.results c.keep_unless_taken.new.results t _ c.keep_unless_taken.ensures) c.self.invariant.room)
    c.release_due.ensures.waiting c.release_due.ensures.releases

pub returns : goal.returns
returns g c =
    let past = c.self.inside.machine in
    let hand = c.args.hand.now in
    let w = c.worker-w.result in
    let said = c.step-said.result in
    let step = c.step-said.ensures.step in
    let new = c.step-said.new.self in
    let t = c.take_hook-c.result.0 in
    let fits : Fits past hand = subst (λ p. Fits p hand) (ap (λ s. s.past) (sym c.self.view_is)) c.requires.fits in
    let swept = hook_swept past new w _ (entries c.take_begun-begun.new.bodies) _ c.self.invariant.stored.run step.1 (ap (λ (ts : List ℕ). length ts) c.gone-before.ensures) c.sweep_since.ensures.entries in
    let mid : StoreState g.row.B.Denot g.row.B-Key.Denot g.row.B-Out.Denot =
    record { past = new; bodies = c.sweep_since.new.bodies; results = c.self.inside.results; taken = c.self.inside.taken.items; stuck = c.self.inside.stuck } in
    let free = ap (λ s. s.stuck) c.self.view_is ∙ c.requires.free in
    let kept = keeps_store mid t _ c.keep_unless_taken.new.results (rw (c.new-kept.ensures, c.into_key.ensures) at c.keep_unless_taken.ensures) in
    let releases = releases_now c.sweep_since.new.bodies c.keep_unless_taken.new.results c.release_due.ensures.releases in
    let past_now = ap (λ w. w.past) c.release_due.ensures.releases.some.3 in
    elim c.match-begun.branch [
      | in-Some b ↦
          let begun = b.in-Some.ensures.some in
          let given = rw c.take_hook-c.ensures.rest at b.give_hook.ensures in
          rw (b.result-is, b.hand-is) (record {
            ends = rw (← c.self.view_is) (
              free,
              hook_ends_in_hook _ _ mid (record mid { results = c.keep_unless_taken.new.results }) _ hand b.give_hook.new.self w _ t c.take_hook-c.result.1 _ (entries c.take_begun-begun.new.bodies) _ c.worker-w.ensures
                  (sym begun.0 ∙ step.0, step.1) c.take_hook-c.ensures.hook begun.1 begun.2 given refl swept kept releases,
            );
            fits = hook_fired_fits past new _ hand b.give_hook.new.self w _ _ _ c.release_due.ensures.releases.some.0 fits c.worker-w.ensures c.hook-hook.ensures.apart given step.1 (hook_fired past w _ said step.0 begun.0) past_now;
          })
      | in-None b ↦
          let none = b.in-None.ensures.none in
          let no_hook = none_began past w said c.self.inside.bodies c.take_begun-begun.new.bodies _ _ c.self.invariant.stored step.0 (tt, none) in
          rw (b.result-is, b.hand-is) (record {
            ends = rw (← c.self.view_is) (
              free,
              hook_ends_over _ _ mid (record mid { results = c.keep_unless_taken.new.results }) _ hand c.take_hook-c.new.self w t c.take_hook-c.result.1 _ said c.worker-w.ensures step
                  (not_over said no_hook c.in_default.not-Refused) c.take_hook-c.ensures.hook c.take_hook-c.ensures.rest refl (rw none.0 at swept) kept releases,
            );
            fits = hook_over_fits past new _ hand c.take_hook-c.new.self w _ c.release_due.ensures.releases.some.0 fits c.worker-w.ensures c.hook-hook.ensures.apart c.take_hook-c.ensures.rest step.1
                (hook_unfired past w said step.0 no_hook c.in_default.not-Refused) past_now;
          })
    ]
