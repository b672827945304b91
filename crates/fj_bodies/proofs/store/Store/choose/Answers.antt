use Rattle.std.proofs.Common.{[], ◌∷◌, refl, sym, ap, subst, ◌∙◌}
use Rattle.fj_rules.specs.declared.event.Event.TheVariants.{Out, Skip}
use Rattle.fj_rules.specs.Answers.{answer}
use Rattle.fj_rules.specs.Runs.{Past}
use Rattle.fj_body.specs.Fitting.{Fits}
use Rattle.fj_rules.specs.ChoiceTaken.{TakesChoice}
use Rattle.fj_rules.proofs.Steps.Answered.{choice_ran, choice_skipped, choice_idle, choice_normal, choice_failed, choice_cancelled, choice_replies}
use Rattle.fj_body.proofs.Stored.{same_stored}
use Rattle.fj_body.proofs.Taking.{taken_there, out_stored, skip_stored, out_room, chosen_run_fits, chosen_same_fits, chosen_skip_fits}
use Rattle.fj_rules.proofs.Steps.AboutTasks.{skip_about}
use Rattle.fj_bodies.proofs.NoneLost.{choice_results}
use Rattle.fj_bodies.proofs.DueTasks.{step_due, still_rests}
use Rattle.fj_bodies.proofs.Waits.{holds_now, releases_now, waits_on}
use Rattle.fj_bodies.proofs.store.Store.choose.Goals as goal

pub unreachable-requires : goal.unreachable-requires
unreachable-requires g c =
    let past = c.self.inside.machine in
    let w = c.args.hand.now.worker in
    let takes : TakesChoice w (answer past c.args.asked.now).0 (answer past c.args.asked.now).1 =
    subst (λ (p : Past). TakesChoice w (answer p c.args.asked.now).0 (answer p c.args.asked.now).1) (ap (λ s. s.past) (sym c.self.view_is)) c.requires.takes in
    let made = choice_ran w c.in-Run.t c.step.result _ _ takes c.step.ensures.step.0 c.in-Run.is in
    taken_there past c.args.asked.now (Out c.in-Run.t w) c.in-Run.t _ _ _ c.self.invariant.stored made refl (sym c.in-None-take.ensures.taken)

pub push-requires : goal.push-requires
push-requires g c =
    let past = c.self.inside.machine in
    let w = c.args.hand.now.worker in
    let takes : TakesChoice w (answer past c.args.asked.now).0 (answer past c.args.asked.now).1 =
    subst (λ (p : Past). TakesChoice w (answer p c.args.asked.now).0 (answer p c.args.asked.now).1) (ap (λ s. s.past) (sym c.self.view_is)) c.requires.takes in
    let fits : Fits past c.args.hand.now = subst (λ p. Fits p c.args.hand.now) (ap (λ s. s.past) (sym c.self.view_is)) c.requires.fits in
    let made = choice_ran w c.in-Run.t c.step.result _ _ takes c.step.ensures.step.0 c.in-Run.is in
    out_room past c.args.asked.now c.args.hand.now c.in-Run.t c.self.invariant.stored.run c.self.invariant.room.few fits made

pub unreachable-requires-in-None-take-2 : goal.unreachable-requires-in-None-take-2
unreachable-requires-in-None-take-2 g c =
    let past = c.self.inside.machine in
    let w = c.args.hand.now.worker in
    let takes : TakesChoice w (answer past c.args.asked.now).0 (answer past c.args.asked.now).1 =
    subst (λ (p : Past). TakesChoice w (answer p c.args.asked.now).0 (answer p c.args.asked.now).1) (ap (λ s. s.past) (sym c.self.view_is)) c.requires.takes in
    let made = choice_skipped w c.in-Skip.t c.step.result _ _ takes c.step.ensures.step.0 c.in-Skip.is in
    taken_there past c.args.asked.now (Skip c.in-Skip.t w) c.in-Skip.t _ _ _ c.self.invariant.stored made refl (sym c.in-None-take-2.ensures.taken)

pub unreachable-requires-in_default : goal.unreachable-requires-in_default
unreachable-requires-in_default g c =
    let past = c.self.inside.machine in
    let w = c.args.hand.now.worker in
    let takes : TakesChoice w (answer past c.args.asked.now).0 (answer past c.args.asked.now).1 =
    subst (λ (p : Past). TakesChoice w (answer p c.args.asked.now).0 (answer p c.args.asked.now).1) (ap (λ s. s.past) (sym c.self.view_is)) c.requires.takes in
    choice_replies w c.step.result _ _ takes c.step.ensures.step.0 c.in_default.not-None c.in_default.not-Run c.in_default.not-Skip c.in_default.not-Normal c.in_default.not-Exceptional c.in_default.not-Cancelled c.in_default.not-Refused

pub invariant_of-self : goal.invariant_of-self
invariant_of-self g c =
    let past = c.self.inside.machine in
    let w = c.args.hand.now.worker in
    let takes : TakesChoice w (answer past c.args.asked.now).0 (answer past c.args.asked.now).1 =
    subst (λ (p : Past). TakesChoice w (answer p c.args.asked.now).0 (answer p c.args.asked.now).1) (ap (λ s. s.past) (sym c.self.view_is)) c.requires.takes in
    let made = choice_ran w c.in-Run.t c.step.result _ _ takes c.step.ensures.step.0 c.in-Run.is in
    record {
      stored = out_stored past c.step.new.self c.args.asked.now c.in-Run.t w _ _ _ _ c.self.invariant.stored c.step.ensures.step.1 made c.take.ensures.entries;
      complete = choice_results past c.step.new.self c.args.asked.now w _ _ c.self.invariant.stored.run takes c.step.ensures.step.1 c.self.invariant.complete;
      room = rw (c.take.ensures.room, c.step.ensures.step.1) c.self.invariant.room;
      rests = λ free. still_rests past c.step.new.self c.args.asked.now (Out c.in-Run.t w ∷ []) _ _ _ c.self.invariant.stored c.step.ensures.step.1 made refl (c.self.invariant.rests free);
    }

pub release_due-requires : goal.release_due-requires
release_due-requires g c =
    let past = c.self.inside.machine in
    let w = c.args.hand.now.worker in
    let takes : TakesChoice w (answer past c.args.asked.now).0 (answer past c.args.asked.now).1 =
    subst (λ (p : Past). TakesChoice w (answer p c.args.asked.now).0 (answer p c.args.asked.now).1) (ap (λ s. s.past) (sym c.self.view_is)) c.requires.takes in
    let made = choice_skipped w c.in-Skip.t c.step.result _ _ takes c.step.ensures.step.0 c.in-Skip.is in
    record {
      waiting = waits_on _ c.self.invariant.stored c.step.ensures.step.1;
      due = λ free. step_due past c.step.new.self c.args.asked.now _ _ _ c.in-Skip.t c.self.invariant.stored c.step.ensures.step.1 (rw made (skip_about past.events c.in-Skip.t w)) (c.self.invariant.rests free);
    }

pub invariant_of-self-in-Some-take : goal.invariant_of-self-in-Some-take
invariant_of-self-in-Some-take g c =
    let past = c.self.inside.machine in
    let w = c.args.hand.now.worker in
    let takes : TakesChoice w (answer past c.args.asked.now).0 (answer past c.args.asked.now).1 =
    subst (λ (p : Past). TakesChoice w (answer p c.args.asked.now).0 (answer p c.args.asked.now).1) (ap (λ s. s.past) (sym c.self.view_is)) c.requires.takes in
    let made = choice_skipped w c.in-Skip.t c.step.result _ _ takes c.step.ensures.step.0 c.in-Skip.is in
    holds_now c.take-in-Skip.new.self c.self.inside.results
    (skip_stored past c.step.new.self c.args.asked.now c.in-Skip.t w _ _ _ _ c.self.invariant.stored c.step.ensures.step.1 made c.take-in-Skip.ensures.entries)
    (choice_results past c.step.new.self c.args.asked.now w _ _ c.self.invariant.stored.run takes c.step.ensures.step.1 c.self.invariant.complete)
    (rw (c.take-in-Skip.ensures.room, c.step.ensures.step.1) c.self.invariant.room) c.release_due.ensures.waiting c.release_due.ensures.releases

pub returns-in-Some-take-clause-chooses : goal.returns-in-Some-take-clause-chooses
returns-in-Some-take-clause-chooses g c =
    rw (← c.self.view_is) (
      record {
        mid = record { past = c.step.new.self; bodies = c.take-in-Skip.new.self; results = c.self.inside.results; taken = c.self.inside.taken.items; stuck = c.self.inside.stuck };
        step = rw c.in-Skip.is at c.step.ensures.step;
        there = sym c.take-in-Skip.ensures.taken ∙ c.in-Some-take.is;
        moved = c.take-in-Skip.ensures.entries;
        others = refl;
        releases = releases_now c.take-in-Skip.new.self c.self.inside.results c.release_due.ensures.releases;
      },
      refl,
    )

pub returns-in-Some-clause-fits : goal.returns-in-Some-clause-fits
returns-in-Some-clause-fits g c =
    let past = c.self.inside.machine in
    let w = c.args.hand.now.worker in
    let takes : TakesChoice w (answer past c.args.asked.now).0 (answer past c.args.asked.now).1 =
    subst (λ (p : Past). TakesChoice w (answer p c.args.asked.now).0 (answer p c.args.asked.now).1) (ap (λ s. s.past) (sym c.self.view_is)) c.requires.takes in
    let fits : Fits past c.args.hand.now = subst (λ p. Fits p c.args.hand.now) (ap (λ s. s.past) (sym c.self.view_is)) c.requires.fits in
    let made = choice_ran w c.in-Run.t c.step.result _ _ takes c.step.ensures.step.0 c.in-Run.is in
    chosen_run_fits past c.step.new.self c.args.hand.now c.push.new.self c.in-Run.t c.in-Some.body _ fits c.step.ensures.step.1 made c.push.ensures

pub returns-in-Some-take-clause-fits : goal.returns-in-Some-take-clause-fits
returns-in-Some-take-clause-fits g c =
    let past = c.self.inside.machine in
    let w = c.args.hand.now.worker in
    let takes : TakesChoice w (answer past c.args.asked.now).0 (answer past c.args.asked.now).1 =
    subst (λ (p : Past). TakesChoice w (answer p c.args.asked.now).0 (answer p c.args.asked.now).1) (ap (λ s. s.past) (sym c.self.view_is)) c.requires.takes in
    let fits : Fits past c.args.hand.now = subst (λ p. Fits p c.args.hand.now) (ap (λ s. s.past) (sym c.self.view_is)) c.requires.fits in
    let made = choice_skipped w c.in-Skip.t c.step.result _ _ takes c.step.ensures.step.0 c.in-Skip.is in
    chosen_skip_fits past c.step.new.self _ c.args.hand.now c.in-Skip.t _ c.release_due.ensures.releases.some.0 fits c.step.ensures.step.1 made (ap (λ w. w.past) c.release_due.ensures.releases.some.3)

pub invariant_of-self-in-None : goal.invariant_of-self-in-None
invariant_of-self-in-None g c =
    let past = c.self.inside.machine in
    let w = c.args.hand.now.worker in
    let takes : TakesChoice w (answer past c.args.asked.now).0 (answer past c.args.asked.now).1 =
    subst (λ (p : Past). TakesChoice w (answer p c.args.asked.now).0 (answer p c.args.asked.now).1) (ap (λ s. s.past) (sym c.self.view_is)) c.requires.takes in
    let none = choice_idle w c.step.result _ _ takes c.step.ensures.step.0 c.in-None.is in
    record {
      stored = same_stored past c.step.new.self c.args.asked.now _ _ _ c.self.invariant.stored c.step.ensures.step.1 none;
      complete = choice_results past c.step.new.self c.args.asked.now w _ _ c.self.invariant.stored.run takes c.step.ensures.step.1 c.self.invariant.complete;
      room = rw c.step.ensures.step.1 c.self.invariant.room;
      rests = λ free. still_rests past c.step.new.self c.args.asked.now [] _ _ _ c.self.invariant.stored c.step.ensures.step.1 none refl (c.self.invariant.rests free);
    }

pub returns-in-None-clause-fits : goal.returns-in-None-clause-fits
returns-in-None-clause-fits g c =
    let past = c.self.inside.machine in
    let w = c.args.hand.now.worker in
    let takes : TakesChoice w (answer past c.args.asked.now).0 (answer past c.args.asked.now).1 =
    subst (λ (p : Past). TakesChoice w (answer p c.args.asked.now).0 (answer p c.args.asked.now).1) (ap (λ s. s.past) (sym c.self.view_is)) c.requires.takes in
    let fits : Fits past c.args.hand.now = subst (λ p. Fits p c.args.hand.now) (ap (λ s. s.past) (sym c.self.view_is)) c.requires.fits in
    let none = choice_idle w c.step.result _ _ takes c.step.ensures.step.0 c.in-None.is in
    chosen_same_fits past c.step.new.self c.args.hand.now _ fits c.step.ensures.step.1 none

pub invariant_of-self-in-Normal : goal.invariant_of-self-in-Normal
invariant_of-self-in-Normal g c =
    let past = c.self.inside.machine in
    let w = c.args.hand.now.worker in
    let takes : TakesChoice w (answer past c.args.asked.now).0 (answer past c.args.asked.now).1 =
    subst (λ (p : Past). TakesChoice w (answer p c.args.asked.now).0 (answer p c.args.asked.now).1) (ap (λ s. s.past) (sym c.self.view_is)) c.requires.takes in
    let none = choice_normal w c.step.result _ _ takes c.step.ensures.step.0 c.in-Normal.is in
    record {
      stored = same_stored past c.step.new.self c.args.asked.now _ _ _ c.self.invariant.stored c.step.ensures.step.1 none;
      complete = choice_results past c.step.new.self c.args.asked.now w _ _ c.self.invariant.stored.run takes c.step.ensures.step.1 c.self.invariant.complete;
      room = rw c.step.ensures.step.1 c.self.invariant.room;
      rests = λ free. still_rests past c.step.new.self c.args.asked.now [] _ _ _ c.self.invariant.stored c.step.ensures.step.1 none refl (c.self.invariant.rests free);
    }

pub returns-in-Normal-clause-fits : goal.returns-in-Normal-clause-fits
returns-in-Normal-clause-fits g c =
    let past = c.self.inside.machine in
    let w = c.args.hand.now.worker in
    let takes : TakesChoice w (answer past c.args.asked.now).0 (answer past c.args.asked.now).1 =
    subst (λ (p : Past). TakesChoice w (answer p c.args.asked.now).0 (answer p c.args.asked.now).1) (ap (λ s. s.past) (sym c.self.view_is)) c.requires.takes in
    let fits : Fits past c.args.hand.now = subst (λ p. Fits p c.args.hand.now) (ap (λ s. s.past) (sym c.self.view_is)) c.requires.fits in
    let none = choice_normal w c.step.result _ _ takes c.step.ensures.step.0 c.in-Normal.is in
    chosen_same_fits past c.step.new.self c.args.hand.now _ fits c.step.ensures.step.1 none

pub invariant_of-self-in-Exceptional : goal.invariant_of-self-in-Exceptional
invariant_of-self-in-Exceptional g c =
    let past = c.self.inside.machine in
    let w = c.args.hand.now.worker in
    let takes : TakesChoice w (answer past c.args.asked.now).0 (answer past c.args.asked.now).1 =
    subst (λ (p : Past). TakesChoice w (answer p c.args.asked.now).0 (answer p c.args.asked.now).1) (ap (λ s. s.past) (sym c.self.view_is)) c.requires.takes in
    let none = choice_failed w c.in-Exceptional.code c.step.result _ _ takes c.step.ensures.step.0 c.in-Exceptional.is in
    record {
      stored = same_stored past c.step.new.self c.args.asked.now _ _ _ c.self.invariant.stored c.step.ensures.step.1 none;
      complete = choice_results past c.step.new.self c.args.asked.now w _ _ c.self.invariant.stored.run takes c.step.ensures.step.1 c.self.invariant.complete;
      room = rw c.step.ensures.step.1 c.self.invariant.room;
      rests = λ free. still_rests past c.step.new.self c.args.asked.now [] _ _ _ c.self.invariant.stored c.step.ensures.step.1 none refl (c.self.invariant.rests free);
    }

pub returns-in-Exceptional-clause-fits : goal.returns-in-Exceptional-clause-fits
returns-in-Exceptional-clause-fits g c =
    let past = c.self.inside.machine in
    let w = c.args.hand.now.worker in
    let takes : TakesChoice w (answer past c.args.asked.now).0 (answer past c.args.asked.now).1 =
    subst (λ (p : Past). TakesChoice w (answer p c.args.asked.now).0 (answer p c.args.asked.now).1) (ap (λ s. s.past) (sym c.self.view_is)) c.requires.takes in
    let fits : Fits past c.args.hand.now = subst (λ p. Fits p c.args.hand.now) (ap (λ s. s.past) (sym c.self.view_is)) c.requires.fits in
    let none = choice_failed w c.in-Exceptional.code c.step.result _ _ takes c.step.ensures.step.0 c.in-Exceptional.is in
    chosen_same_fits past c.step.new.self c.args.hand.now _ fits c.step.ensures.step.1 none

pub invariant_of-self-in-Cancelled : goal.invariant_of-self-in-Cancelled
invariant_of-self-in-Cancelled g c =
    let past = c.self.inside.machine in
    let w = c.args.hand.now.worker in
    let takes : TakesChoice w (answer past c.args.asked.now).0 (answer past c.args.asked.now).1 =
    subst (λ (p : Past). TakesChoice w (answer p c.args.asked.now).0 (answer p c.args.asked.now).1) (ap (λ s. s.past) (sym c.self.view_is)) c.requires.takes in
    let none = choice_cancelled w c.step.result _ _ takes c.step.ensures.step.0 c.in-Cancelled.is in
    record {
      stored = same_stored past c.step.new.self c.args.asked.now _ _ _ c.self.invariant.stored c.step.ensures.step.1 none;
      complete = choice_results past c.step.new.self c.args.asked.now w _ _ c.self.invariant.stored.run takes c.step.ensures.step.1 c.self.invariant.complete;
      room = rw c.step.ensures.step.1 c.self.invariant.room;
      rests = λ free. still_rests past c.step.new.self c.args.asked.now [] _ _ _ c.self.invariant.stored c.step.ensures.step.1 none refl (c.self.invariant.rests free);
    }

pub returns-in-Cancelled-clause-fits : goal.returns-in-Cancelled-clause-fits
returns-in-Cancelled-clause-fits g c =
    let past = c.self.inside.machine in
    let w = c.args.hand.now.worker in
    let takes : TakesChoice w (answer past c.args.asked.now).0 (answer past c.args.asked.now).1 =
    subst (λ (p : Past). TakesChoice w (answer p c.args.asked.now).0 (answer p c.args.asked.now).1) (ap (λ s. s.past) (sym c.self.view_is)) c.requires.takes in
    let fits : Fits past c.args.hand.now = subst (λ p. Fits p c.args.hand.now) (ap (λ s. s.past) (sym c.self.view_is)) c.requires.fits in
    let none = choice_cancelled w c.step.result _ _ takes c.step.ensures.step.0 c.in-Cancelled.is in
    chosen_same_fits past c.step.new.self c.args.hand.now _ fits c.step.ensures.step.1 none
