use Rattle.std.proofs.Common.{ℕ, zero, suc, refl, sym, subst, ◌∙◌}
use Rattle.fj_body.specs.declared.body.Told.TheVariants as told
use Rattle.fj_calls.specs.Cores.{CoreState}
use Rattle.fj_slots.specs.Hands.{HandState}
use Rattle.fj_guarded.specs.Working.{Skips, SkipsOnce}
use Rattle.fj_guarded.proofs.Keeping.{others_of, others_then}
use Rattle.fj_guarded.proofs.Stuck.{polls_only, polls_stuck}
use Rattle.fj_guarded.proofs.guarded.Guarded.poll_on.Goals as goal

module _ {B K O : Type 0} where
  -- one is skipped, and then so many
  skips_first : (n : ℕ) (old mid new : CoreState B K O) (hand between hand' : HandState B) → SkipsOnce old hand mid between → Skips n mid between new hand' → Skips (suc n) old hand new hand'
  skips_first zero old mid new hand between hand' once (same, same') =
      (old, hand, (refl, refl), subst (λ c. SkipsOnce old hand c hand') (sym same) (subst (SkipsOnce old hand mid) (sym same') once))
  skips_first (suc n) old mid new hand between hand' once (last, held, before, then) = (last, held, skips_first n old mid last hand between held once before, then)

pub returns-in-Run : goal.returns-in-Run
returns-in-Run g c =
    let polled = c.in-Run.ensures in record {
      polls = record { skipped = zero; mid = c.args.self.now; between = c.args.hand.now; skips = (refl, refl); polls = record { told = told.Run c.in-Run.t; polls = polled.polls; others = polled.others; next_is = refl } };
      right = tt;
      leaves = tt;
      fits = polled.fits;
      others = polled.keeps;
      worker = polled.worker;
    }

pub returns-in-Skip : goal.returns-in-Skip
returns-in-Skip g c =
    let polled = c.in-Skip.ensures in
    let again = c.poll_again.ensures in
    let on = again.polls in record {
      polls = record {
        skipped = suc on.skipped;
        mid = on.mid;
        between = on.between;
        skips = skips_first on.skipped c.args.self.now c.poll.new.self on.mid c.args.hand.now c.poll.new.hand on.between
            (record { task = c.in-Skip.field-0; body = c.in-Skip.body; polls = polled.polls; others = polled.others }) on.skips;
        polls = on.polls;
      };
      right = again.right;
      leaves = again.leaves;
      fits = again.fits;
      others = others_then c.args.hand.now.worker c.args.self.now.store.past c.poll.new.self.store.past c.poll_again.new.self.store.past polled.keeps
          (others_of c.args.hand.now.worker c.poll.new.hand.worker c.poll.new.self.store.past c.poll_again.new.self.store.past polled.worker again.others);
      worker = again.worker ∙ polled.worker;
    }

pub returns-in-None : goal.returns-in-None
returns-in-None g c =
    let polled = c.in-None.ensures in
    let after = c.after_no_task.ensures in record {
      polls = rw after.next.1 (record {
        skipped = zero;
        mid = c.args.self.now;
        between = c.args.hand.now;
        skips = (refl, refl);
        polls = record { told = told.None; polls = polled.polls; others = polled.others; next_is = after.next.0 };
      });
      right = after.right;
      leaves = after.leaves;
      fits = rw after.next.1 polled.fits;
      others = rw after.next.1 polled.keeps;
      worker = polled.worker;
    }

pub leave_stuck-requires : goal.leave_stuck-requires
leave_stuck-requires g c = polls_stuck _ _ _ _ _ c.in-Stuck.ensures.polls

pub returns-in-Stuck : goal.returns-in-Stuck
returns-in-Stuck g c =
    let polled = c.in-Stuck.ensures in
    rw c.leave_stuck.ensures (record {
      polls = record { skipped = zero; mid = c.args.self.now; between = c.args.hand.now; skips = (refl, refl); polls = record { told = told.Stuck c.in-Stuck.body; polls = polled.polls; others = polled.others; next_is = refl } };
      right = tt;
      leaves = polls_stuck _ _ _ _ _ polled.polls;
      fits = polled.fits;
      others = polled.keeps;
      worker = polled.worker;
    })

pub unreachable-requires : goal.unreachable-requires
unreachable-requires g c = polls_only _ _ _ _ c.poll.result c.in_default.not-Run c.in_default.not-Skip c.in_default.not-None c.in_default.not-Stuck c.poll.ensures.polls
