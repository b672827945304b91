use Rattle.std.proofs.Common.{suc, ap, ◌∙◌}
use Rattle.fj_guarded.proofs.Keeping.{others_of, others_then}
use Rattle.fj_guarded.proofs.guarded.Guarded.poll_again.Goals as goal

pub loop-skip-preserved : goal.loop-skip-preserved
loop-skip-preserved g c =
    let before = c.loop-skip.invariant in
    let polled = c.in-Skip.ensures in record {
      skipped = (suc before.skipped.0, (c.loop-skip.self, c.loop-skip.hand, before.skipped.1, record { task = c.in-Skip.field-0; body = c.in-Skip.body; polls = polled.polls; others = polled.others }));
      fits = polled.fits;
      idle = (ap (λ h. h.stack) polled.polls.2 ∙ before.idle.0, ap (λ h. h.hook) polled.polls.2 ∙ before.idle.1);
      others = others_then c.args.hand.now.worker c.args.self.now.store.past c.loop-skip.self.store.past c.poll.new.self.store.past before.others
          (others_of c.args.hand.now.worker c.loop-skip.hand.worker c.loop-skip.self.store.past c.poll.new.self.store.past before.worker polled.keeps);
      worker = polled.worker ∙ before.worker;
    }

pub returns-in_default : goal.returns-in_default
returns-in_default g c =
    let before = c.loop-skip.invariant in
    let polled = c.poll.ensures in
    let after = c.after_poll.ensures in
    let same = after.same in record {
      polls = rw same (record {
        skipped = before.skipped.0;
        mid = c.loop-skip.self;
        between = c.loop-skip.hand;
        skips = before.skipped.1;
        polls = record { told = c.poll.result; polls = polled.polls; others = polled.others; next_is = after.next };
      });
      right = after.right;
      leaves = after.leaves;
      fits = rw same polled.fits;
      others = rw same (others_then c.args.hand.now.worker c.args.self.now.store.past c.loop-skip.self.store.past c.poll.new.self.store.past before.others
          (others_of c.args.hand.now.worker c.loop-skip.hand.worker c.loop-skip.self.store.past c.poll.new.self.store.past before.worker polled.keeps));
      worker = polled.worker ∙ before.worker;
    }
