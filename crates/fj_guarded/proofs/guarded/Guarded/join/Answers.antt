use Rattle.std.proofs.Common.{refl}
use Rattle.fj_body.specs.declared.body.Told.TheVariants as told
use Rattle.fj_guarded.proofs.Keeping.{keeps_fit, keeps_others, others_then, waits_keep}
use Rattle.fj_guarded.proofs.Stuck.{acts_stuck, joins_only}
use Rattle.fj_guarded.proofs.guarded.Guarded.join.Goals as goal

pub returns-in-Hear : goal.returns-in-Hear
returns-in-Hear g c =
    let acted = c.in-Hear.ensures in record {
      joins = record { told = told.Hear c.in-Hear.answer; mid = c.act.new.self; acts = acted.acts; others = acted.others; goes_on = (refl, refl) };
      right = acted.right;
      leaves = tt;
      fits = acted.fits;
      others = acted.keeps;
      worker = acted.worker;
    }

pub returns-in-Run : goal.returns-in-Run
returns-in-Run g c =
    let acted = c.in-Run.ensures in record {
      joins = record { told = told.Run c.in-Run.u; mid = c.act.new.self; acts = acted.acts; others = acted.others; goes_on = (refl, refl) };
      right = tt;
      leaves = tt;
      fits = acted.fits;
      others = acted.keeps;
      worker = acted.worker;
    }

pub returns-in-Skip : goal.returns-in-Skip
returns-in-Skip g c =
    let acted = c.in-Skip.ensures in
    rw c.skip.ensures (record {
      joins = record { told = told.Skip c.in-Skip.field-0 c.in-Skip.body; mid = c.act.new.self; acts = acted.acts; others = acted.others; goes_on = (refl, refl) };
      right = tt;
      leaves = tt;
      fits = acted.fits;
      others = acted.keeps;
      worker = acted.worker;
    })

pub returns-in-None : goal.returns-in-None
returns-in-None g c =
    let acted = c.in-None.ensures in
    let on = c.wait_for.ensures in
    let kept = waits_keep g.B.Body.rooted_as c.args.t c.act.new.self c.wait_for.new.self c.wait_for.result on.waits in record {
      joins = record { told = told.None; mid = c.act.new.self; acts = acted.acts; others = acted.others; goes_on = on.waits };
      right = on.right;
      leaves = on.leaves;
      fits = keeps_fit c.act.new.self.store.past c.wait_for.new.self.store.past c.act.new.hand kept acted.fits;
      others = others_then c.args.hand.now.worker c.args.self.now.store.past c.act.new.self.store.past c.wait_for.new.self.store.past acted.keeps (keeps_others c.args.hand.now.worker c.act.new.self.store.past c.wait_for.new.self.store.past kept);
      worker = acted.worker;
    }

pub leave_stuck-requires : goal.leave_stuck-requires
leave_stuck-requires g c = acts_stuck g.B.Body.key_of _ _ _ _ _ _ c.in-Stuck.ensures.acts

pub returns-in-Stuck : goal.returns-in-Stuck
returns-in-Stuck g c =
    let acted = c.in-Stuck.ensures in
    rw c.leave_stuck.ensures (record {
      joins = record { told = told.Stuck c.in-Stuck.body; mid = c.act.new.self; acts = acted.acts; others = acted.others; goes_on = (refl, refl) };
      right = tt;
      leaves = acts_stuck g.B.Body.key_of _ _ _ _ _ _ acted.acts;
      fits = acted.fits;
      others = acted.keeps;
      worker = acted.worker;
    })

pub unreachable-requires : goal.unreachable-requires
unreachable-requires g c = joins_only g.B.Body.key_of _ _ _ _ c.args.t c.act.result c.in_default.not-Hear c.in_default.not-Run c.in_default.not-Skip c.in_default.not-None c.in_default.not-Stuck c.act.ensures.acts
