use Rattle.std.proofs.Common.{refl, ◌∙◌}
use Rattle.fj_body.specs.declared.body.Told.TheVariants as told
use Rattle.fj_guarded.proofs.Keeping.{keeps_fit, keeps_others, none_keeps, others_of, others_then}
use Rattle.fj_guarded.proofs.Stuck.{acts_stuck}
use Rattle.fj_guarded.proofs.guarded.Guarded.serve_ask.Goals as goal

pub returns-in-Hear : goal.returns-in-Hear
returns-in-Hear g c =
    let acted = c.in-Hear.ensures in record {
      serves = record { told = told.Hear c.in-Hear.heard; mid = c.note_and_act-told.new.self; held = c.note_and_act-told.new.hand; acts = acted.acts; others = acted.others; goes_on = ((refl, refl), refl) };
      right = acted.right;
      leaves = tt;
      fits = acted.fits;
      others = acted.keeps;
      worker = acted.worker;
    }

pub returns-in-Run : goal.returns-in-Run
returns-in-Run g c =
    let acted = c.in-Run.ensures in record {
      serves = record { told = told.Run c.in-Run.t; mid = c.note_and_act-told.new.self; held = c.note_and_act-told.new.hand; acts = acted.acts; others = acted.others; goes_on = ((refl, refl), refl) };
      right = tt;
      leaves = tt;
      fits = acted.fits;
      others = acted.keeps;
      worker = acted.worker;
    }

pub returns-in-Skip : goal.returns-in-Skip
returns-in-Skip g c =
    let acted = c.in-Skip.ensures in
    rw c.skip.ensures (record {
      serves = record { told = told.Skip c.in-Skip.field-0 c.in-Skip.body; mid = c.note_and_act-told.new.self; held = c.note_and_act-told.new.hand; acts = acted.acts; others = acted.others; goes_on = ((refl, refl), refl) };
      right = tt;
      leaves = tt;
      fits = acted.fits;
      others = acted.keeps;
      worker = acted.worker;
    })

pub returns-in-None : goal.returns-in-None
returns-in-None g c =
    let acted = c.in-None.ensures in
    let on = c.after_none.ensures in
    let mid = c.note_and_act-told.new.self in
    let kept = none_keeps g.B.Body.rooted_as c.joined_by-joined.result mid c.after_none.new.self c.after_none.result on.goes_on in record {
      serves = record { told = told.None; mid = mid; held = c.note_and_act-told.new.hand; acts = acted.acts; others = acted.others; goes_on = (rw c.joined_by-joined.ensures at on.goes_on, refl) };
      right = on.right;
      leaves = on.leaves;
      fits = keeps_fit mid.store.past c.after_none.new.self.store.past c.note_and_act-told.new.hand kept acted.fits;
      others = others_then c.args.hand.now.worker c.args.self.now.store.past mid.store.past c.after_none.new.self.store.past acted.keeps (keeps_others c.args.hand.now.worker mid.store.past c.after_none.new.self.store.past kept);
      worker = acted.worker;
    }

pub returns-in-Hook : goal.returns-in-Hook
returns-in-Hook g c =
    let acted = c.in-Hook.ensures in record {
      serves = record { told = told.Hook c.in-Hook.field-0 c.in-Hook.caller; mid = c.note_and_act-told.new.self; held = c.note_and_act-told.new.hand; acts = acted.acts; others = acted.others; goes_on = ((refl, refl), refl) };
      right = tt;
      leaves = tt;
      fits = acted.fits;
      others = acted.keeps;
      worker = acted.worker;
    }

pub returns-in-Over : goal.returns-in-Over
returns-in-Over g c =
    let acted = c.in-Over.ensures in
    let on = c.resume.ensures in record {
      serves = record { told = told.Over c.in-Over.body; mid = c.note_and_act-told.new.self; held = c.note_and_act-told.new.hand; acts = acted.acts; others = acted.others; goes_on = on.resumes };
      right = on.right;
      leaves = on.leaves;
      fits = on.fits;
      others = others_then c.args.hand.now.worker c.args.self.now.store.past c.note_and_act-told.new.self.store.past c.resume.new.self.store.past acted.keeps
          (others_of c.args.hand.now.worker c.note_and_act-told.new.hand.worker c.note_and_act-told.new.self.store.past c.resume.new.self.store.past acted.worker on.others);
      worker = on.worker ∙ acted.worker;
    }

pub leave_stuck-requires : goal.leave_stuck-requires
leave_stuck-requires g c = acts_stuck g.B.Body.key_of _ _ _ _ _ _ c.in-Stuck.ensures.acts

pub returns-in-Stuck : goal.returns-in-Stuck
returns-in-Stuck g c =
    let acted = c.in-Stuck.ensures in
    rw c.leave_stuck.ensures (record {
      serves = record { told = told.Stuck c.in-Stuck.body; mid = c.note_and_act-told.new.self; held = c.note_and_act-told.new.hand; acts = acted.acts; others = acted.others; goes_on = ((refl, refl), refl) };
      right = tt;
      leaves = acts_stuck g.B.Body.key_of _ _ _ _ _ _ acted.acts;
      fits = acted.fits;
      others = acted.keeps;
      worker = acted.worker;
    })
