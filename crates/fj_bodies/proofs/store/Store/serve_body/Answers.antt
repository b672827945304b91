use Rattle.std.proofs.Common.{refl}
use Rattle.fj_body.proofs.Acts.{accepts_leave, lets_leave, takes_leave, adds_leave, quiets_leave, settles_leave, shows_leave}
use Rattle.fj_bodies.proofs.Bare.{still_fits}
use Rattle.fj_bodies.proofs.store.Store.serve_body.Goals as goal

pub returns-in-Fork-clause-fits : goal.returns-in-Fork-clause-fits
returns-in-Fork-clause-fits g c = still_fits _ _ _ (accepts_leave _ _ _ _ _ refl refl c.fork.ensures).hands c.requires.fits

pub returns-in-Trigger-clause-fits : goal.returns-in-Trigger-clause-fits
returns-in-Trigger-clause-fits g c = still_fits _ _ _ (accepts_leave _ _ _ _ _ refl refl c.trigger.ensures).hands c.requires.fits

pub returns-in-Take-clause-fits : goal.returns-in-Take-clause-fits
returns-in-Take-clause-fits g c = still_fits _ _ _ (takes_leave _ _ _ _ c.take.ensures.takes).hands c.requires.fits

pub returns-in-Release-clause-fits : goal.returns-in-Release-clause-fits
returns-in-Release-clause-fits g c = still_fits _ _ _ (lets_leave c.args.self.now c.release.new.self c.in-Release.t c.release.result c.release.ensures).hands c.requires.fits

pub returns-in-Add-clause-fits : goal.returns-in-Add-clause-fits
returns-in-Add-clause-fits g c = still_fits _ _ _ (adds_leave _ _ _ _ refl refl c.add.ensures).hands c.requires.fits

pub returns-in-QuietRoot-clause-fits : goal.returns-in-QuietRoot-clause-fits
returns-in-QuietRoot-clause-fits g c = still_fits _ _ _ (quiets_leave _ _ _ _ refl refl c.quiet_root.ensures).hands c.requires.fits

pub returns-in-Cancel-clause-fits : goal.returns-in-Cancel-clause-fits
returns-in-Cancel-clause-fits g c = still_fits _ _ _ (settles_leave _ _ _ _ refl refl c.cancel.ensures).hands c.requires.fits

pub returns-in-Fault-clause-fits : goal.returns-in-Fault-clause-fits
returns-in-Fault-clause-fits g c = still_fits _ _ _ (settles_leave _ _ _ _ refl refl c.fault.ensures).hands c.requires.fits

pub returns-in-State-clause-fits : goal.returns-in-State-clause-fits
returns-in-State-clause-fits g c = still_fits _ _ _ (shows_leave _ _ _ _ refl refl c.state.ensures).hands c.requires.fits
