use Rattle.fj_body.proofs.Acts.{takes_leave}
use Rattle.fj_bodies.proofs.Bare.{still_fits}
use Rattle.fj_bodies.proofs.store.Store.serve_hook.Goals as goal

pub returns-in-Take-clause-fits : goal.returns-in-Take-clause-fits
returns-in-Take-clause-fits g c = still_fits _ _ _ (takes_leave _ _ _ _ c.take.ensures.takes).hands c.requires.fits
