use Rattle.std.proofs.Common.{refl}
use Rattle.fj_guarded.proofs.GoesOn.{all_on, shuts_on}
use Rattle.fj_guarded.proofs.Keeping.{shuts_keep}
use Rattle.fj_parts.proofs.Holdings.{kept_still}
use Rattle.fj_parts.proofs.locked.Locked.close_at.Goals as goal

pub invariant_of-self : goal.invariant_of-self
invariant_of-self g c = record {
  ends = kept_still g.N.Naming.hands c.self.inside.guarded.store.past c.close_at.new.self.store.past c.self.inside.ends.items c.self.invariant.ends (shuts_keep _ _ _ c.close_at.ensures);
  log = all_on _ _ _ c.self.invariant.log (shuts_on _ _ _ c.args.number refl c.close_at.ensures);
}
