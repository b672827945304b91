use Rattle.fj_monitor.proofs.pool.Pool.rest.Goals as goal

pub index-place-requires : goal.index-place-requires
index-place-requires g c = rw (c.place_of.ensures, c.args.self.now.shell.as_many) c.requires
