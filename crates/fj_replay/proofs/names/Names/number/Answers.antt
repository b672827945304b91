use Rattle.std.specs.Str.{bytes_eq}
use Rattle.fj_replay.proofs.NameTables.{place_or_len}
use Rattle.fj_replay.proofs.names.Names.number.Goals as goal

pub returns : goal.returns
returns c = rw (← c.self.view_is) (place_or_len (bytes_eq c.args.name.now) c.self.inside.set.keys c.get_index_of.result _ c.get_index_of.ensures.index (rw (← c.len.ensures.len) c.unwrap_or-place.ensures))
