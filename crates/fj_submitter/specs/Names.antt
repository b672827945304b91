-- A dummy gate and a dummy pool.
use Rattle.std.specs.Prelude.{[]}
use Rattle.atomic_table.specs.Seated.{TableId}
use Rattle.fj_rules.specs.declared.mode.Mode.TheVariants.{Async}
use Rattle.fj_rules.specs.Bounds.{Pool, bounds}

abbrev pub no_gate : TableId
no_gate = record { words = 0; slots = 0; views_name = 0; atom = 0; block = 0; offset = 0; slot_names = [] }

abbrev pub no_pool : Pool
no_pool = record { mode = Async; limits = bounds 0 0 0 0 }
