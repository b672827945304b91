-- What became of a node.
use Rattle.std.specs.Prelude.{Bool, true, false}
use Rattle.fj_nodes.specs.declared.fate.Fate.{Fate}
use Rattle.fj_nodes.specs.declared.fate.Fate.TheVariants.{Skipped}

-- its work was called
abbrev pub was_called : Fate → Bool
was_called Skipped = false
was_called _ = true
