-- The heading of a history: the mode of its pool, and the limits.
use Rattle.std.specs.Prelude.{ℕ, List, [], ◌∷◌}
use Rattle.fj_rules.specs.declared.mode.Mode.{Mode}
use Rattle.fj_rules.specs.Bounds.{Bounds}
use Rattle.fj_lines.specs.Lines.{head_line}

-- the mode, and the numbers of workers, submitters, tasks and events
abbrev pub heading : Mode → Bounds → Mode × List ℕ
heading mode limits = (mode, limits.workers ∷ limits.submitters ∷ limits.tasks ∷ limits.events ∷ [])

-- its line, without the line feed
abbrev pub heading_line : Mode → Bounds → List ℕ
heading_line mode limits = head_line (heading mode limits)
