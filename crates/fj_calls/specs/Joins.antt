-- What a worker may wait for.
use Rattle.std.specs.Prelude.{ℕ, ◌&&◌, Bool, not}
use Rattle.fj_rules.specs.Statuses.{status, is_undone}
use Rattle.fj_rules.specs.Tasks.{is_kept}
use Rattle.fj_calls.specs.Cores.{CoreState}

-- whether a worker may still wait for the end of a task: it is kept and undone, and the core is not stuck
abbrev pub is_joinable : {B K O : Type 0} → CoreState B K O → ℕ → Bool
is_joinable core t = not core.store.stuck && (is_kept core.store.past.events t && is_undone (status core.store.past.events t))
