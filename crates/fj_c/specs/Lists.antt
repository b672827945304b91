-- What is read of the lists of a machine.
use Rattle.std.specs.Prelude.{ℕ, nat_lt, if◌then◌else◌, List, Option, Some, None, slice_get}
use Rattle.fj_rules.specs.declared.refusal.Refusal.TheVariants.{NoSuch, Unknown}
use Rattle.fj_rules.specs.Hooks.{hand}
use Rattle.fj_rules.specs.Tasks.{is_kept, parent}
use Rattle.fj_rules.specs.Pasts.{Past}
use Rattle.fj_rules.specs.Refusals.{refusal_number}
use Rattle.fj_codes.specs.declared.codes.TheConstants as code
use Rattle.fj_codes.specs.declared.replies.Reply.{Reply}
use Rattle.fj_codes.specs.Codings.{reply}

-- a task, if there is one
abbrev pub task_or_none : Option ℕ → Reply
task_or_none (Some t) = reply code.TASK t
task_or_none None = reply code.NO_PLACE 0

-- the task at a place of a list
abbrev pub task_at : List ℕ → ℕ → Reply
task_at tasks place = task_or_none (slice_get tasks place)

abbrev pub hook_or_none : Option ℕ → Reply
hook_or_none (Some c) = reply code.HOOK c
hook_or_none None = reply code.NONE 0

-- the completer whose completion action is in the hand of a worker
abbrev pub hook_in : Past → ℕ → Reply
hook_in past w = if nat_lt w past.pool.limits.workers then hook_or_none (hand past.events w) else reply (refusal_number NoSuch) 0

abbrev pub parent_or_none : Option ℕ → Reply
parent_or_none (Some p) = reply code.TASK p
parent_or_none None = reply code.NONE 0

-- the parent of a kept task
abbrev pub parent_at : Past → ℕ → Reply
parent_at past t = if is_kept past.events t then parent_or_none (parent past.events t) else reply (refusal_number Unknown) 0
