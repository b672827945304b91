-- A script of version 1 as version 2, by itself, and the replies to both.
use Rattle.std.specs.Prelude.{ℕ, ◌≡◌, List, [], ◌∷◌, ◌++◌, Option, Some, None, decimal}
use Rattle.fj_lines.specs.declared.read.TheConstants.{LINE_FEED}
use Rattle.fj_rules.specs.declared.step.Step.{Step}
use Rattle.fj_rules.specs.declared.said.Said.{Said}
use Rattle.fj_rules.specs.Bounds.{Bounds, Pool}
use Rattle.fj_lines.specs.Words.{joined}
use Rattle.fj_lines.specs.Replies.{reply_words}
use Rattle.fj_lines.specs.Headings.{pool_in, start}
use Rattle.fj_rules.specs.Tasks.{accepted}
use Rattle.fj_rules.specs.Pasts.{Past, grown}
use Rattle.fj_rules.specs.Answers.{answer}
use Rattle.fj_streams.specs.Cuts.{lines}
use Rattle.fj_replay.specs.Namings.{task_told, words_by}
use Rattle.fj_replay.specs.TaskNames.{task_name, named_line, titled_head}
use Rattle.fj_replay.specs.Scripts.{steps_of, replies, text, up}
use Rattle.fj_replay.specs.Faults.{IsOldScript}

-- ---- the script

-- the lines of the steps at this past
abbrev pub named_lines : Past → List Step → List ℕ
named_lines past [] = []
named_lines past (asked ∷ later) = named_line (accepted past.events) asked ++ named_lines (grown past (answer past asked).1) later

-- what is written of a heading and the steps after it, if a pool can be made
abbrev pub up_by : Option Pool → List ℕ → List Step → List ℕ
up_by None heading asked = []
up_by (Some p) heading asked = titled_head heading ++ named_lines (start p) asked

-- the lines of a script of version 1 as version 2
abbrev pub up_text : List (List ℕ) → List ℕ
up_text [] = []
up_text (heading ∷ others) = up_by (pool_in heading) heading (steps_of others)

-- ---- the replies

-- the line of a reply, where this names the tasks
abbrev pub called_line : (ℕ → List ℕ) → Bounds → Said → List ℕ
called_line name limits reply = joined (words_by name (task_told reply) (reply_words limits reply)) ++ LINE_FEED ∷ []

-- the lines of the replies, concatenated
abbrev pub called_lines : (ℕ → List ℕ) → Bounds → List Said → List ℕ
called_lines name limits [] = []
called_lines name limits (reply ∷ later) = called_line name limits reply ++ called_lines name limits later

-- the replies of a new pool to the steps, if there is one
abbrev pub called_by : (ℕ → List ℕ) → Option Pool → List Step → List ℕ
called_by name None asked = []
called_by name (Some p) asked = called_lines name p.limits (replies (start p) asked)

-- the replies to the lines of a script of version 1, where this names the tasks
abbrev pub called_text : (ℕ → List ℕ) → List (List ℕ) → List ℕ
called_text name [] = []
called_text name (heading ∷ others) = called_by name (pool_in heading) (steps_of others)

-- the replies to the script, and to it as version 2, are the same but for the name of task number T: `T`, and `tT`
pub record KeepsReplies (b : List ℕ) : Type 0 where
  pub numbered : text b ≡ called_text decimal (lines b)
  pub named : text (up b) ≡ called_text task_name (lines b)

-- nothing is written of these bytes, and they are no script of version 1
pub record IsNotUpgraded (b : List ℕ) : Type 0 where
  pub silent : up b ≡ []
  pub no_script : IsOldScript b → ⊥
