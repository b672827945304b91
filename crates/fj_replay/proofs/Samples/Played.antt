-- What lines of version 2 come to by the definitions.
use Rattle.std.specs.Prelude.{ℕ, ◌≡◌, List, [], ◌∷◌, map, ⊤}
use Rattle.fj_rules.specs.Answers.{answer}
use Rattle.fj_rules.specs.Bounds.{Pool}
use Rattle.fj_rules.specs.Epochs.{seal_refusal}
use Rattle.fj_rules.proofs.Samples.Scripts.{computing as steps_computing}
use Rattle.fj_lines.specs.Lines.{Line2}
use Rattle.fj_lines.specs.Headings.{start}
use Rattle.fj_replay.specs.declared.replied.Replied.{Replied}
use Rattle.fj_replay.specs.declared.task_naming.TaskNaming.{TaskNaming}
use Rattle.fj_replay.specs.declared.task_naming.TaskNaming.TheVariants.{Numbers, Names}
use Rattle.fj_replay.specs.Plays.{Play, asked_by, play_after, replied}

abbrev pub names_in : TaskNaming → List (List ℕ)
names_in Numbers = []
names_in (Names names) = names

-- the replies to the lines at this play
abbrev pub replied_from : Play → List Line2 → List Replied
replied_from play [] = []
replied_from play (line ∷ later) = replied play (asked_by (names_in play.naming) line) ∷ replied_from (play_after play (asked_by (names_in play.naming) line)) later

-- in a new pool each line has the reply that stands beside it
abbrev pub IsReplied : Pool → List (Line2 × Replied) → Type 0
IsReplied pool script = replied_from (record { past = start pool; naming = Names [] }) (map (λ row. row.0) script) ≡ map (λ row. row.1) script

-- by `unfolding computing` an answer computes what lines come to
unfoldable pub computing : ⊤
unfolding steps_computing answer seal_refusal
computing = tt
