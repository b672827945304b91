-- How a script is played, line by line.
use Rattle.std.specs.Prelude.{ℕ, Bool, true, false, if◌then◌else◌, List, [], ◌∷◌, length, map, Option, Some, None, option_map, codes}
use Rattle.std.specs.List.{cons_option}
use Rattle.std.specs.Option.{option_map_or}
use Rattle.std.specs.Str.{bytes_eq}
use Rattle.fj_rules.specs.declared.step.Step.TheVariants as step
use Rattle.fj_lines.specs.declared.line.Line.TheVariants as line
use Rattle.fj_rules.specs.declared.event.Event.{Event}
use Rattle.fj_rules.specs.declared.refusal.Refusal.{Refusal}
use Rattle.fj_rules.specs.declared.said.Said.{Said}
use Rattle.fj_rules.specs.declared.said.Said.TheVariants as said
use Rattle.fj_rules.specs.Answers.{answer}
use Rattle.fj_rules.specs.Pasts.{Past, grown, present, sealed_now}
use Rattle.fj_rules.specs.declared.epoch.Move.{Move}
use Rattle.fj_rules.specs.declared.epoch.Move.TheVariants as move
use Rattle.fj_rules.specs.declared.epoch.Answer.{Answer}
use Rattle.fj_rules.specs.declared.epoch.Answer.TheVariants as gives
use Rattle.fj_rules.specs.Epochs.{seal_refusal, MovesFrom}
use Rattle.fj_lines.specs.Lines.{step_in, Line2, line2_in}
use Rattle.fj_replay.specs.declared.task_naming.TaskNaming.{TaskNaming}
use Rattle.fj_replay.specs.declared.task_naming.TaskNaming.TheVariants.{Numbers, Names}
use Rattle.fj_replay.specs.declared.replied.Replied.{Replied}
use Rattle.fj_replay.specs.declared.replied.Replied.TheVariants.{Said as Says, NameTaken, Sealed, Epoch}
use Rattle.fj_replay.specs.declared.asked.Asked.{Asked}
use Rattle.fj_replay.specs.declared.asked.Asked.TheVariants as ask
use Rattle.fj_replay.specs.Namings.{number_of, kind_by, is_named, with_name, replied_line}

-- the state of a script: the past of its machine, and the naming of its tasks
pub record Play : Type 0 where
  pub past : Past
  pub naming : TaskNaming

-- ---- what a line asks for

-- what a line of version 2 asks for, where this tells the number of a name
abbrev pub asked_with : (List ℕ → ℕ) → Line2 → Asked
-- accept
asked_with number (line.Submit name s kind) = ask.Accept name (step.Submit s kind)
asked_with number (line.Fork name w kind) = ask.Accept name (step.Fork w (kind_by number kind))
asked_with number (line.Trigger name w count) = ask.Accept name (step.Trigger w count)
-- take
asked_with number (line.Poll w r) = ask.Step (step.Poll w r)
asked_with number (line.Help w r) = ask.Step (step.Help w r)
asked_with number (line.Join w t r) = ask.Step (step.Join w (number t) r)
-- end
asked_with number (line.End w ending) = ask.Step (step.End w ending)
asked_with number (line.HookDone w) = ask.Step (step.HookDone w)
-- completer
asked_with number (line.Add w c n) = ask.Step (step.Add w (number c) n)
asked_with number (line.QuietRoot w t) = ask.Step (step.QuietRoot w (number t))
-- settle
asked_with number (line.Fault t code) = ask.Step (step.Fault (number t) code)
asked_with number (line.Cancel t) = ask.Step (step.Cancel (number t))
-- shut
asked_with number line.Shutdown = ask.Step step.Shutdown
asked_with number line.Stop = ask.Step step.Stop
-- query
asked_with number line.IsQuiescent = ask.Step step.IsQuiescent
asked_with number (line.State t) = ask.Step (step.State (number t))
-- release
asked_with number (line.Release t) = ask.Step (step.Release (number t))
-- epoch
asked_with number line.Seal = ask.Seal
asked_with number line.Epoch = ask.Epoch

-- the same by the names so far
abbrev pub asked_by : List (List ℕ) → Line2 → Asked
asked_by names line = asked_with (number_of names) line

-- what a line asks for, if it is one: of version 1 by numbers, of version 2 by names
abbrev pub asked_in : TaskNaming → List ℕ → Option Asked
asked_in Numbers text = option_map ask.Step (step_in text)
asked_in (Names names) text = option_map (asked_by names) (line2_in text)

-- ---- replies, and what follows

abbrev pub is_task : Said → Bool
is_task (said.Task t) = true
is_task _ = false

-- the name is the new task's, if the reply accepts one
abbrev pub named_if : TaskNaming → List ℕ → Said → TaskNaming
named_if naming name reply = if is_task reply then with_name naming name else naming

-- after a step with this name
abbrev pub accepting : Play → List ℕ → Said × List Event → Play
accepting play name answer = record { past = grown play.past answer.1; naming = named_if play.naming name answer.0 }

-- after a seal, which may be refused
abbrev pub sealing : Past → Option Refusal → Past
sealing past None = sealed_now past
sealing past (Some refusal) = past

-- the state after what a line asks for
abbrev pub play_after : Play → Asked → Play
play_after play (ask.Step wanted) = record play { past = grown play.past (answer play.past wanted).1 }
play_after play (ask.Accept name wanted) = if is_named play.naming name then play else accepting play name (answer play.past wanted)
play_after play ask.Seal = record play { past = sealing play.past (seal_refusal play.past) }
play_after play ask.Epoch = play

abbrev pub seal_reply : Past → Option Refusal → Replied
seal_reply past None = Sealed past.seals (length (present past))
seal_reply past (Some refusal) = Says (said.Refused refusal)

-- the reply: a name that belongs to a task is refused before the machine is asked
abbrev pub replied : Play → Asked → Replied
replied play (ask.Step wanted) = Says (answer play.past wanted).0
replied play (ask.Accept name wanted) = if is_named play.naming name then NameTaken else Says (answer play.past wanted).0
replied play ask.Seal = seal_reply play.past (seal_refusal play.past)
replied play ask.Epoch = Epoch play.past.seals (length (present play.past))

-- the line of the reply
abbrev pub reply_text : Play → Asked → List ℕ
reply_text play asked = replied_line (play_after play asked).naming play.past.pool.limits (replied play asked)

-- ---- the moves of the machine: steps and seals

-- the move that is asked for, and the answer in the reply. A name that belongs to a task and `epoch` ask the machine for none
abbrev pub move_told : Asked → Replied → Option (Move × Answer)
move_told (ask.Step wanted) (Says reply) = Some (move.Step wanted, gives.Said reply)
move_told (ask.Accept name wanted) (Says reply) = Some (move.Step wanted, gives.Said reply)
move_told ask.Seal (Sealed epoch events) = Some (move.Seal, gives.Sealed)
move_told ask.Seal (Says (said.Refused refusal)) = Some (move.Seal, gives.Refused refusal)
move_told _ _ = None

-- the moves that the lines ask for, up to the first line that is not allowed there, each with the answer in the reply to its line
abbrev pub moves_told : Play → List (List ℕ) → List (Move × Answer)
moves_told play [] = []
moves_told play (text ∷ later) =
    option_map_or (λ asked. cons_option (move_told asked (replied play asked)) (moves_told (play_after play asked) later)) (asked_in play.naming text) []

-- these moves, which lead from the one past to the other, have these answers
abbrev pub AreMoves : Past → List (Move × Answer) → Past → Type 0
AreMoves old made new = MovesFrom old (map (λ m. m.0) made) (map (λ m. m.1) made) new

-- whether a script's first line says that it is of version 2
abbrev pub is_title : List ℕ → Bool
is_title line = bytes_eq line (codes "fj 2")
