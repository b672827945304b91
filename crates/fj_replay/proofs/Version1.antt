-- What is replied to a script of version 1, by itself.
use Rattle.std.specs.Prelude.{false, option_map}
use Rattle.std.specs.Option.{option_map_or}
use Rattle.std.proofs.Common.{ℕ, ◌≡◌, List, [], ◌∷◌, ◌++◌, refl, ap, sym, ◌∙◌, Option, Some, None}
use Rattle.fj_rules.specs.declared.step.Step.{Step}
use Rattle.fj_rules.specs.declared.said.Said.{Said}
use Rattle.fj_rules.specs.Bounds.{Bounds, Pool}
use Rattle.fj_rules.specs.Answers.{answer}
use Rattle.fj_rules.specs.Pasts.{Past, grown}
use Rattle.fj_rules.specs.Runs.{RunsFrom}
use Rattle.fj_lines.specs.Lines.{step_in, reply_line}
use Rattle.fj_lines.specs.Headings.{pool_in, start}
use Rattle.fj_replay.specs.declared.task_naming.TaskNaming.TheVariants.{Numbers}
use Rattle.fj_replay.specs.declared.replied.Replied.TheVariants.{Said as Says}
use Rattle.fj_replay.specs.declared.asked.Asked.TheVariants as ask
use Rattle.fj_replay.specs.declared.script_stage.ScriptStage.TheVariants.{Start, Plays}
use Rattle.fj_streams.specs.Cuts.{lines}
use Rattle.fj_replay.specs.Namings.{replied_line}
use Rattle.fj_replay.specs.Plays.{Play, play_after, reply_text}
use Rattle.fj_replay.specs.Scripts.{text_from, text, before_those, steps_of, replies, joined, said, after, numbered_text, AreRun, is_titled}
use Rattle.fj_replay.specs.Stages.{opened}
use Rattle.fj_replay.proofs.NameTables.{numbered_line}

-- a play by numbers
abbrev numbered : Past → Play
numbered past = record { past = past; naming = Numbers }

replied_numbered : (limits : Bounds) (reply : Said) → replied_line Numbers limits (Says reply) ≡ reply_line limits reply
unfolding replied_line
replied_numbered limits reply = sym (numbered_line limits reply)

step_numbered : (past : Past) (o : Option Step) (ls : List (List ℕ)) → ((new : Past) → text_from (Plays (numbered new)) ls ≡ joined new.pool.limits (replies new (steps_of ls)))
    → option_map_or (λ next. option_map_or (λ asked. reply_text (numbered past) asked) (option_map ask.Step o) [] ++ text_from next ls) (option_map (λ asked. Plays (play_after (numbered past) asked)) (option_map ask.Step o)) []
    ≡ joined past.pool.limits (replies past (before_those o (steps_of ls)))
step_numbered past None ls each = refl
step_numbered past (Some asked) ls each =
    ap (λ (line : List ℕ). line ++ text_from (Plays (numbered (grown past (answer past asked).1))) ls) (replied_numbered past.pool.limits (answer past asked).0)
    ∙ ap (λ (later : List ℕ). reply_line past.pool.limits (answer past asked).0 ++ later) (each (grown past (answer past asked).1))

steps_numbered : (past : Past) (ls : List (List ℕ)) → text_from (Plays (numbered past)) ls ≡ joined past.pool.limits (replies past (steps_of ls))
steps_numbered past [] = refl
steps_numbered past (l ∷ ls) = step_numbered past (step_in l) ls (λ new. steps_numbered new ls)

open_numbered : (o : Option Pool) (ls : List (List ℕ)) → option_map_or (λ next. text_from next ls) (opened Numbers o) [] ≡ said o (steps_of ls)
open_numbered None ls = refl
open_numbered (Some p) ls = steps_numbered (start p) ls

lines_numbered : (ls : List (List ℕ)) → is_titled ls ≡ false → text_from Start ls ≡ numbered_text ls
lines_numbered [] e = refl
lines_numbered (l ∷ ls) e = rw e (open_numbered (pool_in l) ls)

-- the replies of the steps, each in its line
pub text_numbered : (b : List ℕ) → is_titled (lines b) ≡ false → text b ≡ numbered_text (lines b)
text_numbered b e = lines_numbered (lines b) e

runs_from : (past : Past) (asked : List Step) → RunsFrom past asked (replies past asked) (after past asked)
runs_from past [] = refl
runs_from past (x ∷ xs) = ((answer past x).1, refl, runs_from (grown past (answer past x).1) xs)

-- the steps with the replies to them are a run
pub are_run : (p : Pool) (asked : List Step) → AreRun p asked
are_run p asked = runs_from (start p) asked
