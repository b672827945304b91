-- What has happened in a play is the history of a run, with seals or without.
use Rattle.std.specs.Prelude.{Bool, true, false, if◌then◌else◌}
use Rattle.std.proofs.Common.{ℕ, ◌≡◌, List, [], refl, Option, Some, None}
use Rattle.fj_rules.specs.declared.step.Step.{Step}
use Rattle.fj_rules.specs.declared.refusal.Refusal.{Refusal}
use Rattle.fj_rules.specs.declared.epoch.Move.TheVariants as move
use Rattle.fj_rules.specs.declared.epoch.Answer.TheVariants as gives
use Rattle.fj_rules.specs.Answers.{answer}
use Rattle.fj_rules.specs.Pasts.{Past, grown, sealed_now}
use Rattle.fj_rules.specs.Epochs.{IsPast, seal_refusal}
use Rattle.fj_rules.proofs.Steps.AnswersAllowed.{past_more}
use Rattle.fj_replay.specs.declared.asked.Asked.{Asked}
use Rattle.fj_replay.specs.declared.asked.Asked.TheVariants as ask
use Rattle.fj_replay.specs.declared.script_stage.ScriptStage.{ScriptStage}
use Rattle.fj_replay.specs.declared.script_stage.ScriptStage.TheVariants.{Start, Titled, Plays, Old, Rewrites}
use Rattle.fj_streams.specs.Cuts.{lines}
use Rattle.fj_replay.specs.Plays.{Play, play_after, accepting, sealing}
use Rattle.fj_replay.specs.Scripts.{stage_from, IsRun}
use Rattle.fj_replay.proofs.Kept.{IsKept, Holds, holds_of}

pub step_past : (past : Past) (asked : Step) → IsPast past → IsPast (grown past (answer past asked).1)
step_past past asked run = past_more past (move.Step asked) (gives.Said (answer past asked).0) (grown past (answer past asked).1) run (refl, refl)

accept_past : (taken : Bool) (play : Play) (name : List ℕ) (asked : Step) → IsPast play.past → IsPast (if taken then play else accepting play name (answer play.past asked)).past
accept_past true play name asked run = run
accept_past false play name asked run = step_past play.past asked run

seal_past : (refusal : Option Refusal) (past : Past) → seal_refusal past ≡ refusal → IsPast past → IsPast (sealing past refusal)
seal_past None past is run = past_more past move.Seal gives.Sealed (sealed_now past) run (is, refl)
seal_past (Some refusal) past is run = run

pub play_past : (play : Play) (asked : Asked) → IsPast play.past → IsPast (play_after play asked).past
play_past play (ask.Step asked) run = step_past play.past asked run
play_past play (ask.Accept name asked) run = accept_past _ play name asked run
play_past play ask.Seal run = seal_past (seal_refusal play.past) play.past refl run
play_past play ask.Epoch run = run

abbrev HasRun : Play → Type 0
HasRun play = IsPast play.past

-- it is kept at each line
pub run_kept : IsKept HasRun
run_kept = record { numbers = λ p. ([], [], refl); names = λ p. ([], [], refl); more = λ play line asked is run. play_past play asked run }

is_run_at : (b : List ℕ) (t : ScriptStage) → stage_from Start (lines b) ≡ Some t → Holds HasRun t → (t ≡ Start → ⊥) → (t ≡ Titled → ⊥) → IsRun b
is_run_at b Start e run no_start no_title = absurd (no_start refl)
is_run_at b Titled e run no_start no_title = absurd (no_title refl)
is_run_at b (Plays play) e run no_start no_title = (play, e, run)
is_run_at b Old e run no_start no_title = absurd run
is_run_at b (Rewrites past) e run no_start no_title = absurd run

-- where the heading has come, there is a run
pub is_run : (b : List ℕ) (t : ScriptStage) → stage_from Start (lines b) ≡ Some t → (t ≡ Start → ⊥) → (t ≡ Titled → ⊥) → IsRun b
is_run b t e no_start no_title = is_run_at b t e (holds_of HasRun t (lines b) run_kept e) no_start no_title
