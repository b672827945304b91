-- A line of more than 66 bytes is allowed nowhere in a script.
use Rattle.std.specs.Prelude.{Bool, true, false}
use Rattle.std.proofs.Common.{ℕ, ◌≡◌, ◌<◌, length, arith, List, refl, ap, Option, Some, None}
use Rattle.fj_rules.specs.declared.mode.Mode.{Mode}
use Rattle.fj_rules.specs.declared.step.Step.{Step}
use Rattle.fj_lines.specs.declared.read.line2.TheConstants.{MAX_LINE2}
use Rattle.fj_lines.specs.Lines.{head_in, step_in, Line2, line2_in}
use Rattle.fj_lines.proofs.Reading.PartLaws.{is_text}
use Rattle.fj_lines.proofs.Reading.HeadLaws.{head_short}
use Rattle.fj_lines.proofs.Reading.StepLaws.{step_short}
use Rattle.fj_lines.proofs.Reading.NamedLaws.{line2_short}
use Rattle.fj_replay.specs.declared.task_naming.TaskNaming.{TaskNaming}
use Rattle.fj_replay.specs.declared.task_naming.TaskNaming.TheVariants.{Numbers, Names}
use Rattle.fj_replay.specs.declared.script_stage.ScriptStage.{ScriptStage}
use Rattle.fj_replay.specs.declared.script_stage.ScriptStage.TheVariants.{Start, Titled, Plays, Old, Rewrites}
use Rattle.fj_replay.specs.Plays.{asked_in, is_title}
use Rattle.fj_replay.specs.Stages.{stage_after}

no_head : (l : List ℕ) (o : Option (Mode × List ℕ)) → head_in l ≡ o → MAX_LINE2 < length l → o ≡ None
no_head l None e long = refl
no_head l (Some head) e long = let short = head_short l head e in absurd (omega arith)

no_step : (l : List ℕ) (o : Option Step) → step_in l ≡ o → MAX_LINE2 < length l → o ≡ None
no_step l None e long = refl
no_step l (Some asked) e long = let short = step_short l asked e in absurd (omega arith)

no_line2 : (l : List ℕ) (o : Option Line2) → line2_in l ≡ o → MAX_LINE2 < length l → o ≡ None
no_line2 l None e long = refl
no_line2 l (Some asked) e long = let short = line2_short l asked e in absurd (omega arith)

no_title : (l : List ℕ) (title : Bool) → is_title l ≡ title → MAX_LINE2 < length l → title ≡ false
no_title l true e long = let four = ap length (is_text l _ e) in absurd (omega arith)
no_title l false e long = refl

none_asked : (naming : TaskNaming) (l : List ℕ) → MAX_LINE2 < length l → asked_in naming l ≡ None
none_asked Numbers l long = rw (no_step l (step_in l) refl long) refl
none_asked (Names names) l long = rw (no_line2 l (line2_in l) refl long) refl

pub too_long : (stage : ScriptStage) (l : List ℕ) → MAX_LINE2 < length l → stage_after stage l ≡ None
too_long Start l long = rw (no_title l (is_title l) refl long, no_head l (head_in l) refl long) refl
too_long Titled l long = rw (no_head l (head_in l) refl long) refl
too_long (Plays play) l long = rw (none_asked play.naming l long) refl
too_long Old l long = rw (no_head l (head_in l) refl long) refl
too_long (Rewrites past) l long = rw (no_step l (step_in l) refl long) refl
