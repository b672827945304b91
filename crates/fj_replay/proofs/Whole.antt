-- A script that is whole, as a replay and as an upgrade tell it.
use Rattle.std.specs.Prelude.{true, false}
use Rattle.std.proofs.Common.{ℕ, ◌≡◌, refl, ◌∙◌, ap, subst, List, Option, Some}
use Rattle.fj_streams.specs.Cuts.{lines}
use Rattle.fj_streams.specs.Faults.{Finishes}
use Rattle.fj_streams.proofs.States.{some_state}
use Rattle.fj_replay.specs.declared.script_stage.ScriptStage.{ScriptStage}
use Rattle.fj_replay.specs.declared.script_stage.ScriptStage.TheVariants.{Start, Titled, Old}
use Rattle.fj_replay.specs.Stages.{has_heading, script_rules}
use Rattle.fj_replay.specs.Scripts.{stage_from}
use Rattle.fj_replay.specs.Faults.{Replays, Upgrades}
use Rattle.fj_replay.proofs.Stages.{old_leads}
use Rattle.fj_replay.proofs.Runs.{is_run}

-- a stage with a heading is none before it
no_stage : (s t : ScriptStage) → has_heading s ≡ false → has_heading t ≡ true → t ≡ s → ⊥
no_stage s t none headed is = let both : has_heading s ≡ true = subst (λ u. has_heading u ≡ true) is headed in absurd cc

pub replays : (last : ScriptStage) (before ahead start now : Option (List ℕ)) → Finishes script_rules Start last before ahead start now → Replays before ahead start now
replays last before ahead start now (b, f) = (
  b,
  record {
    read = f.read;
    whole = f.whole;
    script = record {
      good = some_state (stage_from Start (lines b)) last f.input.good;
      ended = f.input.ended;
      run = is_run b last f.input.good (no_stage Start last refl f.input.headed) (no_stage Titled last refl f.input.headed);
    };
    written = f.written;
  },
)

pub upgrades : (last : ScriptStage) (before ahead start now : Option (List ℕ)) → Finishes script_rules Old last before ahead start now → Upgrades before ahead start now
upgrades last before ahead start now (b, f) =
    let there = old_leads last (lines b) f.input.good f.input.headed in (
      b,
      record {
        read = f.read;
        whole = f.whole;
        script = record { past = there.0; good = f.input.good ∙ ap Some there.1; ended = f.input.ended };
        written = f.written;
      },
    )
