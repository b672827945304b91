-- One more step of a run.
use Rattle.std.proofs.Common.{ℕ, ◌≡◌, ◌+◌, ◌<◌, List, [], ◌∷◌, ◌++◌, length, take, get_or, ap, sym, ◌∙◌}
use Rattle.std.proofs.lemmas.List.{take_more}
use Rattle.fj_rules.specs.declared.step.Step.{Step}
use Rattle.fj_rules.specs.declared.said.Said.{Said}
use Rattle.fj_rules.specs.Bounds.{Pool}
use Rattle.fj_rules.specs.Pasts.{Past}
use Rattle.fj_rules.specs.Runs.{Steps, RunsFrom}
use Rattle.fj_rules.proofs.Steps.AnswersAllowed.{runs_more}

pub step_pool : (old new : Past) (asked : Step) (said : Said) (given : Pool) → old.pool ≡ given → Steps old asked said new → new.pool ≡ given
step_pool old new asked said given is step = ap (λ (p : Past). p.pool) step.1 ∙ is

pub run_step : (start : Past) (steps : List Step) (i : ℕ) (replies : List Said) (old new : Past) (asked : Step) (said : Said)
    → RunsFrom start (take i steps) replies old → i < length steps → asked ≡ get_or steps i asked → Steps old asked said new
    → RunsFrom start (take (i + 1) steps) (replies ++ said ∷ []) new
run_step start steps i replies old new asked said run within next step =
    rw (take_more steps i asked within, sym next) (runs_more start (take i steps) replies old asked said new run step)
