-- One more move of a run with seals.
use Rattle.std.proofs.Common.{ℕ, ◌≡◌, ◌+◌, ◌<◌, List, [], ◌∷◌, ◌++◌, length, take, get_or, sym, ◌∙◌}
use Rattle.std.proofs.lemmas.List.{take_more}
use Rattle.fj_rules.specs.declared.mode.Mode.{Mode}
use Rattle.fj_rules.specs.declared.epoch.Move.{Move}
use Rattle.fj_rules.specs.declared.epoch.Answer.{Answer}
use Rattle.fj_rules.specs.Bounds.{Bounds, Pool}
use Rattle.fj_rules.specs.Pasts.{Past, fresh}
use Rattle.fj_rules.specs.Epochs.{Moves, MovesFrom, IsPast}
use Rattle.fj_rules.proofs.Steps.AnswersAllowed.{moves_more, move_pool, past_of}

pub move_keeps : (old new : Past) (asked : Move) (given : Answer) (pool : Pool) → old.pool ≡ pool → Moves old asked given new → new.pool ≡ pool
move_keeps old new asked given pool is made = move_pool old asked given new made ∙ is

pub run_move : (start : Past) (moves : List Move) (i : ℕ) (answers : List Answer) (old new : Past) (asked : Move) (given : Answer)
    → MovesFrom start (take i moves) answers old → i < length moves → asked ≡ get_or moves i asked → Moves old asked given new
    → MovesFrom start (take (i + 1) moves) (answers ++ given ∷ []) new
run_move start moves i answers old new asked given run within next made =
    rw (take_more moves i asked within, sym next) (moves_more start (take i moves) answers old asked given new run made)

-- such a run is a run of a machine made so
pub run_past : (mode : Mode) (limits : Bounds) (moves : List Move) (answers : List Answer) (past : Past) → past.pool ≡ (record { mode = mode; limits = limits }) → MovesFrom (fresh mode limits) moves answers past → IsPast past
run_past mode limits moves answers past is run = past_of (fresh mode limits) moves answers past (sym is) run
