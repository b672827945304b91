-- The past of a run after one step more, and how long its history is.
use Rattle.std.proofs.Common.{◌≡◌, ◌+◌, ◌≤◌, Bool, true, false, List, [], ◌∷◌, ◌++◌, length, Option, Some, None, refl, sym, subst, arith, length-append}
use Rattle.std.specs.Prelude.{if◌then◌else◌}
use Rattle.std.proofs.lemmas.Bool.{ltb-false}
use Rattle.fj_rules.specs.declared.step.Step.{Step}
use Rattle.fj_rules.specs.declared.refusal.Refusal.{Refusal}
use Rattle.fj_rules.specs.declared.refusal.Refusal.TheVariants.{LogFull}
use Rattle.fj_rules.specs.declared.epoch.Move.{Move}
use Rattle.fj_rules.specs.declared.epoch.Move.TheVariants as move
use Rattle.fj_rules.specs.declared.epoch.Answer.{Answer}
use Rattle.fj_rules.specs.declared.epoch.Answer.TheVariants as gives
use Rattle.fj_rules.specs.Lists.{or_else}
use Rattle.fj_rules.specs.Answers.{answer, answer_of, refusal_of, refusals_of, first_that_stands, events_of, does_not_fit}
use Rattle.fj_rules.specs.Pasts.{Past, fresh, grown, limit}
use Rattle.fj_rules.specs.Epochs.{IsPast, Moves, MovesFrom}
use Rattle.fj_rules.proofs.Steps.AnswersAllowed.{past_more}

-- one step more of a run
pub history_more : (past : Past) (asked : Step) → IsPast past → IsPast (grown past (answer past asked).1)
history_more past asked run = past_more past (move.Step asked) (gives.Said (answer past asked).0) (grown past (answer past asked).1) run (refl, refl)

-- what is not refused fits
made_fits : (past : Past) (asked : Step) → refusal_of past asked ≡ None → does_not_fit past asked ≡ false
unfolding refusal_of
made_fits past asked none = go (first_that_stands (refusals_of past.pool past.events asked)) (does_not_fit past asked) none
  where
    go : (o : Option Refusal) (full : Bool) → or_else o (if full then Some LogFull else None) ≡ None → full ≡ false
    go o false is = refl
    go None true is = absurd cc
    go (Some r) true is = absurd cc

answer_fits : (past : Past) (asked : Step) → length past.events ≤ limit past → length (past.events ++ (answer past asked).1) ≤ limit past
unfolding answer
answer_fits past asked few = go (refusal_of past asked) refl
  where
    go : (r : Option Refusal) → refusal_of past asked ≡ r → length (past.events ++ (answer_of past asked r).1) ≤ limit past
    go None is =
        omega (arith, length-append past.events (events_of past.pool past.events asked), ltb-false (limit past) (length past.events + length (events_of past.pool past.events asked)) (made_fits past asked is))
    go (Some r) is = omega (arith, few, length-append past.events [])

-- a past whose history is within its limit
abbrev IsFit : Past → Type 0
IsFit past = length past.events ≤ limit past

move_fits : (old : Past) (asked : Move) (told : Answer) (new : Past) → IsFit old → Moves old asked told new → IsFit new
move_fits old (move.Step asked) (gives.Said reply) new few made = subst IsFit (sym made.1) (answer_fits old asked few)
move_fits old (move.Step asked) gives.Sealed new few made = absurd made
move_fits old (move.Step asked) (gives.Refused refusal) new few made = absurd made
move_fits old move.Seal (gives.Said reply) new few made = absurd made
move_fits old move.Seal gives.Sealed new few made = subst IsFit (sym made.1) (omega arith)
move_fits old move.Seal (gives.Refused refusal) new few made = subst IsFit (sym made.1) few

moves_fit : (old : Past) (moves : List Move) (answers : List Answer) (new : Past) → IsFit old → MovesFrom old moves answers new → IsFit new
moves_fit old [] [] new few run = subst IsFit (sym run) few
moves_fit old (asked ∷ moves) (told ∷ answers) new few run = moves_fit run.0 moves answers new (move_fits old asked told run.0 few run.1) run.2
moves_fit old [] (told ∷ answers) new few run = absurd run
moves_fit old (asked ∷ moves) [] new few run = absurd run

pub history_fits : (past : Past) → IsPast past → length past.events ≤ limit past
history_fits past run = moves_fit (fresh past.pool.mode past.pool.limits) run.0 run.1 past (omega arith) run.2
