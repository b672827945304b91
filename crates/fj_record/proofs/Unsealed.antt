-- Runs of which nothing was sealed: each event follows those before it, from a new machine on.
use Rattle.std.proofs.Common.{◌≡◌, List, [], ◌∷◌, ◌++◌, refl, sym, ap, ◌∙◌, subst, arith, append_assoc, append-nil}
use Rattle.fj_rules.specs.declared.event.Event.{Event}
use Rattle.fj_rules.specs.declared.step.Step.{Step}
use Rattle.fj_rules.specs.declared.epoch.Move.{Move}
use Rattle.fj_rules.specs.declared.epoch.Move.TheVariants as move
use Rattle.fj_rules.specs.declared.epoch.Answer.{Answer}
use Rattle.fj_rules.specs.declared.epoch.Answer.TheVariants as gives
use Rattle.fj_rules.specs.Answers.{answer}
use Rattle.fj_rules.specs.Bounds.{Pool}
use Rattle.fj_rules.specs.Epochs.{IsPast, Moves, MovesFrom}
use Rattle.fj_rules.specs.Follows.{AllFollow}
use Rattle.fj_rules.specs.Pasts.{Past, fresh, grown}
use Rattle.fj_rules.proofs.Steps.AnswersAllowed.{past_more}
use Rattle.fj_rules.proofs.Steps.Following.{answer_follows}

abbrev start : Pool → Past
start pool = fresh pool.mode pool.limits

-- ---- events behind events

follow_then : (past : Past) (es fs : List Event) → AllFollow past es → AllFollow (grown past es) fs → AllFollow past (es ++ fs)
follow_then past [] fs first second = rw append-nil at second
follow_then past (e ∷ es) fs first second = (first.0, follow_then (grown past (e ∷ [])) es fs first.1 (rw (← append_assoc past.events (e ∷ []) es) at second))

-- ---- runs

-- it is what its events make of a new pool, and each of them follows those before it
pub record IsGrown (past : Past) : Type 0 where
  pub same : past ≡ grown (start past.pool) past.events
  pub follow : AllFollow (start past.pool) past.events

abbrev IsGrownUnsealed : Past → Type 0
IsGrownUnsealed past = past.seals ≡ 0 → IsGrown past

step_grown : (old : Past) (asked : Step) → IsPast old → IsGrown old → IsGrown (grown old (answer old asked).1)
step_grown old asked run before =
    let es = (answer old asked).1 in
    record {
      same = ap (λ (p : Past). grown p es) before.same;
      follow = follow_then (start old.pool) old.events es before.follow (subst (λ (p : Past). AllFollow p es) before.same (answer_follows old asked run));
    }

move_grown : (old : Past) (asked : Move) (told : Answer) (new : Past) → IsPast old → IsGrownUnsealed old → Moves old asked told new → IsGrownUnsealed new
move_grown old (move.Step asked) (gives.Said reply) new run before made = λ none.
    subst IsGrown (sym made.1) (step_grown old asked run (before (sym (ap (λ (p : Past). p.seals) made.1) ∙ none)))
move_grown old (move.Step asked) gives.Sealed new run before made = absurd made
move_grown old (move.Step asked) (gives.Refused refusal) new run before made = absurd made
move_grown old move.Seal (gives.Said reply) new run before made = absurd made
move_grown old move.Seal gives.Sealed new run before made = λ none. let one = ap (λ (p : Past). p.seals) made.1 in absurd (omega (arith, none, one))
move_grown old move.Seal (gives.Refused refusal) new run before made = subst IsGrownUnsealed (sym made.1) before

moves_grown : (old : Past) (moves : List Move) (answers : List Answer) (new : Past) → IsPast old → IsGrownUnsealed old → MovesFrom old moves answers new → IsGrownUnsealed new
moves_grown old [] [] new past before run = subst IsGrownUnsealed (sym run) before
moves_grown old (asked ∷ moves) (told ∷ answers) new past before run =
    moves_grown run.0 moves answers new (past_more old asked told run.0 past run.1) (move_grown old asked told run.0 past before run.1) run.2
moves_grown old [] (told ∷ answers) new past before run = absurd run
moves_grown old (asked ∷ moves) [] new past before run = absurd run

pub past_grown : (past : Past) → IsPast past → past.seals ≡ 0 → IsGrown past
past_grown past run = moves_grown (fresh past.pool.mode past.pool.limits) run.0 run.1 past ([], [], refl) (λ none. record { same = refl; follow = tt }) run.2
