-- The events of each answer are allowed, one after another; so the history of a run is lawful.
use Rattle.std.proofs.Common.{ℕ, ◌≡◌, true, List, [], ◌∷◌, ◌++◌, Option, Some, None, refl, ap, sym, subst, map}
use Rattle.fj_rules.specs.declared.event.Event.{Event}
use Rattle.fj_rules.specs.declared.step.Step.{Step}
use Rattle.fj_rules.specs.declared.epoch.Move.{Move}
use Rattle.fj_rules.specs.declared.epoch.Move.TheVariants as move
use Rattle.fj_rules.specs.declared.epoch.Answer.{Answer}
use Rattle.fj_rules.specs.declared.epoch.Answer.TheVariants as gives
use Rattle.fj_rules.specs.declared.refusal.Refusal.{Refusal}
use Rattle.fj_rules.specs.declared.said.Said.{Said}
use Rattle.fj_rules.specs.Bounds.{Pool}
use Rattle.fj_rules.specs.Tasks.{is_completer}
use Rattle.fj_rules.specs.Allowed.{AllowedFrom}
use Rattle.fj_rules.specs.Answers.{answer, answer_of, refusal_of}
use Rattle.fj_rules.specs.Pasts.{Past, fresh, grown}
use Rattle.fj_rules.specs.Runs.{RunsFrom, Steps}
use Rattle.fj_rules.specs.Epochs.{Moves, MovesFrom, IsPast}
use Rattle.fj_rules.specs.Lists.{is_in}
use Rattle.fj_rules.proofs.Steps.Standing.{allowed_append, stands}
use Rattle.fj_rules.proofs.Steps.StepsAllowed.{step_allowed}
use Rattle.fj_rules.proofs.Steps.StepsClimb.{step_climbs}
use Rattle.fj_rules.specs.Climbs.{climbed, ClimbsCompleters}
use Rattle.fj_rules.proofs.Completers.Climbed.{climbs_more, climbs_none}
pub use Rattle.fj_rules.proofs.Places.StacksTaken.{stack_taken}

-- what holds of the history of every run: its events were allowed, and each event of a climb was at a completer
pub record IsSound (pool : Pool) (h : List Event) : Type 0 where
  pub allowed : AllowedFrom pool [] h
  pub climbs : ClimbsCompleters h

pub sound_allowed : (past : Past) (asked : Step) → IsSound past.pool past.events → AllowedFrom past.pool past.events (answer past asked).1
unfolding answer
sound_allowed past asked sound = go (refusal_of past asked) refl
  where
    go : (r : Option Refusal) → refusal_of past asked ≡ r → AllowedFrom past.pool past.events (answer_of past asked r).1
    go None is = step_allowed past.pool past.events asked sound.allowed sound.climbs (stands past asked is)
    go (Some refusal) is = tt

sound_climbs : (past : Past) (asked : Step) → IsSound past.pool past.events → (c : ℕ) → is_in c (climbed (answer past asked).1) ≡ true → is_completer past.events c ≡ true
unfolding answer climbed
sound_climbs past asked sound c = go (refusal_of past asked) refl
  where
    go : (r : Option Refusal) → refusal_of past asked ≡ r → is_in c (climbed (answer_of past asked r).1) ≡ true → is_completer past.events c ≡ true
    go None is there = step_climbs past.pool past.events asked sound.allowed (stands past asked is) c there
    go (Some refusal) is there = absurd cc

-- ---- whole runs

sound_more : (past : Past) (asked : Step) → IsSound past.pool past.events → IsSound past.pool (past.events ++ (answer past asked).1)
sound_more past asked sound = record {
  allowed = allowed_append past.pool [] past.events (answer past asked).1 sound.allowed (sound_allowed past asked sound);
  climbs = climbs_more past.events (answer past asked).1 sound.climbs (sound_climbs past asked sound);
}

-- a move leaves a sound history sound
pub move_sound : (old : Past) (asked : Move) (told : Answer) (new : Past) → IsSound old.pool old.events → Moves old asked told new → IsSound new.pool new.events
move_sound old (move.Step asked) (gives.Said reply) new sound made = subst (λ (p : Past). IsSound p.pool p.events) (sym made.1) (sound_more old asked sound)
move_sound old (move.Step asked) gives.Sealed new sound made = absurd made
move_sound old (move.Step asked) (gives.Refused refusal) new sound made = absurd made
move_sound old move.Seal (gives.Said reply) new sound made = absurd made
move_sound old move.Seal gives.Sealed new sound made = subst (λ (p : Past). IsSound p.pool p.events) (sym made.1) sound
move_sound old move.Seal (gives.Refused refusal) new sound made = subst (λ (p : Past). IsSound p.pool p.events) (sym made.1) sound

moves_sound : (old : Past) (moves : List Move) (answers : List Answer) (new : Past) → IsSound old.pool old.events → MovesFrom old moves answers new → IsSound new.pool new.events
moves_sound old [] [] new sound run = subst (λ (p : Past). IsSound p.pool p.events) (sym run) sound
moves_sound old (asked ∷ moves) (told ∷ answers) new sound run = moves_sound run.0 moves answers new (move_sound old asked told run.0 sound run.1) run.2
moves_sound old [] (told ∷ answers) new sound run = absurd run
moves_sound old (asked ∷ moves) [] new sound run = absurd run

pub past_sound : (past : Past) → IsPast past → IsSound past.pool past.events
past_sound past run = moves_sound (fresh past.pool.mode past.pool.limits) run.0 run.1 past (record { allowed = tt; climbs = climbs_none }) run.2

-- the events of a run's history were allowed, one after another
pub history_allowed : (past : Past) → IsPast past → AllowedFrom past.pool [] past.events
history_allowed past run = (past_sound past run).allowed

-- the events of an answer are allowed after the history of a run
pub answer_allowed : (past : Past) (asked : Step) → IsPast past → AllowedFrom past.pool past.events (answer past asked).1
answer_allowed past asked run = sound_allowed past asked (past_sound past run)

-- each event of a climb in a run's history is at a completer
pub climbed_completer : (past : Past) (c : ℕ) → IsPast past → is_in c (climbed past.events) ≡ true → is_completer past.events c ≡ true
climbed_completer past c run there = (past_sound past run).climbs c there

-- ---- one move more

pub moves_more : (start : Past) (moves : List Move) (answers : List Answer) (old : Past) (asked : Move) (told : Answer) (new : Past)
    → MovesFrom start moves answers old → Moves old asked told new → MovesFrom start (moves ++ asked ∷ []) (answers ++ told ∷ []) new
moves_more start [] [] old asked told new run made = (new, subst (λ (p : Past). Moves p asked told new) run made, refl)
moves_more start (m ∷ moves) (a ∷ answers) old asked told new run made = (run.0, run.1, moves_more run.0 moves answers old asked told new run.2 made)
moves_more start [] (a ∷ answers) old asked told new run made = absurd run
moves_more start (m ∷ moves) [] old asked told new run made = absurd run

-- a move keeps what the machine was made with
pub move_pool : (old : Past) (asked : Move) (told : Answer) (new : Past) → Moves old asked told new → new.pool ≡ old.pool
move_pool old (move.Step asked) (gives.Said reply) new made = ap (λ (p : Past). p.pool) made.1
move_pool old (move.Step asked) gives.Sealed new made = absurd made
move_pool old (move.Step asked) (gives.Refused refusal) new made = absurd made
move_pool old move.Seal (gives.Said reply) new made = absurd made
move_pool old move.Seal gives.Sealed new made = ap (λ (p : Past). p.pool) made.1
move_pool old move.Seal (gives.Refused refusal) new made = ap (λ (p : Past). p.pool) made.1

-- a run from the start of such a machine
pub past_of : (start : Past) (moves : List Move) (answers : List Answer) (new : Past) → start.pool ≡ new.pool → MovesFrom (fresh start.pool.mode start.pool.limits) moves answers new → IsPast new
past_of start moves answers new same run = (moves, answers, subst (λ (p : Pool). MovesFrom (fresh p.mode p.limits) moves answers new) same run)

pub past_more : (old : Past) (asked : Move) (told : Answer) (new : Past) → IsPast old → Moves old asked told new → IsPast new
past_more old asked told new run made =
    let same = move_pool old asked told new made in (
      run.0 ++ asked ∷ [],
      run.1 ++ told ∷ [],
      subst (λ (p : Pool). MovesFrom (fresh p.mode p.limits) (run.0 ++ asked ∷ []) (run.1 ++ told ∷ []) new) (sym same)
          (moves_more (fresh old.pool.mode old.pool.limits) run.0 run.1 old asked told new run.2 made),
    )

-- ---- steps alone

-- a run of steps is a run
pub steps_run : (old : Past) (steps : List Step) (replies : List Said) (new : Past) → RunsFrom old steps replies new → MovesFrom old (map move.Step steps) (map gives.Said replies) new
steps_run old [] [] new run = run
steps_run old (asked ∷ steps) (reply ∷ replies) new run =
    (grown old run.0, (sym (ap (λ a. a.0) run.1), ap (λ a. grown old a.1) (sym run.1)), steps_run (grown old run.0) steps replies new run.2)
steps_run old [] (reply ∷ replies) new run = absurd run
steps_run old (asked ∷ steps) [] new run = absurd run

pub runs_more : (start : Past) (steps : List Step) (replies : List Said) (old : Past) (asked : Step) (reply : Said) (new : Past)
    → RunsFrom start steps replies old → Steps old asked reply new → RunsFrom start (steps ++ asked ∷ []) (replies ++ reply ∷ []) new
runs_more start [] [] old asked reply new run step = rw (← run) ((answer old asked).1, ap (λ r. (r, (answer old asked).1)) (sym step.0), step.1)
runs_more start (a ∷ steps) (r ∷ replies) old asked reply new run step = (run.0, run.1, runs_more (grown start run.0) steps replies old asked reply new run.2 step)
runs_more start [] (r ∷ replies) old asked reply new run step = absurd run
runs_more start (a ∷ steps) [] old asked reply new run step = absurd run
