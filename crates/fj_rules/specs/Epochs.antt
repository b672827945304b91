-- Runs with seals, by which a machine hands its history out in parts.
use Rattle.std.specs.Prelude.{◌≡◌, Bool, ◌||◌, not, ◌+◌, ◌⊎◌, nat_lt, List, [], ◌∷◌, length, Option, Some, None}
use Rattle.fj_rules.specs.declared.epoch.TheConstants.{MAX_EVENTS_AND_SEALS}
use Rattle.fj_rules.specs.declared.refusal.Refusal.{Refusal}
use Rattle.fj_rules.specs.declared.refusal.Refusal.TheVariants.{Closed, LogFull, NotIdle, OutOfMemory}
use Rattle.fj_rules.specs.declared.said.Said.{Said as Reply}
use Rattle.fj_rules.specs.declared.epoch.Move.{Move}
use Rattle.fj_rules.specs.declared.epoch.Move.TheVariants.{Step, Seal}
use Rattle.fj_rules.specs.declared.epoch.Answer.{Answer}
use Rattle.fj_rules.specs.declared.epoch.Answer.TheVariants.{Said, Sealed, Refused}
use Rattle.fj_rules.specs.Allowed.{is_closed, is_stopped}
use Rattle.fj_rules.specs.Answers.{is_quiet, first_that_stands}
use Rattle.fj_rules.specs.Pasts.{Past, fresh, sealed_now}
use Rattle.fj_rules.specs.Runs.{Steps}

-- each refusal of a seal but OutOfMemory, with its test, in the order of the tests
abbrev pub seal_refusals : Past → List (Bool × Refusal)
seal_refusals past =
    (not (is_quiet past.pool.limits past.events), NotIdle)
    ∷ (is_closed past.events || is_stopped past.events, Closed)
    ∷ (nat_lt MAX_EVENTS_AND_SEALS (length past.events + past.seals), LogFull) ∷ []

-- the first whose test holds
unfoldable pub seal_refusal : Past → Option Refusal
seal_refusal past = first_that_stands (seal_refusals past)

-- how a seal may be refused: by the first whose test holds, and where none holds as out of memory
abbrev pub RefusesSeal : Past → Refusal → Type 0
RefusesSeal past refusal = (seal_refusal past ≡ Some refusal) ⊎ ((seal_refusal past ≡ None) × (refusal ≡ OutOfMemory))

-- at the old past the move has this answer, and it leads to the new past
abbrev pub Moves : Past → Move → Answer → Past → Type 0
Moves old (Step asked) (Said reply) new = Steps old asked reply new
Moves old (Step asked) Sealed new = ⊥
Moves old (Step asked) (Refused refusal) new = ⊥
Moves old Seal (Said reply) new = ⊥
Moves old Seal Sealed new = (seal_refusal old ≡ None) × (new ≡ sealed_now old)
Moves old Seal (Refused refusal) new = RefusesSeal old refusal × (new ≡ old)

-- from the old past the moves have these answers, each move its own, and lead to the new past
abbrev pub MovesFrom : Past → List Move → List Answer → Past → Type 0
MovesFrom old [] [] new = new ≡ old
MovesFrom old (asked ∷ moves) (answer ∷ answers) new = (mid : Past) × Moves old asked answer mid × MovesFrom mid moves answers new
MovesFrom old [] (answer ∷ answers) new = ⊥
MovesFrom old (asked ∷ moves) [] new = ⊥

-- it is the past of some run
abbrev pub IsPast : Past → Type 0
IsPast past = (moves : List Move) × (answers : List Answer) × MovesFrom (fresh past.pool.mode past.pool.limits) moves answers past

-- the reply in an answer
abbrev pub reply_in : Answer → Option Reply
reply_in (Said reply) = Some reply
reply_in Sealed = None
reply_in (Refused refusal) = None
