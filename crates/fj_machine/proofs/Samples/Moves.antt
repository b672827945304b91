-- What a list of steps and seals comes to by the definitions.
use Rattle.std.specs.Prelude.{ℕ, ◌≡◌, List, [], ◌∷◌, map, Option, Some, None, refl, ⊤}
use Rattle.std.proofs.Common.{inl}
use Rattle.fj_rules.specs.declared.event.Event.{Event}
use Rattle.fj_rules.specs.declared.refusal.Refusal.{Refusal}
use Rattle.fj_rules.specs.declared.epoch.Move.{Move}
use Rattle.fj_rules.specs.declared.epoch.Move.TheVariants as move
use Rattle.fj_rules.specs.declared.epoch.Answer.{Answer}
use Rattle.fj_rules.specs.declared.epoch.Answer.TheVariants as gives
use Rattle.fj_rules.specs.Answers.{answer}
use Rattle.fj_rules.specs.Bounds.{Pool}
use Rattle.fj_rules.specs.Epochs.{seal_refusal, MovesFrom}
use Rattle.fj_rules.specs.Pasts.{Past, fresh, grown, sealed_now}
use Rattle.fj_rules.proofs.Samples.Scripts.{computing as steps_computing}
use Rattle.fj_machine.specs.Handed.{handed}

-- the answer to a seal where there is memory, and the past behind it
abbrev pub seal_answer : Option Refusal → Answer
seal_answer None = gives.Sealed
seal_answer (Some refusal) = gives.Refused refusal

abbrev pub behind_seal : Past → Option Refusal → Past
behind_seal past None = sealed_now past
behind_seal past (Some refusal) = past

-- the answers to the moves from this past on, where there is memory
abbrev pub answers_from : Past → List Move → List Answer
answers_from past [] = []
answers_from past (move.Step asked ∷ moves) = gives.Said (answer past asked).0 ∷ answers_from (grown past (answer past asked).1) moves
answers_from past (move.Seal ∷ moves) = seal_answer (seal_refusal past) ∷ answers_from (behind_seal past (seal_refusal past)) moves

-- the past to which they lead
abbrev pub past_behind : Past → List Move → Past
past_behind past [] = past
past_behind past (move.Step asked ∷ moves) = past_behind (grown past (answer past asked).1) moves
past_behind past (move.Seal ∷ moves) = past_behind (behind_seal past (seal_refusal past)) moves

seal_answered : (past : Past) (refusal : Option Refusal) (moves : List Move) → seal_refusal past ≡ refusal → ((new : Past) → MovesFrom new moves (answers_from new moves) (past_behind new moves))
    → MovesFrom past (move.Seal ∷ moves) (seal_answer refusal ∷ answers_from (behind_seal past refusal) moves) (past_behind (behind_seal past refusal) moves)
seal_answered past None moves is later = (sealed_now past, (is, refl), later (sealed_now past))
seal_answered past (Some refusal) moves is later = (past, (inl is, refl), later past)

-- by the definition the moves have these answers, and lead there
pub answered : (past : Past) (moves : List Move) → MovesFrom past moves (answers_from past moves) (past_behind past moves)
answered past [] = refl
answered past (move.Step asked ∷ moves) = (grown past (answer past asked).1, (refl, refl), answered (grown past (answer past asked).1) moves)
answered past (move.Seal ∷ moves) = seal_answered past (seal_refusal past) moves refl (λ new. answered new moves)

-- each move has the answer that stands beside it, and these parts are handed out: events and gone tasks of each
abbrev pub IsMade : Pool → List (Move × Answer) → List (List Event × List ℕ) → Type 0
IsMade pool script parts =
    let start = fresh pool.mode pool.limits in
    let moves = map (λ row. row.0) script in
    let answers = map (λ row. row.1) script in
    (answers_from start moves ≡ answers) × (handed start moves answers ≡ parts)

-- by `unfolding computing` an answer computes what the moves come to
unfoldable pub computing : ⊤
unfolding steps_computing answer seal_refusal handed
computing = tt
