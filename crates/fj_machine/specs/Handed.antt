-- Which events and which gone tasks are in which part of a run with seals.
use Rattle.std.specs.Prelude.{ℕ, Bool, true, false, List, [], ◌∷◌, length, filter}
use Rattle.fj_rules.specs.declared.event.Event.{Event}
use Rattle.fj_rules.specs.declared.epoch.Sealed.{Sealed as Part}
use Rattle.fj_rules.specs.declared.epoch.Move.{Move}
use Rattle.fj_rules.specs.declared.epoch.Move.TheVariants.{Step, Seal}
use Rattle.fj_rules.specs.declared.epoch.Answer.{Answer}
use Rattle.fj_rules.specs.declared.epoch.Answer.TheVariants.{Said, Sealed, Refused}
use Rattle.fj_rules.specs.Answers.{answer}
use Rattle.fj_rules.specs.Pasts.{Past, grown, present, gone_since, sealed_now}

-- whether a move is a seal
abbrev pub is_seal : Move → Bool
is_seal (Step asked) = false
is_seal Seal = true

-- how many of the moves are seals
abbrev pub seals_in : List Move → ℕ
seals_in moves = length (filter is_seal moves)

-- what a part has: its events, and its gone tasks
abbrev pub shown : Part → List Event × List ℕ
shown part = (part.events.items, part.gone.items)

-- what these moves with these answers hand out from this past on: at each seal that is made, what has happened since the seal before
unfoldable pub handed : Past → List Move → List Answer → List (List Event × List ℕ)
handed past (Step asked ∷ moves) (Said reply ∷ answers) = handed (grown past (answer past asked).1) moves answers
handed past (Seal ∷ moves) (Sealed ∷ answers) = (present past, gone_since past) ∷ handed (sealed_now past) moves answers
handed past (Seal ∷ moves) (Refused refusal ∷ answers) = handed past moves answers
handed past _ _ = []
