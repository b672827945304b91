-- What one more move of a run with seals hands out.
use Rattle.std.proofs.Common.{ℕ, ◌≡◌, ◌+◌, ◌<◌, List, [], ◌∷◌, ◌++◌, length, map, take, drop, get_or, refl, ap, sym, ◌∙◌, arith, append-nil, append_assoc}
use Rattle.std.proofs.lemmas.List.{map-append, take_more, drop_more}
use Rattle.fj_rules.specs.declared.event.Event.{Event}
use Rattle.fj_rules.specs.declared.step.Step.{Step}
use Rattle.fj_rules.specs.declared.said.Said.{Said}
use Rattle.fj_rules.specs.declared.refusal.Refusal.{Refusal}
use Rattle.fj_rules.specs.declared.epoch.Sealed.{Sealed}
use Rattle.fj_rules.specs.declared.epoch.Move.{Move}
use Rattle.fj_rules.specs.declared.epoch.Move.TheVariants as move
use Rattle.fj_rules.specs.declared.epoch.Answer.{Answer}
use Rattle.fj_rules.specs.declared.epoch.Answer.TheVariants as gives
use Rattle.fj_rules.specs.Answers.{answer}
use Rattle.fj_rules.specs.Pasts.{Past, grown, present, gone_since, sealed_now}
use Rattle.fj_rules.specs.Epochs.{MovesFrom}
use Rattle.fj_machine.specs.Handed.{handed, seals_in, shown}

-- ---- the law

-- what a run hands out with one move more: what it handed out, and what that move does
handed_more : (start : Past) (moves : List Move) (answers : List Answer) (old : Past) (asked : Move) (given : Answer)
    → MovesFrom start moves answers old → handed start (moves ++ asked ∷ []) (answers ++ given ∷ []) ≡ handed start moves answers ++ handed old (asked ∷ []) (given ∷ [])
unfolding handed
handed_more start [] [] old asked given run = rw run refl
handed_more start (move.Step first ∷ moves) (gives.Said reply ∷ answers) old asked given run =
    handed_more (grown start (answer start first).1) moves answers old asked given (rw (← run.1.1) run.2)
handed_more start (move.Seal ∷ moves) (gives.Sealed ∷ answers) old asked given run =
    ap (λ later. (present start, gone_since start) ∷ later) (handed_more (sealed_now start) moves answers old asked given (rw (← run.1.1) run.2))
handed_more start (move.Seal ∷ moves) (gives.Refused refusal ∷ answers) old asked given run =
    handed_more start moves answers old asked given (rw (← run.1.1) run.2)
handed_more start (move.Step first ∷ moves) (gives.Sealed ∷ answers) old asked given run = absurd run.1
handed_more start (move.Step first ∷ moves) (gives.Refused refusal ∷ answers) old asked given run = absurd run.1
handed_more start (move.Seal ∷ moves) (gives.Said reply ∷ answers) old asked given run = absurd run.1
handed_more start [] (a ∷ answers) old asked given run = absurd run
handed_more start (m ∷ moves) [] old asked given run = absurd run

-- ---- one move

-- a step hands nothing out
pub step_hands : (past : Past) (asked : Step) (reply : Said) (shows : List (List Event × List ℕ)) → shows ≡ shows ++ handed past (move.Step asked ∷ []) (gives.Said reply ∷ [])
unfolding handed
step_hands past asked reply shows = sym (append-nil shows)

-- nor does a seal that is refused
pub refusal_hands : (past : Past) (refusal : Refusal) (shows : List (List Event × List ℕ)) → shows ≡ shows ++ handed past (move.Seal ∷ []) (gives.Refused refusal ∷ [])
unfolding handed
refusal_hands past refusal shows = sym (append-nil shows)

-- a seal hands out its part
pub seal_hands : (past : Past) (parts : List Sealed) (part : Sealed) → part.events.items ≡ present past → part.gone.items ≡ gone_since past
    → map shown (parts ++ part ∷ []) ≡ map shown parts ++ handed past (move.Seal ∷ []) (gives.Sealed ∷ [])
unfolding handed
seal_hands past parts part events gones = rw (sym events, sym gones) (map-append shown parts (part ∷ []))

-- ---- all moves so far

pub none_handed : (past : Past) (shows : List (List Event × List ℕ)) → shows ≡ shows ++ handed past [] []
unfolding handed
none_handed past shows = sym (append-nil shows)

-- the move at this place of a list is made, and its part is put behind the parts before it
pub run_hands : (start : Past) (moves : List Move) (i : ℕ) (answers : List Answer) (first parts now : List Sealed) (old : Past) (asked : Move) (given : Answer)
    → MovesFrom start (take i moves) answers old → i < length moves → asked ≡ get_or moves i asked
    → map shown parts ≡ map shown first ++ handed start (take i moves) answers → map shown now ≡ map shown parts ++ handed old (asked ∷ []) (given ∷ [])
    → map shown now ≡ map shown first ++ handed start (take (i + 1) moves) (answers ++ given ∷ [])
run_hands start moves i answers first parts now old asked given run within next before is =
    let made = handed start (take i moves) answers in
    let more = handed old (asked ∷ []) (given ∷ []) in
    rw (take_more moves i asked within, sym next) (is ∙ ap (λ shows. shows ++ more) before ∙ append_assoc (map shown first) made more
    ∙ ap (λ shows. map shown first ++ shows) (sym (handed_more start (take i moves) answers old asked given run)))

-- ---- room for the parts

counted : (asked : Move) (later : List Move) → seals_in (asked ∷ later) ≡ seals_in (asked ∷ []) + seals_in later
counted (move.Step wanted) later = omega arith
counted move.Seal later = omega arith

-- the seals from this place on: the one there, if it is one, and those behind it
pub seals_left : (moves : List Move) (i : ℕ) (asked : Move) → i < length moves → asked ≡ get_or moves i asked → seals_in (drop i moves) ≡ seals_in (asked ∷ []) + seals_in (drop (i + 1) moves)
seals_left moves i asked within next = rw (drop_more moves i asked within, sym next) (counted asked (drop (i + 1) moves))
