-- What the replies say of the events.
use Rattle.std.proofs.Common.{ℕ, ◌≡◌, List, [], ◌∷◌, ◌++◌, Option, Some, None, refl, subst, append_assoc}
use Rattle.std.specs.List.{filter_map}
use Rattle.std.proofs.lemmas.List.{append-nil}
use Rattle.std.proofs.lemmas.List.Elements.{filter_map-append}
use Rattle.fj_rules.specs.declared.event.Event.{Event}
use Rattle.fj_rules.specs.declared.step.Step.{Step}
use Rattle.fj_rules.specs.declared.refusal.Refusal.{Refusal}
use Rattle.fj_rules.specs.declared.said.Said.{Said}
use Rattle.fj_rules.specs.declared.said.Said.TheVariants as says
use Rattle.fj_rules.specs.Tasks.{tasks, accepted_by}
use Rattle.fj_rules.specs.Answers.{answer, answer_of, refusal_of}
use Rattle.fj_rules.specs.Headline.{handed_out, handed_out_by, fired, fired_by, task_in, run_in, hook_in, RepliesTell}
use Rattle.fj_rules.specs.declared.mode.Mode.{Mode}
use Rattle.fj_rules.specs.declared.epoch.Move.{Move}
use Rattle.fj_rules.specs.declared.epoch.Move.TheVariants as move
use Rattle.fj_rules.specs.declared.epoch.Answer.{Answer}
use Rattle.fj_rules.specs.declared.epoch.Answer.TheVariants as gives
use Rattle.fj_rules.specs.Bounds.{Bounds}
use Rattle.fj_rules.specs.Pasts.{Past, fresh, grown}
use Rattle.fj_rules.specs.Runs.{RunsFrom, Runs}
use Rattle.fj_rules.specs.Epochs.{Moves, MovesFrom, reply_in}
use Rattle.fj_rules.proofs.Steps.StepsTell.{step_tells}

-- the reply and the events of a step tell the same
pub answer_tells : (past : Past) (asked : Step) → RepliesTell (answer past asked).1 ((answer past asked).0 ∷ [])
unfolding answer tasks handed_out fired
answer_tells past asked = go (refusal_of past asked) refl
  where
    go : (r : Option Refusal) → refusal_of past asked ≡ r → RepliesTell (answer_of past asked r).1 ((answer_of past asked r).0 ∷ [])
    go None is = (step_tells past.pool past.events asked).same
    go (Some refusal) is = record { accepts = refl; runs = refl; hooks = refl }

-- a refused step appends nothing
pub refused_nothing : (past : Past) (asked : Step) (refusal : Refusal) → (answer past asked).0 ≡ says.Refused refusal → (answer past asked).1 ≡ []
unfolding answer
refused_nothing past asked refusal = go (refusal_of past asked) refl
  where
    go : (r : Option Refusal) → refusal_of past asked ≡ r → (answer_of past asked r).0 ≡ says.Refused refusal → (answer_of past asked r).1 ≡ []
    go None is said = absurd ((step_tells past.pool past.events asked).stands refusal said)
    go (Some other) is said = refl

-- ---- whole runs

joined : (f : Event → Option ℕ) (g : Said → Option ℕ) (h events : List Event) (before : List Said) (reply : Said)
    → filter_map f h ≡ filter_map g before → filter_map f events ≡ filter_map g (reply ∷ []) → filter_map f (h ++ events) ≡ filter_map g (before ++ reply ∷ [])
joined f g h events before reply is also = rw (filter_map-append f h events, filter_map-append g before (reply ∷ []), is, also) refl

one_more : (h events : List Event) (before : List Said) (reply : Said) → RepliesTell h before → RepliesTell events (reply ∷ []) → RepliesTell (h ++ events) (before ++ reply ∷ [])
unfolding tasks handed_out fired
one_more h events before reply told more = record {
  accepts = joined accepted_by task_in h events before reply told.accepts more.accepts;
  runs = joined handed_out_by run_in h events before reply told.runs more.runs;
  hooks = joined fired_by hook_in h events before reply told.hooks more.hooks;
}

runs_tell_from : (old : Past) (before : List Said) (steps : List Step) (replies : List Said) (new : Past)
    → RepliesTell old.events before → RunsFrom old steps replies new → RepliesTell new.events (before ++ replies)
runs_tell_from old before [] [] new told run = rw (run, append-nil before) told
runs_tell_from old before (asked ∷ steps) (reply ∷ replies) new told run =
    let more : RepliesTell run.0 (reply ∷ []) = subst (λ (a : Said × List Event). RepliesTell a.1 (a.0 ∷ [])) run.1 (answer_tells old asked) in
    rw append_assoc at (runs_tell_from (grown old run.0) (before ++ reply ∷ []) steps replies new (one_more old.events run.0 before reply told more) run.2)
runs_tell_from old before [] (reply ∷ replies) new told run = absurd run
runs_tell_from old before (asked ∷ steps) [] new told run = absurd run

nothing_told : RepliesTell [] []
unfolding tasks handed_out fired
nothing_told = record { accepts = refl; runs = refl; hooks = refl }

-- the replies of a run tell what its history has
pub runs_tell : (mode : Mode) (limits : Bounds) (steps : List Step) (replies : List Said) (past : Past) → Runs mode limits steps replies past → RepliesTell past.events replies
runs_tell mode limits steps replies past run = runs_tell_from (fresh mode limits) [] steps replies past nothing_told run

-- the same of a run with seals
move_tells : (old : Past) (before : List Said) (asked : Move) (given : Answer) (new : Past)
    → RepliesTell old.events before → Moves old asked given new → RepliesTell new.events (before ++ filter_map reply_in (given ∷ []))
move_tells old before (move.Step wanted) (gives.Said reply) new told made =
    rw (made.1, made.0) (one_more old.events (answer old wanted).1 before (answer old wanted).0 told (answer_tells old wanted))
move_tells old before (move.Step wanted) gives.Sealed new told made = absurd made
move_tells old before (move.Step wanted) (gives.Refused refusal) new told made = absurd made
move_tells old before move.Seal (gives.Said reply) new told made = absurd made
move_tells old before move.Seal gives.Sealed new told made = rw (append-nil before, made.1) told
move_tells old before move.Seal (gives.Refused refusal) new told made = rw (append-nil before, made.1) told

moves_tell_from : (old : Past) (before : List Said) (moves : List Move) (answers : List Answer) (new : Past)
    → RepliesTell old.events before → MovesFrom old moves answers new → RepliesTell new.events (before ++ filter_map reply_in answers)
moves_tell_from old before [] [] new told run = rw (run, append-nil before) told
moves_tell_from old before (asked ∷ moves) (given ∷ answers) new told run =
    let rest = moves_tell_from run.0 (before ++ filter_map reply_in (given ∷ [])) moves answers new (move_tells old before asked given run.0 told run.1) run.2 in
    rw (filter_map-append reply_in (given ∷ []) answers) (rw append_assoc at rest)
moves_tell_from old before [] (given ∷ answers) new told run = absurd run
moves_tell_from old before (asked ∷ moves) [] new told run = absurd run

pub moves_tell : (mode : Mode) (limits : Bounds) (moves : List Move) (answers : List Answer) (past : Past) → MovesFrom (fresh mode limits) moves answers past → RepliesTell past.events (filter_map reply_in answers)
moves_tell mode limits moves answers past run = moves_tell_from (fresh mode limits) [] moves answers past nothing_told run
