use Rattle.std.proofs.Common.{◌≡◌, ◌∙◌, ◌++◌, List, ap, map, subst}
use Rattle.fj_rules.specs.Pasts.{Past, fresh}
use Rattle.fj_rules.specs.declared.epoch.Sealed.{Sealed}
use Rattle.fj_rules.specs.Headline.{Headline}
use Rattle.fj_rules.specs.Epochs.{IsPast, MovesFrom}
use Rattle.fj_rules.specs.Parts.{Fits}
use Rattle.fj_rules.proofs.Headline.Headlines.{headline}
use Rattle.fj_rules.proofs.Completers.OwnFirings.{fires_by_complete_only_own}
use Rattle.fj_rules.proofs.Steps.Replies.{moves_tell}
use Rattle.fj_rules.proofs.Headline.Parting.{fits_none, parts_joined, gone_joined}
use Rattle.fj_machine.specs.Handed.{handed, shown}
use Rattle.fj_machine.proofs.MoreSteps.MovesMore.{run_past}
use Rattle.fj_machine.proofs.epochs.run_epochs.Goals as goal
use Rattle.fj_machine.proofs.epochs.run_epochs.Goals.{After-make_moves}

-- the pool is as it was given
given : (c : After-make_moves) → c.make_moves.new.machine.pool ≡ (record { mode = c.args.mode; limits = c.args.limits })
given c = c.make_moves.ensures.pool ∙ ap (λ (m : Past). m.pool) c.in-Ok.ensures.ok

-- all moves were made from the start
made : (c : After-make_moves) → MovesFrom (fresh c.args.mode c.args.limits) c.args.moves.now c.make_moves.new.answers.items c.make_moves.new.machine
made c = subst (λ m. MovesFrom m c.args.moves.now c.make_moves.new.answers.items c.make_moves.new.machine) c.in-Ok.ensures.ok c.make_moves.ensures.runs

-- what they leave is the past of a run
run : (c : After-make_moves) → IsPast c.make_moves.new.machine
run c = run_past c.args.mode c.args.limits c.args.moves.now c.make_moves.new.answers.items c.make_moves.new.machine (given c) (made c)

holds : (c : After-make_moves) → Headline c.make_moves.new.machine.pool c.make_moves.new.machine.events
holds c = headline c.make_moves.new.machine (run c)

pub returns-clause-pool : goal.returns-clause-pool
returns-clause-pool c = given (goal.at.returns-clause-pool c).After-make_moves

pub returns-clause-runs : goal.returns-clause-runs
returns-clause-runs c = made (goal.at.returns-clause-runs c).After-make_moves

-- the parts that were handed out are those of the history
fits : (c : After-make_moves) → Fits c.make_moves.new.parts.items c.make_moves.new.machine
fits c =
    let none = fits_none c.args.mode c.args.limits in
    c.make_moves.ensures.parts (rw (c.in_ok-parts.ensures.items, c.in-Ok.ensures.ok) none)

pub returns-clause-events : goal.returns-clause-events
returns-clause-events c = parts_joined c.make_moves.new.parts.items c.make_moves.new.machine (run (goal.at.returns-clause-events c).After-make_moves) (fits (goal.at.returns-clause-events c).After-make_moves)

pub returns-clause-gone : goal.returns-clause-gone
returns-clause-gone c = gone_joined c.make_moves.new.parts.items c.make_moves.new.machine (run (goal.at.returns-clause-gone c).After-make_moves) (fits (goal.at.returns-clause-gone c).After-make_moves)

pub returns-clause-parts : goal.returns-clause-parts
returns-clause-parts c = (fits (goal.at.returns-clause-parts c).After-make_moves).count

pub returns-clause-handed : goal.returns-clause-handed
returns-clause-handed c =
    subst (λ m. map shown c.make_moves.new.parts.items ≡ handed m c.args.moves.now c.make_moves.new.answers.items) c.in-Ok.ensures.ok
    (c.make_moves.ensures.handed ∙ ap (λ (parts : List Sealed). map shown parts ++ handed c.in-Ok.machine c.args.moves.now c.make_moves.new.answers.items) c.in_ok-parts.ensures.items)

pub returns-clause-place : goal.returns-clause-place
returns-clause-place c = (holds (goal.at.returns-clause-place c).After-make_moves).place

pub returns-clause-handed_once : goal.returns-clause-handed_once
returns-clause-handed_once c = (holds (goal.at.returns-clause-handed_once c).After-make_moves).handed_once

pub returns-clause-order : goal.returns-clause-order
returns-clause-order c = (holds (goal.at.returns-clause-order c).After-make_moves).order

pub returns-clause-shutdown : goal.returns-clause-shutdown
returns-clause-shutdown c = (holds (goal.at.returns-clause-shutdown c).After-make_moves).shutdown

pub returns-clause-fired_once : goal.returns-clause-fired_once
returns-clause-fired_once c = (holds (goal.at.returns-clause-fired_once c).After-make_moves).fired_once

pub returns-clause-fired_at_zero : goal.returns-clause-fired_at_zero
returns-clause-fired_at_zero c = (holds (goal.at.returns-clause-fired_at_zero c).After-make_moves).fired_at_zero

pub returns-clause-completes : goal.returns-clause-completes
returns-clause-completes c = fires_by_complete_only_own c.make_moves.new.machine.pool

pub returns-clause-replies : goal.returns-clause-replies
returns-clause-replies c =
    moves_tell c.args.mode c.args.limits c.args.moves.now c.make_moves.new.answers.items c.make_moves.new.machine (made (goal.at.returns-clause-replies c).After-make_moves)
