use Rattle.std.proofs.Common.{ℕ, ◌≡◌, Bool, true, false, not, List, Some, None, refl, ap, sym, ◌∙◌}
use Rattle.std.specs.Prelude.{if◌then◌else◌}
use Rattle.fj_rules.specs.declared.event.Event.{Event}
use Rattle.fj_rules.specs.declared.refusal.Refusal.TheVariants.{NotCompleter}
use Rattle.fj_rules.specs.declared.step.Ending.{Ending}
use Rattle.fj_rules.specs.declared.step.Ending.TheVariants as ends
use Rattle.fj_rules.specs.declared.step.Step.TheVariants.{End}
use Rattle.fj_rules.specs.Tasks.{is_completer}
use Rattle.fj_rules.specs.Answers.{is_misfit, first_that_stands, refusals_of, running}
use Rattle.fj_machine.specs.Outcomes.{suits}
use Rattle.fj_machine.proofs.ByStep.EndSteps.{running_kept, end_refused}
use Rattle.fj_machine.proofs.Outcomes.Found.{found_completer}
use Rattle.fj_machine.proofs.steps.end.ending_task.Goals as goal
use Rattle.fj_machine.proofs.steps.end.ending_task.Goals.{After-named-t, After-suits}

-- the ending is a misfit where it does not suit
misfits : (h : List Event) (t : ℕ) (ending : Ending) (b : Bool) → is_completer h t ≡ b → is_misfit h ending (Some t) ≡ not (suits ending b)
misfits h t ends.Ok b is = rw is (twice b)
  where
    twice : (b : Bool) → b ≡ not (not b)
    twice true = refl
    twice false = refl
misfits h t ends.Quiet b is = rw is refl
misfits h t ends.Try b is = rw is refl
misfits h t ends.Pass b is = rw is refl
misfits h t ends.Complete b is = rw is refl
misfits h t (ends.Fail code) b is = refl

-- the handle is that of the running task
runs : (c : After-named-t) → running c.args.ledger.now.events c.args.w ≡ Some c.named-t.result.serial
runs c = c.in_ok-running_task.ensures.running ∙ ap Some (sym c.named-t.ensures)

-- whether the ending suits the task decides
decided : (c : After-suits) → (if c.suits.result then None else Some NotCompleter) ≡ first_that_stands (refusals_of c.args.ledger.now.pool c.args.ledger.now.events (End c.args.w c.args.ending))
decided c =
    let h = c.args.ledger.now.events in
    let t = c.named-t.result.serial in
    let completer = found_completer h t c.record.result.now c.record.ensures ∙ sym c.is_completer.ensures in
    end_refused c.args.ledger.now.pool h c.args.w t c.args.ending _ (sym c.in_ok-running_task.ensures.refusal) (runs c.before.before.before) (rw c.suits.ensures (misfits h t c.args.ending _ completer))

pub record-requires : goal.record-requires
record-requires c = running_kept c.args.ledger.now.pool c.args.ledger.now.events c.args.w c.named-t.result.serial c.in_ok-running_task.ensures.lawful (runs c)

pub returns-then-not-suits : goal.returns-then-not-suits
returns-then-not-suits c = sym (rw c.if-not-suits.true at (decided (goal.at.returns-then-not-suits c).After-suits))

pub returns : goal.returns
returns c = record {
  lawful = c.in_ok-running_task.ensures.lawful;
  stands = sym (rw c.if-not-suits.false at (decided (goal.at.returns c).After-suits));
  running = runs (goal.at.returns c).After-named-t;
}
