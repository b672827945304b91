use Rattle.std.proofs.Common.{◌≡◌, [], ◌∷◌, true, false, refl, sym, ap, ◌∙◌}
use Rattle.std.specs.Prelude.{◌&&◌}
use Rattle.fj_rules.specs.declared.refusal.Refusal.TheVariants.{OwnStack}
use Rattle.fj_rules.specs.Lists.{is_in}
use Rattle.fj_rules.specs.Stacks.{stack}
use Rattle.fj_rules.specs.Statuses.{status, is_undone}
use Rattle.fj_rules.specs.Answers.{unknown_task, no_such_worker, hook_in_hand, nothing_running}
use Rattle.fj_ledger.specs.Holds.{TellsOf}
use Rattle.fj_machine.proofs.Outcomes.Found.{found_kept, found_status, found_place, held_as_told}
use Rattle.fj_machine.proofs.Outcomes.Refusing.{first_after}
use Rattle.fj_machine.proofs.steps.take.joined.Goals as goal
use Rattle.fj_machine.proofs.steps.take.joined.Goals.{else-is_undone-via-then-is_undone+else-is_held, else-is_undone-via-else-is_undone}

pub returns-then-is_held-clause-refusal : goal.returns-then-is_held-clause-refusal
returns-then-is_held-clause-refusal c =
    let pool = c.args.ledger.now.pool in
    let h = c.args.ledger.now.events in
    let t = c.args.t in
    let r = c.record-record.result.now in
    let found : TellsOf h t r = rw c.in_ok-t.ensures.number at c.record-record.ensures in
    let undone : is_undone (status h t) ≡ true = ap is_undone (found_status h t r found) ∙ sym c.is_undone.ensures ∙ c.if-is_undone.true in
    let held : is_in t (stack h c.args.w) ≡ true =
    held_as_told pool h t c.args.w c.is_held.result c.in_ok-t.ensures.lawful.allowed (rw (found_place h t r found) c.is_held.ensures) ∙ c.if-is_held.true in
    sym (first_after (no_such_worker pool c.args.w ∷ hook_in_hand h c.args.w ∷ nothing_running h c.args.w ∷ []) (unknown_task h t ∷ (is_undone (status h t) && is_in t (stack h c.args.w), OwnStack) ∷ [])
    (sym c.in_ok-running_task.ensures.refusal)
    ∙ rw (found_kept h t r found, undone, held) refl)

pub returns-clause-refusal : goal.returns-clause-refusal
returns-clause-refusal c =
    let pool = c.args.ledger.now.pool in
    let h = c.args.ledger.now.events in
    let t = c.args.t in
    let r = c.record-record.result.now in
    let found : TellsOf h t r = rw c.in_ok-t.ensures.number at c.record-record.ensures in
    let told : is_undone (status h t) ≡ c.is_undone.result = ap is_undone (found_status h t r found) ∙ sym c.is_undone.ensures in
    let other : (is_undone (status h t) && is_in t (stack h c.args.w)) ≡ false = elim c.else-is_undone.branch [
      | else-is_undone-via-then-is_undone+else-is_held w ↦
          rw (told ∙ w.if-is_undone.true, held_as_told pool h t c.args.w w.is_held.result c.in_ok-t.ensures.lawful.allowed (rw (found_place h t r found) w.is_held.ensures) ∙ w.if-is_held.false) refl
      | else-is_undone-via-else-is_undone w ↦ rw (told ∙ w.if-is_undone.false) refl
    ] in
    sym (first_after (no_such_worker pool c.args.w ∷ hook_in_hand h c.args.w ∷ nothing_running h c.args.w ∷ []) (unknown_task h t ∷ (is_undone (status h t) && is_in t (stack h c.args.w), OwnStack) ∷ [])
    (sym c.in_ok-running_task.ensures.refusal)
    ∙ rw (found_kept h t r found, other) refl)
