use Rattle.std.proofs.Common.{ℕ, ◌≡◌, List, Some, ap, sym, ◌∙◌}
use Rattle.std.specs.Prelude.{option_map}
use Rattle.fj_rules.specs.declared.event.Event.{Event}
use Rattle.fj_rules.specs.Tasks.{parent, parent_in}
use Rattle.fj_tree.specs.declared.record.Record.{Record}
use Rattle.fj_tree.specs.Handles.{Handle}
use Rattle.fj_ledger.specs.Holds.{TellsOf}
use Rattle.fj_ledger.proofs.ledger.Ledger.parent.Goals as goal

-- the parent that the record names
told : (h : List Event) (t : ℕ) (r : Record) → TellsOf h t r → parent_in (Some r.kind) ≡ parent h t
unfolding parent
told h t r of = ap parent_in (sym of.tells.kind) ∙ ap (parent h) of.number

pub returns-in_err-p-clause-parent : goal.returns-in_err-p-clause-parent
returns-in_err-p-clause-parent c = λ kept.
    ap (option_map (λ (p : Handle). p.serial)) c.from_residual-in_err-p.ensures
    ∙ sym c.in_err-p.was ∙ c.parent.ensures ∙ told c.args.self.now.events c.args.t.serial c.in_ok-look.field-0.now c.in_ok-look.ensures.record

pub returns-clause-parent : goal.returns-clause-parent
returns-clause-parent c = λ kept.
    ap Some c.named.ensures ∙ sym c.in_ok-p.was ∙ c.parent.ensures ∙ told c.args.self.now.events c.args.t.serial c.in_ok-look.field-0.now c.in_ok-look.ensures.record
