use Rattle.std.proofs.Common.{ℕ, ◌≡◌, List, Some, ap, sym, ◌∙◌}
use Rattle.fj_rules.specs.declared.event.Event.{Event}
use Rattle.fj_rules.specs.Tasks.{parent, parent_in}
use Rattle.fj_tree.specs.declared.record.Record.{Record}
use Rattle.fj_ledger.specs.Holds.{TellsOf}
use Rattle.fj_machine.proofs.machine.Machine.parent.Goals as goal

-- the parent that the record names
told : (h : List Event) (t : ℕ) (r : Record) → TellsOf h t r → parent_in (Some r.kind) ≡ parent h t
unfolding parent
told h t r of = ap parent_in (sym of.tells.kind) ∙ ap (parent h) of.number

pub returns : goal.returns
returns c = λ kept. rw (← c.self.view_is) (c.parent.ensures ∙ told _ c.args.t c.in_ok-find.field-0.now c.in_ok-find.ensures.record)
