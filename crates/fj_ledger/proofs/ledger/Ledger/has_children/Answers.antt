use Rattle.std.proofs.Common.{◌≡◌, ap, ◌∙◌}
use Rattle.std.specs.Prelude.{nat_lt}
use Rattle.fj_rules.specs.Allowed.{has_kept_child}
use Rattle.fj_rules.specs.Runs.{Past}
use Rattle.fj_tree.specs.declared.record.Record.{Record}
use Rattle.fj_ledger.proofs.Recorded.KeptChildren.{children_tell}
use Rattle.fj_ledger.proofs.Recorded.Located.{located, read_at}
use Rattle.fj_ledger.proofs.ledger.Ledger.has_children.Goals as goal

pub returns : goal.returns
returns c =
    let h = c.self.inside.log.events in
    let tree = c.self.inside.tree in
    let t = c.args.t.serial in
    let l = located tree t c.renew.result c.unwrap-h.result c.renew.ensures.found c.renew.ensures.good c.unwrap-h.ensures in
    let read = read_at tree t c.unwrap-h.result l c.unwrap.result.now (rw c.unwrap.ensures at c.get.ensures) in
    let told : nat_lt 0 l.found.children ≡ has_kept_child h t =
    children_tell c.self.inside.limits h tree t c.unwrap-h.result.key l.found c.self.invariant.holds.tree_kept c.renew.ensures.sound l.at (l.serial ∙ l.number) in
    ap (λ (r : Record). nat_lt 0 r.children) read ∙ told ∙ ap (λ (p : Past). has_kept_child p.events t) c.self.view_is
