use Rattle.std.proofs.Common.{ap, sym, ◌∙◌, ◌≡◌, Some}
use Rattle.fj_tree.specs.Records.{record_at}
use Rattle.fj_tree.specs.Makes.{parent_refusal}
use Rattle.fj_tree.proofs.Index.Finds.{parent_found}
use Rattle.fj_tree.proofs.tree.Tree.parent.Goals as goal

pub returns-then-is_completer-clause-refused : goal.returns-then-is_completer-clause-refused
returns-then-is_completer-clause-refused c =
    let here : record_at c.args.self.now c.in-Some-find.h.key ≡ Some c.index.result.now = rw (← c.self.view_is, ← c.h.view_is) c.index.ensures in
    ap (parent_refusal c.args.self.now) (sym c.parent.ensures ∙ c.in-Some.is)
    ∙ parent_found c.args.self.now c.in-Some.serial c.in-Some-find.h c.index.result.now _ (sym c.find.ensures.found ∙ c.in-Some-find.is) here (sym c.is_completer.ensures ∙ c.if-is_completer.true)

pub returns-else-is_completer-clause-refused : goal.returns-else-is_completer-clause-refused
returns-else-is_completer-clause-refused c =
    let here : record_at c.args.self.now c.in-Some-find.h.key ≡ Some c.index.result.now = rw (← c.self.view_is, ← c.h.view_is) c.index.ensures in
    ap (parent_refusal c.args.self.now) (sym c.parent.ensures ∙ c.in-Some.is)
    ∙ parent_found c.args.self.now c.in-Some.serial c.in-Some-find.h c.index.result.now _ (sym c.find.ensures.found ∙ c.in-Some-find.is) here (sym c.is_completer.ensures ∙ c.if-is_completer.false)
