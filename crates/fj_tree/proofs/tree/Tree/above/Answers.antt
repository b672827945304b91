use Rattle.std.proofs.Common.{rules, ◌≡◌, Option, subst}
use Rattle.std.specs.Prelude.{IfSome}
use Rattle.fj_tree.specs.Handles.{Handle}
use Rattle.fj_tree.specs.Paths.{above}
use Rattle.fj_tree.specs.Records.{IsCompleter}
use Rattle.fj_tree.proofs.Ascents.Parents.{completers_above}
use Rattle.fj_tree.proofs.tree.Tree.above.Goals as goal

pub returns-clause-completer : goal.returns-clause-completer
returns-clause-completer c =
    let t = c.args.self.now in
    let found : above t c.args.h ≡ c.find.result = search rules in
    subst (λ (o : Option Handle). IfSome o (IsCompleter t)) found (completers_above t c.args.h c.len.ensures.sound c.requires)
