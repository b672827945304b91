use Rattle.std.proofs.Common.{◌≡◌, true, sym, ◌∙◌, subst, refl, Option, Some, None, Bor}
use Rattle.std.specs.Prelude.{IsSome, is_some, option_copied}
use Rattle.fj_tree.specs.declared.record.Record.{Record}
use Rattle.fj_tree.specs.Records.{IsGood, IsSound}
use Rattle.fj_tree.proofs.Index.Finds.{named_record}
use Rattle.fj_tree.proofs.Index.Numbers.{found_there}
use Rattle.fj_tree.proofs.tree.Tree.renew.Goals as goal

some_copied : (o : Option (Bor Record)) → is_some o ≡ true → IsSome (option_copied o)
some_copied (Some r) some = refl
some_copied None none = absurd cc

-- the handle is good
good : (c : goal.Then-is_some) → IsGood c.args.self.now c.args.h
good c = subst IsSome c.get.ensures (some_copied c.get.result (sym c.is_some.ensures ∙ c.if-is_some.true))

pub returns-then-is_some-clause-found : goal.returns-then-is_some-clause-found
returns-then-is_some-clause-found c =
    let named = named_record c.args.self.now c.args.h (good c) in
    sym (found_there c.args.self.now c.args.h.serial c.args.h.key (subst IsSound c.self.view_is c.self.invariant.sound) (rw named.1 named.2))
