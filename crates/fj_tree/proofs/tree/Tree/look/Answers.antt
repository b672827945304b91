use Rattle.std.proofs.Common.{◌≡◌, Some, ap, sym, ◌∙◌, subst, refl}
use Rattle.std.specs.Prelude.{IsSome, option_and_then, option_copied}
use Rattle.fj_tree.specs.Records.{IsGood, IsSound, record_of}
use Rattle.fj_tree.proofs.Index.Finds.{named_record}
use Rattle.fj_tree.proofs.Index.Numbers.{found_there}
use Rattle.fj_tree.proofs.tree.Tree.look.Goals as goal

pub returns-in-Some-clause-found : goal.returns-in-Some-clause-found
returns-in-Some-clause-found c =
    let there : Some c.in-Some.record.now ≡ record_of c.args.self.now c.args.h = ap option_copied (sym c.in-Some.is) ∙ c.get.ensures in
    let good : IsGood c.args.self.now c.args.h = subst IsSome there refl in
    let named = named_record c.args.self.now c.args.h good in
    let found = found_there c.args.self.now c.args.h.serial c.args.h.key (subst IsSound c.self.view_is c.self.invariant.sound) (rw named.1 named.2) in
    there ∙ ap (option_and_then (record_of c.args.self.now)) (sym found)
