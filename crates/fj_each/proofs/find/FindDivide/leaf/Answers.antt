use Rattle.std.proofs.Common.{◌≡◌, subst}
use Rattle.std.proofs.Math.Logic.{∥∥₁_elim}
use Rattle.std.specs.Coded.{Coded-set, coded_option, coded_ℕ}
use Rattle.fj_each.specs.Firsts.{first_in}
use Rattle.fj_each.proofs.Searches.{first_same}
use Rattle.fj_each.proofs.find.FindDivide.leaf.Goals as goal

pub returns : goal.returns
returns g c =
    let part = c.args.self.now in
    let wants = g.N.Search.wants in
    let block = part.block in
    let P : _ → Type 0 = λ xs. c.first_in.result ≡ first_in wants xs block.from block.to in
    let Q : _ → Type 0 = λ found. c.first_in.result ≡ found in
    let same = subst Q (first_same (g.P.Wanted.wants part.wanted.now) wants part.items.now block.from block.to part.asked) c.first_in.ensures in
    ∥∥₁_elim part.named (Coded-set (coded_option coded_ℕ) _ _) (λ named. subst P named same)
