use Rattle.std.proofs.Common.{◌≡◌, ◌∙◌, sym, arith}
use Rattle.std.proofs.Math.Logic.{∥∥₁_elim}
use base.Stored.{Coded-set}
use Rattle.fj_recursive.proofs.Joins.{lets_go_last}
use Rattle.fj_recursive.proofs.Tails.{not_false}
use Rattle.fj_recursive.proofs.recursive.RecursiveState.after_join.Goals as goal

pub finish-requires : goal.finish-requires
finish-requires g c =
    let heard = rw c.in-Got.is at c.requires.heard in
    let same = g.met.J.Divide.same_value c.in-Got.heard_key c.args.key (not_false _ (sym c.ne.ensures ∙ c.if-ne.false)) in
    let right : c.in-Got.out ≡ g.J.Divide.value c.in-Got.heard_key = ∥∥₁_elim heard (Coded-set g.row.J-Out.coded _ _) (λ e. e) in
    rw (c.combine.ensures, right, same) c.requires.total

pub returns-clause-asks : goal.returns-clause-asks
returns-clause-asks g c = record {
  rightly = tt;
  nearer = omega arith;
  as_job = tt;
  joins = lets_go_last c.args.self.now.lefts.items c.args.task c.args.key c.args.tail c.args.heard c.in_default.not-Got;
}
