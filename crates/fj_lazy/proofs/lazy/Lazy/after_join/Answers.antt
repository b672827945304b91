use Rattle.std.proofs.Common.{◌≡◌, ◌∙◌, sym, ap}
use Rattle.std.proofs.Math.Logic.{∥∥₁_elim}
use base.Stored.{Coded-set}
use Rattle.fj_lazy.specs.PartsAside.{whole}
use Rattle.fj_lazy.proofs.Gives.{not_false}
use Rattle.fj_lazy.proofs.lazy.Lazy.after_join.Goals as goal

pub go_up-requires : goal.go_up-requires
go_up-requires g c =
    let heard = rw c.in-Got.is at c.requires.heard in
    let same = g.met.J.Divide.same_value c.in-Got.heard_key c.args.key (not_false _ (sym c.ne.ensures ∙ c.if-ne.false)) in
    let right : c.in-Got.right ≡ g.J.Divide.value c.in-Got.heard_key = ∥∥₁_elim heard (Coded-set g.row.J-Out.coded _ _) (λ e. e) in
    ap (whole g.J.Divide.key_of g.J.Divide.value g.J.Divide.combined c.args.self.now.parts.outer.items c.args.self.now.parts.inner.items) (c.combine.ensures ∙ ap (g.J.Divide.combined c.args.left) (right ∙ same))
    ∙ c.requires.total
