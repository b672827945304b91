use Rattle.std.proofs.Common.{◌<◌, sym, vec_len, vec_capacity}
use Rattle.std.proofs.Math.Bridge.{le_prop}
use Rattle.std.specs.VecDeque.{deque_len, deque_capacity}
use base.Stored.{Coded-set}
use Rattle.fj_lazy.specs.Splits.{Gives, HasRoom}
use Rattle.fj_lazy.proofs.Gives.{both_prop, gives_at}
use Rattle.fj_lazy.proofs.lazy.turns.LazyBody.turn.Goals as goal

pub begin-requires : goal.begin-requires
begin-requires g c =
    gives_at (λ s. Gives g.J.Divide.key_of g.J.Divide.value g.J.Divide.leaf_of g.J.Divide.combined c.args.self.now.parts.outer.items c.args.self.now.parts.inner.items s (g.J.Divide.value c.args.self.now.key)) _ _
    (Coded-set g.row.J-Out.coded _ _) c.args.self.now.total (sym c.in-Going.ensures.value)

pub after_fork-requires-clause-total : goal.after_fork-requires-clause-total
after_fork-requires-clause-total g c =
    let gives = gives_at (λ s. Gives g.J.Divide.key_of g.J.Divide.value g.J.Divide.leaf_of g.J.Divide.combined c.args.self.now.parts.outer.items c.args.self.now.parts.inner.items s (g.J.Divide.value c.args.self.now.key)) _ _
    (both_prop (Coded-set g.row.J-Out.coded _ _) (Coded-set g.row.J-Out.coded _ _)) c.args.self.now.total (sym c.in-Forking.ensures.value) in
    gives.0

pub after_fork-requires-clause-leaf : goal.after_fork-requires-clause-leaf
after_fork-requires-clause-leaf g c =
    let gives = gives_at (λ s. Gives g.J.Divide.key_of g.J.Divide.value g.J.Divide.leaf_of g.J.Divide.combined c.args.self.now.parts.outer.items c.args.self.now.parts.inner.items s (g.J.Divide.value c.args.self.now.key)) _ _
    (both_prop (Coded-set g.row.J-Out.coded _ _) (Coded-set g.row.J-Out.coded _ _)) c.args.self.now.total (sym c.in-Forking.ensures.value) in
    gives.1

pub after_fork-requires-clause-outer_room : goal.after_fork-requires-clause-outer_room
after_fork-requires-clause-outer_room g c =
    let room = gives_at (λ s. HasRoom s ((vec_len c.args.self.now.parts.outer < vec_capacity c.args.self.now.parts.outer) × (deque_len c.args.self.now.parts.inner < deque_capacity c.args.self.now.parts.inner))) _ _ (hlevel le_prop) c.args.self.now.room (sym c.in-Forking.ensures.value) in room.0

pub after_fork-requires-clause-inner_room : goal.after_fork-requires-clause-inner_room
after_fork-requires-clause-inner_room g c =
    let room = gives_at (λ s. HasRoom s ((vec_len c.args.self.now.parts.outer < vec_capacity c.args.self.now.parts.outer) × (deque_len c.args.self.now.parts.inner < deque_capacity c.args.self.now.parts.inner))) _ _ (hlevel le_prop) c.args.self.now.room (sym c.in-Forking.ensures.value) in room.1

pub after_join-requires-clause-total : goal.after_join-requires-clause-total
after_join-requires-clause-total g c =
    gives_at (λ s. Gives g.J.Divide.key_of g.J.Divide.value g.J.Divide.leaf_of g.J.Divide.combined c.args.self.now.parts.outer.items c.args.self.now.parts.inner.items s (g.J.Divide.value c.args.self.now.key)) _ _
    (Coded-set g.row.J-Out.coded _ _) c.args.self.now.total (sym c.in-Waiting.ensures.value)

pub go_up-requires : goal.go_up-requires
go_up-requires g c =
    gives_at (λ s. Gives g.J.Divide.key_of g.J.Divide.value g.J.Divide.leaf_of g.J.Divide.combined c.args.self.now.parts.outer.items c.args.self.now.parts.inner.items s (g.J.Divide.value c.args.self.now.key)) _ _
    (Coded-set g.row.J-Out.coded _ _) c.args.self.now.total (sym c.in-Skipping.ensures.value)

pub returns-in-Skipping-clause-right : goal.returns-in-Skipping-clause-right
returns-in-Skipping-clause-right g c = rw c.go_up.ensures.key at c.go_up.ensures.asks.rightly

pub returns-in-Skipping-clause-nearer : goal.returns-in-Skipping-clause-nearer
returns-in-Skipping-clause-nearer g c = rw (sym c.in-Skipping.ensures.value) c.go_up.ensures.asks.nearer

pub returns-in-Leaving-clause-right : goal.returns-in-Leaving-clause-right
returns-in-Leaving-clause-right g c = rw c.leave.ensures.key at c.leave.ensures.asks.rightly

pub returns-in-Leaving-clause-nearer : goal.returns-in-Leaving-clause-nearer
returns-in-Leaving-clause-nearer g c = rw (sym c.in-Leaving.ensures.value) c.leave.ensures.asks.nearer

pub returns-clause-right : goal.returns-clause-right
returns-clause-right g c = rw c.leave-in-Over.ensures.key at c.leave-in-Over.ensures.asks.rightly

pub returns-clause-nearer : goal.returns-clause-nearer
returns-clause-nearer g c = rw (sym c.in-Over.ensures.value) c.leave-in-Over.ensures.asks.nearer
