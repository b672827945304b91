use Rattle.std.proofs.Common.{◌<◌, sym, ap, map, vec_len, vec_capacity}
use Rattle.std.proofs.Math.Bridge.{le_prop}
use base.Stored.{Coded-set}
use Rattle.fj_recursive.specs.Recursions.{HasRoom, rest_value, left_value, tail_value}
use Rattle.fj_recursive.proofs.Tails.{holds_at, rest_gives}
use Rattle.fj_recursive.proofs.recursive.RecursiveState.turn.Goals as goal

pub begin-requires : goal.begin-requires
begin-requires g c =
    rest_gives (tail_value g.J.Divide.combined (map (left_value g.J.Divide.value) c.args.self.now.lefts.items)) _ _ _
    (Coded-set g.row.J-Out.coded _ _) c.args.self.now.total
    (ap (rest_value g.J.Divide.key_of g.J.Divide.value g.J.Divide.combined) (sym c.in-Going.ensures.value))

pub after_fork-requires-clause-room : goal.after_fork-requires-clause-room
after_fork-requires-clause-room g c =
    holds_at (λ s. HasRoom s (vec_len c.args.self.now.lefts < vec_capacity c.args.self.now.lefts)) _ _ (hlevel le_prop) c.args.self.now.room (sym c.in-Forking.ensures.value)

pub after_fork-requires-clause-total : goal.after_fork-requires-clause-total
after_fork-requires-clause-total g c =
    rest_gives (tail_value g.J.Divide.combined (map (left_value g.J.Divide.value) c.args.self.now.lefts.items)) _ _ _
    (Coded-set g.row.J-Out.coded _ _) c.args.self.now.total
    (ap (rest_value g.J.Divide.key_of g.J.Divide.value g.J.Divide.combined) (sym c.in-Forking.ensures.value))

pub after_join-requires-clause-total : goal.after_join-requires-clause-total
after_join-requires-clause-total g c =
    rest_gives (tail_value g.J.Divide.combined (map (left_value g.J.Divide.value) c.args.self.now.lefts.items)) _ _ _
    (Coded-set g.row.J-Out.coded _ _) c.args.self.now.total
    (ap (rest_value g.J.Divide.key_of g.J.Divide.value g.J.Divide.combined) (sym c.in-Waiting.ensures.value))
