use Rattle.std.proofs.Common.{◌≡◌, ◌≤◌, ◌+◌, false, [], All, length}
use Rattle.std.specs.Arc.{arc_value}
use Rattle.fj_gate.specs.Ends.{drawn_by}
use Rattle.fj_gate.proofs.tickets.meet.Given as goal

abbrev pub invariant-loop-entrant : goal.invariant-loop-entrant
invariant-loop-entrant l = record {
  next : (goal.iterator-loop-entrant).can_next l.entrant-iterator;
  finite : (goal.iterator-loop-entrant).is_finite l.entrant-iterator;
  place : (arc_value l.table).shared.table_id ≡ l.token.table_id;
  words : l.token.table_id.words ≡ 1;
  same : l.token.table_id ≡ l.initial.token.table_id;
  first : l.token.id ≡ 0;
  no_slot : l.token.me.1 ≡ [];
  parts : l.token.me.0.parts ≡ l.initial.token.me.0.parts + length l.yielded;
  closed : l.token.me.0.closed ≡ l.initial.token.me.0.closed;
  drawn : l.token.me.0.drawn ≡ drawn_by l.yielded;
  told : l.token.me.0.told + l.token.me.0.heard ≡ 0 → All (λ e. e.told ≡ false) l.yielded;
  own : l.initial.token.me.0.seen ≤ l.token.me.0.seen;
  seen : All (λ e. e.seen ≤ l.token.me.0.seen) l.yielded;
}
