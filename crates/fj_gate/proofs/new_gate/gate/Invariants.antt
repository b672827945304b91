use Rattle.std.proofs.Common.{◌≡◌, ◌-◌, [], All, vec_len}
use Rattle.std.specs.Arc.{arc_value}
use Rattle.fj_gate.specs.Ends.{new_entrant}
use Rattle.fj_gate.specs.Steps.{fresh}
use Rattle.fj_gate.proofs.new_gate.gate.Given as goal

abbrev pub invariant-loop : goal.invariant-loop
invariant-loop l = record {
  place : (arc_value l.table).shared.table_id ≡ l.token.table_id;
  words : l.token.table_id.words ≡ 1;
  first : l.token.id ≡ 0;
  me : l.token.me ≡ (fresh (32 - l.counter), []);
  count : vec_len l.entrants ≡ l.counter;
  fresh : All (λ e. e ≡ new_entrant l.token.table_id l.each) l.entrants.items;
}
