use Rattle.fj_parts.specs.Holdings.{AreTied}
use Rattle.fj_parts.proofs.tied.tie_all.Given as goal

abbrev pub invariant-loop-held : goal.invariant-loop-held
invariant-loop-held g l = record {
  next : (goal.iterator-loop-held g).can_next l.held-iterator;
  finite : (goal.iterator-loop-held g).is_finite l.held-iterator;
  tied : AreTied l.yielded l.tied.items l.ends.items;
}
