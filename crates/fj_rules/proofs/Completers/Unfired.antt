-- In the history of a run no number is fired or passed before it is accepted.
use Rattle.std.proofs.Common.{ℕ, ◌≡◌, true, List, Some, ap}
use Rattle.std.proofs.lemmas.Bool.{eqb-true}
use Rattle.fj_rules.specs.declared.event.Event.{Event}
use Rattle.fj_rules.specs.declared.event.Event.TheVariants.{Fire, Pass}
use Rattle.fj_rules.specs.Completers.{fires_or_passes}
use Rattle.fj_rules.specs.Climbs.{ClimbsCompleters, climbed, climbed_by}
use Rattle.fj_rules.proofs.Completers.Unknown.{IsUnfired, unfired_from}

fires_climb : (e : Event) (c : ℕ) → fires_or_passes c e ≡ true → climbed_by e ≡ Some c
fires_climb (Fire d how) c is = ap Some (eqb-true d c is)
fires_climb (Pass d) c is = ap Some (eqb-true d c is)
fires_climb _ c is = absurd cc

pub climbs_unfired : (h : List Event) → ClimbsCompleters h → IsUnfired h
unfolding climbed
climbs_unfired h climbs = unfired_from climbed_by fires_climb h climbs
