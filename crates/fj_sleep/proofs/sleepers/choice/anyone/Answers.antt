use Rattle.fj_sleep.proofs.Nobody.{asleep_from_resting}
use Rattle.fj_sleep.proofs.sleepers.choice.anyone.Goals as goal

pub returns-in-Some : goal.returns-in-Some
returns-in-Some g c = record {
  asleep = (c.in-Some.ensures.0.0, asleep_from_resting _ c.in-Some.ensures.0.1);
  rests = λ q at. c.in-Some.ensures.0;
  spares = λ q at other. c.in-Some.ensures.1;
}
