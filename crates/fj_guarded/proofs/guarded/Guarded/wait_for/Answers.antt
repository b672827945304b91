use Rattle.std.specs.Prelude.{None}
use Rattle.fj_guarded.proofs.guarded.Guarded.wait_for.Goals as goal

pub returns-clause-waits : goal.returns-clause-waits
returns-clause-waits g c = record { looked = None; looks = c.sleep_until.ensures.1; next_is = rw c.sleep_until.ensures.1 c.sleep_until.ensures.0 }
