use Rattle.std.proofs.Common.{◌≡◌}
use Rattle.fj_jobs.specs.Ranges.{residues_least}
use Rattle.fj_jobs.proofs.linear_mod.LinearMod.least.Given as goal

abbrev pub invariant-loop-i : goal.invariant-loop-i
invariant-loop-i l = l.best ≡ residues_least l.self.mul l.self.add l.self.modulus l.numbers.from l.i
