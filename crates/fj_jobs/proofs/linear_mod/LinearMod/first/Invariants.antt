use Rattle.std.proofs.Common.{◌≡◌, None}
use Rattle.fj_jobs.specs.Ranges.{residues_hit}
use Rattle.fj_jobs.proofs.linear_mod.LinearMod.first.Given as goal

-- no number so far has the value
abbrev pub invariant-loop-i : goal.invariant-loop-i
invariant-loop-i l = residues_hit l.self.mul l.self.add l.self.modulus l.want l.numbers.from l.i ≡ None
