use Rattle.std.proofs.Common.{◌≡◌, ◌+◌, take}
use Rattle.std.specs.Prelude.{sum}
use Rattle.ex_build.proofs.artifact.size_of.Given as goal

abbrev pub invariant-loop-part : goal.invariant-loop-part
invariant-loop-part l = l.size ≡ l.own + sum (take l.part-index l.parts)
