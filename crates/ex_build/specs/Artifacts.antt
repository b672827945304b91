-- The artifact of a target.
use Rattle.std.specs.Prelude.{ℕ, ◌≡◌, ◌+◌, IfSome, Option, length, sum, vec_len}
use Rattle.ex_build.specs.declared.artifact.Artifact.{Artifact}
use Rattle.ex_build.specs.declared.target.Source.{Source}
use Rattle.ex_build.specs.declared.target.Target.{Target}
use Rattle.ex_build.specs.declared.target.Source.TheVariants.{Compiles, Fails}

-- it is linked of objects of so many bytes and one part for each of so many inputs
pub record IsLinked (own inputs : ℕ) (artifact : Artifact) : Type 0 where
  pub parts : vec_len artifact.parts ≡ inputs
  pub size : artifact.size ≡ own + sum artifact.parts.items

-- the same, of objects to which these sources compile; there is none of sources that fail
abbrev pub IsMadeOf : Source → ℕ → Artifact → Type 0
IsMadeOf (Compiles own) inputs artifact = IsLinked own inputs artifact
IsMadeOf (Fails code) inputs artifact = ⊥

-- it is made of the sources of a target, and of as many parts as that has inputs
abbrev pub IsBuilt : Target → Artifact → Type 0
IsBuilt target artifact = IsMadeOf target.source (length target.inputs.now) artifact

-- the result of a target, if it has one, is built of it
abbrev pub IsRight : Target → Option Artifact → Type 0
IsRight target given = IfSome given (IsBuilt target)
