-- How a line names a task: by its number in version 1, by its name in version 2. A line by which a task enters the pool gives it a label
-- in front of its other words: nothing in version 1, where tasks are counted, and its name in version 2.
use Rattle.std.specs.Prelude.{ℕ, ◌^◌, ◌<◌, List, [], ◌∷◌, decimal}
use Rattle.fj_lines.specs.Names.{IsName}

-- the number has 32 bits at most
abbrev pub IsSmall : ℕ → Type 0
IsSmall n = n < 2 ^ 32

-- the word of a task, the words of a label, and which tasks and labels have them
pub record TaskWords (T N : Type 0) : Type 1 where
  pub word : T → List ℕ
  pub front : N → List (List ℕ)
  pub IsTask : T → Type 0
  pub IsLabel : N → Type 0

abbrev pub numbers : TaskWords ℕ Unit
numbers = record {
  word = decimal;
  front = λ label. [];
  IsTask = IsSmall;
  IsLabel = λ label. Unit {0};
}

abbrev pub names : TaskWords (List ℕ) (List ℕ)
names = record {
  word = λ name. name;
  front = λ name. name ∷ [];
  IsTask = IsName;
  IsLabel = IsName;
}
