-- Bytes up to a separator.
use Rattle.std.specs.Prelude.{ℕ, ◌≢◌, ◌<◌, List, length, slice_index}

-- the separator is none of the bytes
abbrev pub Without : ℕ → List ℕ → Type 0
Without separator bytes = (i : ℕ) → i < length bytes → slice_index bytes i ≢ separator
