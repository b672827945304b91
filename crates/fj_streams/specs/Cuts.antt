-- The lines of bytes.
use Rattle.std.specs.Prelude.{ℕ, ◌==◌, if◌then◌else◌, List, [], ◌∷◌, ◌++◌}
use Rattle.fj_streams.specs.declared.line_buffer.TheConstants.{LINE_FEED}

-- the lines that end with a line feed, where the first begins with rest
abbrev pub cut : List ℕ → List ℕ → List (List ℕ)
cut rest [] = []
cut rest (x ∷ xs) = if x == LINE_FEED then (rest ∷ cut [] xs) else cut (rest ++ x ∷ []) xs

-- what follows the last line feed, where the first line begins with rest
abbrev pub left : List ℕ → List ℕ → List ℕ
left rest [] = rest
left rest (x ∷ xs) = if x == LINE_FEED then left [] xs else left (rest ++ x ∷ []) xs

-- the lines that end with a line feed, without it
abbrev pub lines : List ℕ → List (List ℕ)
lines b = cut [] b

-- what follows the last line feed
abbrev pub rest : List ℕ → List ℕ
rest b = left [] b
