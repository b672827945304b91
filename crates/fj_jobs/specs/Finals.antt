-- Values that nothing on their right changes.
use Rattle.std.specs.Prelude.{◌≡◌, List, [], ◌∷◌}

-- these values and then v, combined from the right
abbrev pub ending_in : {O : Type 0} → (O → O → O) → List O → O → O
ending_in combined [] v = v
ending_in combined (x ∷ xs) v = combined x (ending_in combined xs v)

-- combining it with any value on its right gives it again, and the same holds for each value that ends in it
abbrev pub IsFinal : {O : Type 0} → (O → O → O) → O → Type 0
IsFinal {O} combined v = (befores : List O) (after : O) → combined (ending_in combined befores v) after ≡ ending_in combined befores v
