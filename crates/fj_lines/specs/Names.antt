-- The names of tasks in a script.
use Rattle.std.specs.Prelude.{ℕ, Bool, true, false, ◌≡◌, ◌&&◌, ◌||◌, ◌==◌, nat_le, List, [], ◌∷◌, length}
use Rattle.std.specs.List.{list_all}
use Rattle.fj_lines.specs.declared.name.TheConstants.{MAX_NAME}

-- `a` to `z`
abbrev pub is_letter : ℕ → Bool
is_letter byte = nat_le 97 byte && nat_le byte 122

-- a letter, `0` to `9`, or `_`
abbrev pub is_name_byte : ℕ → Bool
is_name_byte byte = is_letter byte || ((nat_le 48 byte && nat_le byte 57) || byte == 95)

-- whether a word is a name: a letter, then such bytes, 16 in all at most
abbrev pub is_name : List ℕ → Bool
is_name [] = false
is_name (first ∷ others) = is_letter first && (nat_le (length (first ∷ others)) MAX_NAME && list_all is_name_byte others)

abbrev pub IsName : List ℕ → Type 0
IsName word = is_name word ≡ true
