-- How tasks are called.
use Rattle.std.specs.Prelude.{ℕ, Bool, true, ◌≡◌, ◌&&◌, nat_le, if◌then◌else◌, List, ◌++◌, length, map, take}
use Rattle.std.specs.List.{list_all}
use Rattle.fj_notes.specs.declared.label.TheConstants.{MAX_LABEL}

-- a printable ASCII character
abbrev pub is_plain : ℕ → Bool
is_plain byte = nat_le 32 byte && nat_le byte 126

-- whether this is a label: at most 64 such characters
abbrev pub is_label : List ℕ → Bool
is_label text = nat_le (length text) MAX_LABEL && list_all is_plain text

abbrev pub IsLabel : List ℕ → Type 0
IsLabel text = is_label text ≡ true

-- a byte as it is shown in a label: any other one becomes `?`
abbrev pub shown : ℕ → ℕ
shown byte = if is_plain byte then byte else 63

-- a label behind which a text was written: what is too long is cut
abbrev pub label_then : List ℕ → List ℕ → List ℕ
label_then label text = take MAX_LABEL (label ++ map shown text)
