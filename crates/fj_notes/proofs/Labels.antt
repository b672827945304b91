-- Labels as texts, and what is written to them.
use Rattle.std.proofs.Common.{◌≡◌, ℕ, ◌+◌, ◌≤◌, ◌<◌, true, List, [], ◌∷◌, ◌++◌, length, length-append, length-take-le, take, get_or, set, map, sym, ap, ◌∙◌, arith, inl, inr, append_assoc}
use Rattle.std.specs.Prelude.{nat_le}
use Rattle.std.specs.List.{list_all}
use Rattle.std.specs.Str.{IsAscii, IsUtf8}
use Rattle.std.proofs.lemmas.Bool.{and_parts, leb-true, cases_lt}
use Rattle.std.proofs.lemmas.List.{append-nil, map-append, take_all, take_at, take-append-le, take_more, take_more_set}
use Rattle.std.proofs.lemmas.Str.{IsUtf8-from_ascii}
use Rattle.std.proofs.lemmas.Str.Ascii.{IsAscii-nil, IsAscii-cons}
use Rattle.fj_notes.specs.declared.label.TheConstants.{MAX_LABEL}
use Rattle.fj_notes.specs.Labels.{IsLabel, is_plain, shown, label_then}

pub label_len : (label : List ℕ) → IsLabel label → length label ≤ MAX_LABEL
label_len label is = leb-true (length label) MAX_LABEL (and_parts (nat_le (length label) MAX_LABEL) (list_all is_plain label) is).0

label_plain : (label : List ℕ) → IsLabel label → list_all is_plain label ≡ true
label_plain label is = (and_parts (nat_le (length label) MAX_LABEL) (list_all is_plain label) is).1

-- ---- a label is text

plain_ascii : (bs : List ℕ) → list_all is_plain bs ≡ true → IsAscii bs
plain_ascii [] all = IsAscii-nil
plain_ascii (b ∷ bs) all =
    let both = and_parts (is_plain b) (list_all is_plain bs) all in
    let most = leb-true b 126 (and_parts (nat_le 32 b) (nat_le b 126) both.0).1 in
    IsAscii-cons b bs (omega arith) (plain_ascii bs both.1)

pub label_utf8 : (label : List ℕ) → IsLabel label → IsUtf8 label
label_utf8 label is = IsUtf8-from_ascii label (plain_ascii label (label_plain label is))

-- ---- a byte is appended

longer : (label : List ℕ) (b : ℕ) → length (label ++ shown b ∷ []) ≡ length label + 1
longer label b = length-append label (shown b ∷ [])

-- where there is room, the bytes up to the next place are the label with that byte
pub pushed : (bytes : List ℕ) (len b : ℕ) → len < MAX_LABEL → length bytes ≡ MAX_LABEL → take (len + 1) (set bytes len (shown b)) ≡ label_then (take len bytes) (b ∷ [])
pushed bytes len b room whole =
    let size : length (take len bytes) ≡ len = length-take-le len bytes (omega arith) in
    take_more_set bytes len (shown b) (omega arith) ∙ sym (take_all MAX_LABEL (take len bytes ++ shown b ∷ []) (omega (arith, size, longer (take len bytes) b)))

-- where there is none, it is cut
pub unpushed : (label : List ℕ) (b : ℕ) → IsLabel label → MAX_LABEL ≤ length label → label ≡ label_then label (b ∷ [])
unpushed label b is full = sym (take_at label (shown b ∷ []) MAX_LABEL (omega (arith, label_len label is)))

-- ---- a text is appended

pub written_none : (label : List ℕ) → IsLabel label → label ≡ label_then label []
written_none label is = sym (ap (take MAX_LABEL) (append-nil label) ∙ take_all MAX_LABEL label (label_len label is))

-- a cut before more is appended changes nothing
cut_then : (n : ℕ) (xs ys : List ℕ) → take n (take n xs ++ ys) ≡ take n (xs ++ ys)
cut_then n xs ys =
    elim (cases_lt n (length xs)) [
      | inl lt ↦ take_at (take n xs) ys n (length-take-le n xs (omega arith)) ∙ sym (take-append-le n xs ys (omega arith))
      | inr le ↦ ap (λ (zs : List ℕ). take n (zs ++ ys)) (take_all n xs le)
    ]

shown_more : (text : List ℕ) (i : ℕ) → i < length text → map shown (take (i + 1) text) ≡ map shown (take i text) ++ shown (get_or text i 0) ∷ []
shown_more text i lt = ap (map shown) (take_more text i 0 lt) ∙ map-append shown (take i text) (get_or text i 0 ∷ [])

-- one byte more of a text
pub written_more : (label text : List ℕ) (i : ℕ) → i < length text → label_then (label_then label (take i text)) (get_or text i 0 ∷ []) ≡ label_then label (take (i + 1) text)
written_more label text i lt =
    let so_far = map shown (take i text) in
    let next = shown (get_or text i 0) ∷ [] in
    cut_then MAX_LABEL (label ++ so_far) next ∙ ap (take MAX_LABEL) (append_assoc label so_far next ∙ ap (λ (zs : List ℕ). label ++ zs) (sym (shown_more text i lt)))
