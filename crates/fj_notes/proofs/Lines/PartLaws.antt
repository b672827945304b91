-- What a milestone and a label mean as parts of a line.
use Rattle.std.proofs.Common.{◌≡◌, ℕ, ◌≤◌, Bool, true, false, List, [], ◌∷◌, ◌++◌, length, Some, None, refl, sym, ap, subst, ◌∙◌, arith}
use Rattle.std.specs.Prelude.{not, codes}
use Rattle.std.specs.Str.{bytes_eq}
use Rattle.fj_lines.specs.Words.{words, joined}
use Rattle.fj_lines.proofs.Reading.NumberLaws.{both_parts}
use Rattle.fj_lines.proofs.Reading.WordLaws.{is_space, is_word, words_cut, joined_words}
use Rattle.fj_lines.proofs.Reading.PartLaws.{some_is, chosen, is_text}
use Rattle.fj_notes.specs.declared.milestone.Milestone.{Milestone}
use Rattle.fj_notes.specs.declared.milestone.Milestone.TheVariants.{Begin, End, Fire, Hooked}
use Rattle.fj_notes.specs.Labels.{IsLabel, is_label}
use Rattle.fj_notes.specs.Notes.{milestone_word}
use Rattle.fj_notes.specs.NoteReadings.{milestone_said, label_in, label_said}

-- ---- milestones

pub milestone_found : (word : List ℕ) (m : Milestone) → milestone_said word ≡ Some m → word ≡ milestone_word m
milestone_found word m e =
    chosen (bytes_eq word (codes "begin")) (Some Begin) _ (Some m) e (λ yes is. is_text word (codes "begin") yes ∙ ap milestone_word (some_is Begin m is)) (λ e1.
    chosen (bytes_eq word (codes "end")) (Some End) _ (Some m) e1 (λ yes is. is_text word (codes "end") yes ∙ ap milestone_word (some_is End m is)) (λ e2.
    chosen (bytes_eq word (codes "fire")) (Some Fire) _ (Some m) e2 (λ yes is. is_text word (codes "fire") yes ∙ ap milestone_word (some_is Fire m is)) (λ e3.
    chosen (bytes_eq word (codes "hooked")) (Some Hooked) None (Some m) e3 (λ yes is. is_text word (codes "hooked") yes ∙ ap milestone_word (some_is Hooked m is)) (λ e4. absurd cc))))

pub milestone_again : (m : Milestone) → milestone_said (milestone_word m) ≡ Some m
milestone_again Begin = refl
milestone_again End = refl
milestone_again Fire = refl
milestone_again Hooked = refl

pub milestone_is_word : (m : Milestone) → is_word (milestone_word m) ≡ true
milestone_is_word Begin = refl
milestone_is_word End = refl
milestone_is_word Fire = refl
milestone_is_word Hooked = refl

pub milestone_len : (m : Milestone) → length (milestone_word m) ≤ 6
milestone_len Begin = omega arith
milestone_len End = omega arith
milestone_len Fire = omega arith
milestone_len Hooked = omega arith

-- ---- labels

-- the words that are left make the label: behind a word they are the same bytes
pub label_found : (rest : List (List ℕ)) (label : List ℕ) → label_said rest ≡ Some label → IsLabel label × ((v : List ℕ) → joined (v ∷ rest) ≡ joined (v ∷ label ∷ []))
label_found [] label e = absurd cc
label_found (w ∷ ws) label e =
    chosen (is_label (joined (w ∷ ws))) (Some (joined (w ∷ ws))) None (Some label) e (λ yes is.
    let same = some_is (joined (w ∷ ws)) label is in
    (subst (λ (t : List ℕ). IsLabel t) same yes, λ v. ap (λ (t : List ℕ). v ++ 32 ∷ t) same)) (λ none. absurd cc)

-- all words of a text make that text
pub label_whole : (text : List ℕ) → label_said (words text) ≡ label_in text
label_whole text =
    let cut = words_cut text in
    let whole = ap joined (sym cut) ∙ joined_words text in
    ap label_said cut ∙ ap label_in whole

pub label_again : (label : List ℕ) → IsLabel label → label_said (words label) ≡ Some label
label_again label is =
    let text : label_in label ≡ Some label = rw is refl in
    label_whole label ∙ text

-- ---- a word, a space, and anything

no_space : (b : ℕ) → not (is_space b) ≡ true → is_space b ≡ false
no_space b e = go (is_space b) e
  where
    go : (t : Bool) → not t ≡ true → t ≡ false
    go true h = absurd cc
    go false h = refl

pub split_more : (w line : List ℕ) → is_word w ≡ true → words (w ++ 32 ∷ line) ≡ w ∷ words line
unfolding words
split_more [] line all = refl
split_more (b ∷ w) line all =
    let both = both_parts (not (is_space b)) (is_word w) all in
    rw (no_space b both.0, split_more w line both.1) refl
