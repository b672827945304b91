-- A line that is read as a heading is the line of that heading, and the line of a heading is read as that heading.
use Rattle.std.proofs.Common.{◌≡◌, ℕ, ◌*◌, ◌^◌, ◌<◌, ◌≤◌, true, List, [], ◌∷◌, length, Some, None, refl, sym, ap, subst, ◌∙◌, arith}
use Rattle.std.specs.Prelude.{codes, map, Result, Ok, Err, IfOk, OnOk}
use Rattle.std.specs.Fmt.{decimal}
use Rattle.std.specs.Str.{bytes_eq}
use Rattle.fj_lines.specs.declared.read.TheConstants.{MAX_LINE}
use Rattle.fj_lines.specs.declared.read.fault.LineFault.{LineFault}
use Rattle.std.specs.List.{AllByRecursion, list_all}
use Rattle.fj_rules.specs.declared.mode.Mode.{Mode}
use Rattle.fj_rules.specs.declared.mode.Mode.TheVariants as mode
use Rattle.fj_lines.specs.Words.{joined, words, ◌>>=◌, number_first, if_last, Reads}
use Rattle.fj_lines.specs.Lines.{mode_word, head_words, head_line, HasHeadLine, head_in}
use Rattle.fj_lines.specs.Readings.{mode_in, head_said}
use Rattle.fj_lines.proofs.Reading.NumberLaws.{number_again}
use Rattle.fj_lines.proofs.Reading.WordLaws.{is_word, lengths, length-joined-le, words_again, joined_words, number_is_word}
use Rattle.fj_lines.proofs.Reading.LineLaws.{number_len}
use Rattle.fj_lines.proofs.Reading.FeedLaws.{is_free, joined_free, number_free}
use Rattle.fj_lines.proofs.Reading.PartLaws.{some_is, number_then, word_then, last_then, some_then, chosen, is_text, told}

mode_found : (word : List ℕ) (m : Mode) → mode_in word ≡ Some m → word ≡ mode_word m
mode_found word m e =
    chosen (bytes_eq word (codes "async")) (Some mode.Async) _ (Some m) e (λ yes is. is_text word (codes "async") yes ∙ ap mode_word (some_is mode.Async m is)) (λ e1.
    chosen (bytes_eq word (codes "joining")) (Some mode.Joining) None (Some m) e1 (λ yes is. is_text word (codes "joining") yes ∙ ap mode_word (some_is mode.Joining m is)) (λ e2. absurd cc))

mode_again : (m : Mode) → mode_in (mode_word m) ≡ Some m
mode_again mode.Async = refl
mode_again mode.Joining = refl

mode_is_word : (m : Mode) → is_word (mode_word m) ≡ true
mode_is_word mode.Async = refl
mode_is_word mode.Joining = refl

head_said_found : (verb : List ℕ) (ws : List (List ℕ)) (head : Mode × List ℕ) → head_said verb ws ≡ Some head → HasHeadLine head × (verb ∷ ws ≡ head_words head)
unfolding head_said
head_said_found verb ws head e =
    some_then (mode_in verb) (λ m. number_first ws >>= λ a. number_first a.1 >>= λ b. number_first b.1 >>= λ c. number_first c.1 >>= λ d. if_last d.1 (m, a.0 ∷ b.0 ∷ c.0 ∷ d.0 ∷ [])) head e (λ m read said0.
    number_then ws (λ a. number_first a.1 >>= λ b. number_first b.1 >>= λ c. number_first c.1 >>= λ d. if_last d.1 (m, a.0 ∷ b.0 ∷ c.0 ∷ d.0 ∷ [])) head said0 (λ a ws1 a_small e1 said1.
    number_then ws1 (λ b. number_first b.1 >>= λ c. number_first c.1 >>= λ d. if_last d.1 (m, a ∷ b.0 ∷ c.0 ∷ d.0 ∷ [])) head said1 (λ b ws2 b_small e2 said2.
    number_then ws2 (λ c. number_first c.1 >>= λ d. if_last d.1 (m, a ∷ b ∷ c.0 ∷ d.0 ∷ [])) head said2 (λ c ws3 c_small e3 said3.
    number_then ws3 (λ d. if_last d.1 (m, a ∷ b ∷ c ∷ d.0 ∷ [])) head said3 (λ d ws4 d_small e4 said4.
    last_then ws4 (m, a ∷ b ∷ c ∷ d ∷ []) head said4 (λ none is.
    let verb_is = mode_found verb m read in
    let texts : verb ∷ ws ≡ mode_word m ∷ decimal a ∷ decimal b ∷ decimal c ∷ decimal d ∷ [] = cc in
    subst (λ (h : Mode × List ℕ). HasHeadLine h × (verb ∷ ws ≡ head_words h)) is
    (record { four = refl; small = (a_small, (b_small, (c_small, (d_small, tt)))) }, texts)))))))

-- a line that is read as a heading is the heading's line
pub head_found : (line : List ℕ) (head : Mode × List ℕ) → head_in line ≡ Some head → HasHeadLine head × (line ≡ head_line head)
unfolding head_in
head_found line head e =
    word_then (words line) (λ verb. head_said verb.0 verb.1) head e (λ verb rest all said.
    let found = head_said_found verb rest head said in
    (found.0, sym (joined_words line) ∙ ap joined (all ∙ found.1)))

head_said_again : (verb : List ℕ) (ws : List (List ℕ)) (head : Mode × List ℕ) → words (joined (verb ∷ ws)) ≡ verb ∷ ws → head_said verb ws ≡ Some head → head_in (joined (verb ∷ ws)) ≡ Some head
unfolding head_in
head_said_again verb ws head all said = rw all said

head_again_at : (m : Mode) (ns : List ℕ) → length ns ≡ 4 → AllByRecursion (λ n. n < 2 ^ 32) ns → head_in (head_line (m, ns)) ≡ Some (m, ns)
unfolding head_said
head_again_at m (a ∷ b ∷ c ∷ d ∷ []) four small =
    let mode = mode_is_word m in
    let worker = number_is_word a small.0 in
    let submitter = number_is_word b small.1.0 in
    let task = number_is_word c small.1.1.0 in
    let event = number_is_word d small.1.1.1.0 in
    let texts : List (List ℕ) = decimal a ∷ decimal b ∷ decimal c ∷ decimal d ∷ [] in
    head_said_again (mode_word m) texts (m, a ∷ b ∷ c ∷ d ∷ [])
    (words_again (mode_word m) texts (rw (mode, worker, submitter, task, event) refl))
    (rw (mode_again m, number_again a small.0, number_again b small.1.0, number_again c small.1.1.0, number_again d small.1.1.1.0) refl)
head_again_at m [] four small = absurd (omega arith)
head_again_at m (a ∷ []) four small = absurd (omega arith)
head_again_at m (a ∷ b ∷ []) four small = absurd (omega arith)
head_again_at m (a ∷ b ∷ c ∷ []) four small = absurd (omega arith)
head_again_at m (a ∷ b ∷ c ∷ d ∷ e ∷ ns) four small = absurd (omega arith)

-- the line of a heading is read as that heading
pub head_again : (head : Mode × List ℕ) → HasHeadLine head → head_in (head_line head) ≡ Some head
head_again head fits = head_again_at head.0 head.1 fits.four fits.small

-- ---- a heading is short

numbers_short : (ns : List ℕ) → AllByRecursion (λ n. n < 2 ^ 32) ns → lengths (map decimal ns) ≤ 11 * length ns
numbers_short [] small = omega arith
numbers_short (n ∷ ns) small = omega (arith, number_len n small.0, numbers_short ns small.1)

mode_len : (m : Mode) → length (mode_word m) ≤ 7
mode_len mode.Async = omega arith
mode_len mode.Joining = omega arith

-- the line of a heading has few bytes
pub head_short : (line : List ℕ) (head : Mode × List ℕ) → head_in line ≡ Some head → length line ≤ MAX_LINE
head_short line head e =
    let found = head_found line head e in
    let same = ap length found.1 in
    let mode = mode_len head.0 in
    let four = found.0.four in
    omega (arith, same, length-joined-le (mode_word head.0 ∷ map decimal head.1), numbers_short head.1 found.0.small)

-- ---- a heading has no line feed

numbers_free : (ns : List ℕ) → AllByRecursion (λ n. n < 2 ^ 32) ns → list_all is_free (map decimal ns) ≡ true
numbers_free [] small = refl
numbers_free (n ∷ ns) small = rw (number_free n small.0, numbers_free ns small.1) refl

mode_free : (m : Mode) → is_free (mode_word m) ≡ true
mode_free mode.Async = refl
mode_free mode.Joining = refl

pub head_free : (head : Mode × List ℕ) → HasHeadLine head → is_free (head_line head) ≡ true
head_free head fits = joined_free (head_words head) (rw (mode_free head.0, numbers_free head.1 fits.small) refl)

-- ---- what a reader of headings answers

pub head_tells : (line verb : List ℕ) (ws : List (List ℕ)) (result : Result (Mode × List ℕ) LineFault) → words line ≡ verb ∷ ws → Reads (head_said verb ws) result → Reads (head_in line) result
unfolding head_in
head_tells line verb ws result all tells = rw all tells

-- what is read is written so
pub head_written : (line : List ℕ) (result : Result (Mode × List ℕ) LineFault) → Reads (head_in line) result → IfOk result (λ head. HasHeadLine head × (line ≡ head_line head))
head_written line (Ok head) tells = head_found line head tells
head_written line (Err e) tells = tt

-- what is written so is read
pub head_read : (line : List ℕ) (result : Result (Mode × List ℕ) LineFault) → Reads (head_in line) result → (head : Mode × List ℕ) → HasHeadLine head → line ≡ head_line head → result ≡ Ok head
head_read line result tells head fits is = told (head_in line) head result (ap head_in is ∙ head_again head fits) tells

pub head_read_short : (line : List ℕ) (result : Result (Mode × List ℕ) LineFault) → Reads (head_in line) result → OnOk result (length line ≤ MAX_LINE)
head_read_short line (Ok head) tells = head_short line head tells
head_read_short line (Err e) tells = tt
