-- How a body ends, in words.
use Rattle.std.proofs.Common.{◌≡◌, ℕ, true, List, [], ◌∷◌, Option, Some, None, refl, ap, subst, ◌∙◌}
use Rattle.std.specs.Prelude.{codes}
use Rattle.std.specs.Fmt.{decimal}
use Rattle.std.specs.List.{list_all}
use Rattle.std.specs.Str.{bytes_eq}
use Rattle.fj_rules.specs.declared.step.Ending.{Ending}
use Rattle.fj_rules.specs.declared.step.Ending.TheVariants as ending
use Rattle.fj_lines.specs.Words.{◌>>=◌, if_last, one_number}
use Rattle.fj_lines.specs.Lines.{ending_words, HasSmallEnding}
use Rattle.fj_lines.specs.Readings.End.{ending_word_said, ending_said}
use Rattle.fj_lines.proofs.Reading.WordLaws.{is_word, one_is_words}
use Rattle.fj_lines.proofs.Reading.PartLaws.{some_is, word_then, last_then, some_then, chosen, is_text}
use Rattle.fj_lines.proofs.Reading.FormLaws.{one_then, one_again}

-- the words are those of an ending whose code, if it has one, has 32 bits at most
abbrev pub AreEnding : Ending → List (List ℕ) → Type 0
AreEnding how ws = HasSmallEnding how × (ws ≡ ending_words how)

-- the word is this text, and this is the ending of that word alone
word_is : (word text : List ℕ) (end how : Ending) → bytes_eq word text ≡ true → ◌≡◌ {A = Option Ending} (Some end) (Some how) → AreEnding end (text ∷ []) → AreEnding how (word ∷ [])
word_is word text end how same is p =
    subst (λ (h : Ending). AreEnding h (word ∷ [])) (some_is end how is) (p.0, ap (λ (v : List ℕ). v ∷ []) (is_text word text same) ∙ p.1)

ending_word_found : (word : List ℕ) (how : Ending) → ending_word_said word ≡ Some how → AreEnding how (word ∷ [])
ending_word_found word how e =
    chosen (bytes_eq word (codes "ok")) (Some ending.Ok) _ (Some how) e (λ yes is. word_is word (codes "ok") ending.Ok how yes is (tt, refl)) (λ e1.
    chosen (bytes_eq word (codes "quiet")) (Some ending.Quiet) _ (Some how) e1 (λ yes is. word_is word (codes "quiet") ending.Quiet how yes is (tt, refl)) (λ e2.
    chosen (bytes_eq word (codes "try")) (Some ending.Try) _ (Some how) e2 (λ yes is. word_is word (codes "try") ending.Try how yes is (tt, refl)) (λ e3.
    chosen (bytes_eq word (codes "pass")) (Some ending.Pass) _ (Some how) e3 (λ yes is. word_is word (codes "pass") ending.Pass how yes is (tt, refl)) (λ e4.
    chosen (bytes_eq word (codes "complete")) (Some ending.Complete) None (Some how) e4 (λ yes is. word_is word (codes "complete") ending.Complete how yes is (tt, refl)) (λ e5. absurd cc)))))

pub ending_found : (ws : List (List ℕ)) (how : Ending) → ending_said ws ≡ Some how → AreEnding how ws
unfolding ending_said
ending_found ws how e =
    word_then ws _ how e (λ word rest all said.
    chosen (bytes_eq word (codes "fail")) (one_number rest >>= λ code. Some (ending.Fail code)) _ (Some how) said
    (λ yes found. one_then rest (λ code. Some (ending.Fail code)) how found (λ code small text is.
    let verb = is_text word (codes "fail") yes in
    let whole : ws ≡ codes "fail" ∷ decimal code ∷ [] = cc in
    subst (λ (h : Ending). AreEnding h ws) (some_is (ending.Fail code) how is) (small, whole)))
    (λ found. some_then (ending_word_said word) (λ h. if_last rest h) how found (λ h read is.
    last_then rest h how is (λ none same.
    let alone = ending_word_found word h read in
    let text = alone.1 in
    let whole : ws ≡ ending_words h = cc in
    subst (λ (g : Ending). AreEnding g ws) same (alone.0, whole)))))

pub ending_again : (how : Ending) → HasSmallEnding how → ending_said (ending_words how) ≡ Some how
unfolding ending_said
ending_again ending.Ok fits = refl
ending_again ending.Quiet fits = refl
ending_again ending.Try fits = refl
ending_again ending.Pass fits = refl
ending_again ending.Complete fits = refl
ending_again (ending.Fail code) fits = rw (one_again code fits) refl

pub ending_are_words : (how : Ending) → HasSmallEnding how → list_all is_word (ending_words how) ≡ true
ending_are_words ending.Ok fits = refl
ending_are_words ending.Quiet fits = refl
ending_are_words ending.Try fits = refl
ending_are_words ending.Pass fits = refl
ending_are_words ending.Complete fits = refl
ending_are_words (ending.Fail code) fits = rw (one_is_words code fits) refl
