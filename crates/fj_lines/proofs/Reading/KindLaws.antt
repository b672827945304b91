-- What a completer's line says of its count and its relay word, and what a submitted task is.
use Rattle.std.proofs.Common.{◌≡◌, ℕ, ◌^◌, ◌<◌, Bool, true, false, List, [], ◌∷◌, Option, Some, None, refl, sym, ap, subst, ◌∙◌}
use Rattle.std.specs.Prelude.{codes}
use Rattle.std.specs.Fmt.{decimal}
use Rattle.std.specs.List.{list_all}
use Rattle.std.specs.Str.{bytes_eq}
use Rattle.fj_rules.specs.declared.kind.SubmittedKind.{SubmittedKind}
use Rattle.fj_rules.specs.declared.kind.SubmittedKind.TheVariants as submitted
use Rattle.fj_lines.specs.Words.{◌>>=◌, word_first, is_last, if_last}
use Rattle.fj_lines.specs.Lines.{relay_word, submitted_words, HasSmallSubmitted}
use Rattle.fj_lines.specs.Readings.Accept.{relay_said, count_and_relay, submitted_said}
use Rattle.fj_lines.proofs.Reading.NumberLaws.{number_again}
use Rattle.fj_lines.proofs.Reading.WordLaws.{is_word, number_is_word}
use Rattle.fj_lines.proofs.Reading.PartLaws.{some_is, number_then, word_then, last_then, some_then, chosen, is_text}
use Rattle.fj_lines.proofs.Reading.FormLaws.{none_left}

-- ---- a count and a relay word

relay_found : (word : List ℕ) (relay : Bool) → relay_said word ≡ Some relay → word ≡ relay_word relay
relay_found word relay e =
    chosen (bytes_eq word (codes "relay")) (Some true) _ (Some relay) e (λ yes is. is_text word (codes "relay") yes ∙ ap relay_word (some_is true relay is)) (λ e1.
    chosen (bytes_eq word (codes "stop")) (Some false) None (Some relay) e1 (λ yes is. is_text word (codes "stop") yes ∙ ap relay_word (some_is false relay is)) (λ e2. absurd cc))

relay_again : (relay : Bool) → relay_said (relay_word relay) ≡ Some relay
relay_again true = refl
relay_again false = refl

relay_is_word : (relay : Bool) → is_word (relay_word relay) ≡ true
relay_is_word true = refl
relay_is_word false = refl

-- where words go on with a count and a relay word that are all that is left, these are all that stands there
pub count_then : {A P : Type 0} (ws : List (List ℕ)) (f : ℕ × Bool → Option A) (y : A) → (count_and_relay ws >>= f) ≡ Some y
    → ((count : ℕ) (relay : Bool) → count < 2 ^ 32 → ws ≡ decimal count ∷ relay_word relay ∷ [] → f (count, relay) ≡ Some y → P) → P
unfolding count_and_relay
count_then ws f y e then =
    some_then (count_and_relay ws) f y e (λ p read said.
    number_then ws (λ n. word_first n.1 >>= λ word. relay_said word.0 >>= λ relay. if_last word.1 (n.0, relay)) p read (λ n rest small first read1.
    word_then rest (λ word. relay_said word.0 >>= λ relay. if_last word.1 (n, relay)) p read1 (λ word end second read2.
    some_then (relay_said word) (λ relay. if_last end (n, relay)) p read2 (λ relay third read3.
    last_then end (n, relay) p read3 (λ none is.
    let text = relay_found word relay third in
    let all : ws ≡ decimal n ∷ relay_word relay ∷ [] = cc in
    then n relay small all (subst (λ (q : ℕ × Bool). f q ≡ Some y) (sym is) said))))))

pub count_again : (count : ℕ) (relay : Bool) → count < 2 ^ 32 → count_and_relay (decimal count ∷ relay_word relay ∷ []) ≡ Some (count, relay)
unfolding count_and_relay
count_again count relay small = rw (number_again count small, relay_again relay) refl

pub count_are_words : (count : ℕ) (relay : Bool) → count < 2 ^ 32 → list_all is_word (decimal count ∷ relay_word relay ∷ []) ≡ true
count_are_words count relay small =
    let first = number_is_word count small in
    rw (first, relay_is_word relay) refl

-- ---- a submitted task

abbrev pub AreSubmitted : SubmittedKind → List (List ℕ) → Type 0
AreSubmitted k ws = HasSmallSubmitted k × (ws ≡ submitted_words k)

pub submitted_found : (ws : List (List ℕ)) (k : SubmittedKind) → submitted_said ws ≡ Some k → AreSubmitted k ws
unfolding submitted_said
submitted_found ws k e =
    chosen (is_last ws) (Some submitted.Plain) _ (Some k) e
    (λ last is. subst (λ (j : SubmittedKind). AreSubmitted j ws) (some_is submitted.Plain k is) (tt, none_left ws last))
    (λ said. count_then ws (λ p. Some (submitted.Completer p.1 p.0)) k said (λ count relay small all is.
    subst (λ (j : SubmittedKind). AreSubmitted j ws) (some_is (submitted.Completer relay count) k is) (small, all)))

pub submitted_again : (k : SubmittedKind) → HasSmallSubmitted k → submitted_said (submitted_words k) ≡ Some k
unfolding submitted_said
submitted_again submitted.Plain fits = refl
submitted_again (submitted.Completer relay count) fits = rw (count_again count relay fits) refl

pub submitted_are_words : (k : SubmittedKind) → HasSmallSubmitted k → list_all is_word (submitted_words k) ≡ true
submitted_are_words submitted.Plain fits = refl
submitted_are_words (submitted.Completer relay count) fits = count_are_words count relay fits
