-- What the words of a part mean: of an owner, a kind, a status, and of why a completion action was handed out.
use Rattle.std.proofs.Common.{◌≡◌, ℕ, true, List, [], ◌∷◌, Option, Some, None, refl, ap, subst, ◌∙◌}
use Rattle.std.specs.Prelude.{codes}
use Rattle.std.specs.Fmt.{decimal}
use Rattle.std.specs.List.{list_all}
use Rattle.std.specs.Str.{bytes_eq}
use Rattle.fj_rules.specs.declared.event.How.{How}
use Rattle.fj_rules.specs.declared.event.How.TheVariants.{Zero, Complete}
use Rattle.fj_rules.specs.declared.kind.Kind.{Kind}
use Rattle.fj_rules.specs.declared.kind.Kind.TheVariants as kind
use Rattle.fj_rules.specs.declared.owner.Owner.{Owner}
use Rattle.fj_rules.specs.declared.owner.Owner.TheVariants.{Sub, Work}
use Rattle.fj_rules.specs.declared.status.Status.{Status}
use Rattle.fj_rules.specs.declared.status.Status.TheVariants.{Undone, Normal, Exceptional, Cancelled}
use Rattle.fj_rules.specs.Statuses.{status_words}
use Rattle.fj_lines.specs.Words.{◌>>=◌, number_in, if_last, one_number}
use Rattle.fj_lines.specs.Lines.{parent_word, relay_word}
use Rattle.fj_lines.specs.Readings.Accept.{parent_said, count_and_relay}
use Rattle.fj_lines.proofs.Reading.WordLaws.{is_word, one_is_words}
use Rattle.fj_lines.proofs.Reading.PartLaws.{some_is, word_then, last_then, some_then, chosen, is_text}
use Rattle.fj_lines.proofs.Reading.FormLaws.{one_then, one_again}
use Rattle.fj_lines.proofs.Reading.KindLaws.{count_then, count_again, count_are_words}
use Rattle.fj_lines.proofs.Reading.TaskLaws.{number_tasks, parent_found, parent_again, parent_is_word}
use Rattle.fj_history.specs.Entries.{owner_word, owner_number, kind_words, how_word, HasSmallKind, HasSmallStatus}
use Rattle.fj_history.specs.EntryReadings.{owner_said, completer_kind, kind_said, how_said, status_word_said, status_said}

-- ---- owners

pub owner_found : (word : List ℕ) (n : ℕ) (o : Owner) → owner_said word n ≡ Some o → (word ≡ owner_word o) × (n ≡ owner_number o)
owner_found word n o e =
    chosen (bytes_eq word (codes "sub")) (Some (Sub n)) _ (Some o) e (λ yes is. (is_text word (codes "sub") yes ∙ ap owner_word (some_is (Sub n) o is), ap owner_number (some_is (Sub n) o is))) (λ e1.
    chosen (bytes_eq word (codes "work")) (Some (Work n)) None (Some o) e1 (λ yes is. (is_text word (codes "work") yes ∙ ap owner_word (some_is (Work n) o is), ap owner_number (some_is (Work n) o is))) (λ e2. absurd cc))

pub owner_again : (o : Owner) → owner_said (owner_word o) (owner_number o) ≡ Some o
owner_again (Sub s) = refl
owner_again (Work w) = refl

pub owner_is_word : (o : Owner) → is_word (owner_word o) ≡ true
owner_is_word (Sub s) = refl
owner_is_word (Work w) = refl

-- ---- kinds

-- the words are those of a kind whose numbers have 32 bits at most
abbrev pub AreKind : Kind → List (List ℕ) → Type 0
AreKind k ws = HasSmallKind k × (ws ≡ kind_words k)

completer_found : (ws : List (List ℕ)) (k : Kind) → completer_kind ws ≡ Some k → AreKind k (codes "completer" ∷ ws)
unfolding completer_kind
completer_found ws k e =
    word_then ws (λ word. parent_said number_in word.0 >>= λ parent. count_and_relay word.1 >>= λ p. Some (kind.Completer p.1 p.0 parent)) k e (λ word rest first said1.
    some_then (parent_said number_in word) (λ parent. count_and_relay rest >>= λ p. Some (kind.Completer p.1 p.0 parent)) k said1 (λ parent read said2.
    count_then rest (λ p. Some (kind.Completer p.1 p.0 parent)) k said2 (λ count relay small all is.
    let known = parent_found number_tasks word parent read in
    let text = known.1 in
    let whole : codes "completer" ∷ ws ≡ codes "completer" ∷ parent_word parent ∷ decimal count ∷ relay_word relay ∷ [] = cc in
    subst (λ (j : Kind). AreKind j (codes "completer" ∷ ws)) (some_is (kind.Completer relay count parent) k is) ((known.0, small), whole))))

pub kind_found : (ws : List (List ℕ)) (k : Kind) → kind_said ws ≡ Some k → AreKind k ws
unfolding kind_said
kind_found ws k e =
    word_then ws _ k e (λ word rest all said.
    chosen (bytes_eq word (codes "plain")) (if_last rest kind.Plain) _ (Some k) said
    (λ yes is. last_then rest kind.Plain k is (λ none same.
    let text = is_text word (codes "plain") yes in
    let whole : ws ≡ codes "plain" ∷ [] = cc in
    subst (λ (j : Kind). AreKind j ws) same (tt, whole)))
    (λ e1. chosen (bytes_eq word (codes "completer")) (completer_kind rest) None (Some k) e1
    (λ yes is.
    let found = completer_found rest k is in
    (found.0, all ∙ ap (λ (v : List ℕ). v ∷ rest) (is_text word (codes "completer") yes) ∙ found.1))
    (λ e2. absurd cc)))

pub kind_again : (k : Kind) → HasSmallKind k → kind_said (kind_words k) ≡ Some k
unfolding kind_said completer_kind
kind_again kind.Plain fits = refl
kind_again (kind.Completer relay count parent) fits = rw (parent_again number_tasks parent fits.0, count_again count relay fits.1) refl

pub kind_are_words : (k : Kind) → HasSmallKind k → list_all is_word (kind_words k) ≡ true
kind_are_words kind.Plain fits = refl
kind_are_words (kind.Completer relay count parent) fits =
    let first = parent_is_word number_tasks parent fits.0 in
    rw (first, count_are_words count relay fits.1) refl

-- ---- why a completion action was handed out

pub how_found : (word : List ℕ) (how : How) → how_said word ≡ Some how → word ≡ how_word how
how_found word how e =
    chosen (bytes_eq word (codes "zero")) (Some Zero) _ (Some how) e (λ yes is. is_text word (codes "zero") yes ∙ ap how_word (some_is Zero how is)) (λ e1.
    chosen (bytes_eq word (codes "complete")) (Some Complete) None (Some how) e1 (λ yes is. is_text word (codes "complete") yes ∙ ap how_word (some_is Complete how is)) (λ e2. absurd cc))

pub how_again : (how : How) → how_said (how_word how) ≡ Some how
how_again Zero = refl
how_again Complete = refl

pub how_is_word : (how : How) → is_word (how_word how) ≡ true
how_is_word Zero = refl
how_is_word Complete = refl

-- ---- statuses

-- the words are those of a status whose code, if it has one, has 32 bits at most
abbrev pub AreStatus : Status → List (List ℕ) → Type 0
AreStatus s ws = HasSmallStatus s × (ws ≡ status_words s)

-- the word is this text, and this is the status of that word alone
word_is : (word text : List ℕ) (end s : Status) → bytes_eq word text ≡ true → ◌≡◌ {A = Option Status} (Some end) (Some s) → AreStatus end (text ∷ []) → AreStatus s (word ∷ [])
word_is word text end s same is p =
    subst (λ (h : Status). AreStatus h (word ∷ [])) (some_is end s is) (p.0, ap (λ (v : List ℕ). v ∷ []) (is_text word text same) ∙ p.1)

status_word_found : (word : List ℕ) (s : Status) → status_word_said word ≡ Some s → AreStatus s (word ∷ [])
status_word_found word s e =
    chosen (bytes_eq word (codes "normal")) (Some Normal) _ (Some s) e (λ yes is. word_is word (codes "normal") Normal s yes is (tt, refl)) (λ e1.
    chosen (bytes_eq word (codes "cancelled")) (Some Cancelled) _ (Some s) e1 (λ yes is. word_is word (codes "cancelled") Cancelled s yes is (tt, refl)) (λ e2.
    chosen (bytes_eq word (codes "undone")) (Some Undone) None (Some s) e2 (λ yes is. word_is word (codes "undone") Undone s yes is (tt, refl)) (λ e3. absurd cc)))

pub status_found : (ws : List (List ℕ)) (s : Status) → status_said ws ≡ Some s → AreStatus s ws
unfolding status_said
status_found ws s e =
    word_then ws _ s e (λ word rest all said.
    chosen (bytes_eq word (codes "exceptional")) (one_number rest >>= λ code. Some (Exceptional code)) _ (Some s) said
    (λ yes found. one_then rest (λ code. Some (Exceptional code)) s found (λ code small text is.
    let verb = is_text word (codes "exceptional") yes in
    let whole : ws ≡ codes "exceptional" ∷ decimal code ∷ [] = cc in
    subst (λ (h : Status). AreStatus h ws) (some_is (Exceptional code) s is) (small, whole)))
    (λ found. some_then (status_word_said word) (λ h. if_last rest h) s found (λ h read is.
    last_then rest h s is (λ none same.
    let alone = status_word_found word h read in
    let text = alone.1 in
    let whole : ws ≡ status_words h = cc in
    subst (λ (g : Status). AreStatus g ws) same (alone.0, whole)))))

pub status_again : (s : Status) → HasSmallStatus s → status_said (status_words s) ≡ Some s
unfolding status_said
status_again Undone fits = refl
status_again Normal fits = refl
status_again Cancelled fits = refl
status_again (Exceptional code) fits = rw (one_again code fits) refl

pub status_are_words : (s : Status) → HasSmallStatus s → list_all is_word (status_words s) ≡ true
status_are_words Undone fits = refl
status_are_words Normal fits = refl
status_are_words Cancelled fits = refl
status_are_words (Exceptional code) fits = rw (one_is_words code fits) refl
