-- A line that is read as an entry is the line of that entry, word by word.
use Rattle.std.proofs.Common.{◌≡◌, ℕ, ◌^◌, ◌<◌, true, List, [], ◌∷◌, Option, Some, None, refl, ap, subst, ◌∙◌}
use Rattle.std.specs.Prelude.{codes}
use Rattle.std.specs.Fmt.{decimal}
use Rattle.std.specs.Str.{bytes_eq}
use Rattle.fj_rules.specs.declared.event.Event.TheVariants.{Acc, Make, Out, Skip, End, Add, Dec, Fire, Pass, Hooked, Settle, Close, Stop, Rel}
use Rattle.fj_lines.specs.Words.{◌>>=◌, word_first, number_first, if_last, one_number, two_numbers}
use Rattle.fj_lines.specs.Tasks.{IsSmall}
use Rattle.fj_lines.proofs.Reading.PartLaws.{some_is, number_then, word_then, last_then, some_then, chosen, is_text}
use Rattle.fj_lines.proofs.Reading.FormLaws.{one_then, two_then}
use Rattle.fj_history.specs.declared.entry.Entry.{Entry}
use Rattle.fj_history.specs.declared.entry.Entry.TheVariants as entry
use Rattle.fj_history.specs.Entries.{owner_word, owner_number, kind_words, how_word, entry_words, HasEntryLine}
use Rattle.fj_history.specs.EntryReadings.{owner_said, kind_said, how_said, status_said, acc_in, make_in, out_in, skip_in, end_in, add_in, dec_in, fire_in, pass_in, hooked_in, settle_in, rel_in, rare_said, completer_said, entry_said}
use Rattle.fj_history.proofs.Entries.PartLaws.{owner_found, kind_found, how_found, status_found}

-- the words are those of an entry that has a line
abbrev pub AreEntry : Entry → List (List ℕ) → Type 0
AreEntry e ws = HasEntryLine e × (ws ≡ entry_words e)

-- the entry that is said, where these are its words after the first
said_words : (verb : List ℕ) (ws vs : List (List ℕ)) (t s : Entry) → ws ≡ vs → ◌≡◌ {A = Option Entry} (Some t) (Some s) → AreEntry t (verb ∷ vs) → AreEntry s (verb ∷ ws)
said_words verb ws vs t s same is p =
    subst (λ (u : Entry). AreEntry u (verb ∷ ws)) (some_is t s is) (p.0, ap (λ (rest : List (List ℕ)). verb ∷ rest) same ∙ p.1)

none_found : (verb : List ℕ) (ws : List (List ℕ)) (t s : Entry) → if_last ws t ≡ Some s → AreEntry t (verb ∷ []) → AreEntry s (verb ∷ ws)
none_found verb ws t s e p = last_then ws t s e (λ none is. said_words verb ws [] t s none (ap (λ (u : Entry). Some u) is) p)

one_found : (verb : List ℕ) (ws : List (List ℕ)) (f : ℕ → Entry) (s : Entry) → (one_number ws >>= λ a. Some (f a)) ≡ Some s
    → ((a : ℕ) → a < 2 ^ 32 → AreEntry (f a) (verb ∷ decimal a ∷ [])) → AreEntry s (verb ∷ ws)
one_found verb ws f s e each =
    one_then ws (λ a. Some (f a)) s e (λ a a_small all is.
    said_words verb ws (decimal a ∷ []) (f a) s all is (each a a_small))

two_found : (verb : List ℕ) (ws : List (List ℕ)) (f : ℕ × ℕ → Entry) (s : Entry) → (two_numbers ws >>= λ p. Some (f p)) ≡ Some s
    → ((a b : ℕ) → a < 2 ^ 32 → b < 2 ^ 32 → AreEntry (f (a, b)) (verb ∷ decimal a ∷ decimal b ∷ [])) → AreEntry s (verb ∷ ws)
two_found verb ws f s e each =
    two_then ws (λ p. Some (f p)) s e (λ a b a_small b_small all is.
    said_words verb ws (decimal a ∷ decimal b ∷ []) (f (a, b)) s all is (each a b a_small b_small))

-- the same, where the first word is this text
with_verb : (verb text : List ℕ) (ws : List (List ℕ)) (s : Entry) → bytes_eq verb text ≡ true → AreEntry s (text ∷ ws) → AreEntry s (verb ∷ ws)
with_verb verb text ws s is p = (p.0, ap (λ (v : List ℕ). v ∷ ws) (is_text verb text is) ∙ p.1)

-- ---- events

acc_found : (ws : List (List ℕ)) (s : Entry) → acc_in ws ≡ Some s → AreEntry s (codes "acc" ∷ ws)
unfolding acc_in
acc_found ws s e =
    number_then ws (λ t. word_first t.1 >>= λ word. number_first word.1 >>= λ n. owner_said word.0 n.0 >>= λ owner. kind_said n.1 >>= λ k. Some (entry.Event (Acc t.0 owner k))) s e (λ t rest1 t_small first said1.
    word_then rest1 (λ word. number_first word.1 >>= λ n. owner_said word.0 n.0 >>= λ owner. kind_said n.1 >>= λ k. Some (entry.Event (Acc t owner k))) s said1 (λ word rest2 second said2.
    number_then rest2 (λ n. owner_said word n.0 >>= λ owner. kind_said n.1 >>= λ k. Some (entry.Event (Acc t owner k))) s said2 (λ n rest3 n_small third said3.
    some_then (owner_said word n) (λ owner. kind_said rest3 >>= λ k. Some (entry.Event (Acc t owner k))) s said3 (λ owner read said4.
    some_then (kind_said rest3) (λ k. Some (entry.Event (Acc t owner k))) s said4 (λ k kind_read is.
    let o = owner_found word n owner read in
    let word_is = o.0 in
    let n_is = o.1 in
    let found = kind_found rest3 k kind_read in
    let last = found.1 in
    let all : ws ≡ decimal t ∷ owner_word owner ∷ decimal (owner_number owner) ∷ kind_words k = cc in
    let small : IsSmall (owner_number owner) = subst (λ (m : ℕ). IsSmall m) n_is n_small in
    said_words (codes "acc") ws (decimal t ∷ owner_word owner ∷ decimal (owner_number owner) ∷ kind_words k) (entry.Event (Acc t owner k)) s all is
    ((t_small, small, found.0), refl))))))

make_found : (ws : List (List ℕ)) (s : Entry) → make_in ws ≡ Some s → AreEntry s (codes "make" ∷ ws)
unfolding make_in
make_found ws s e =
    number_then ws (λ t. kind_said t.1 >>= λ k. Some (entry.Event (Make t.0 k))) s e (λ t rest small first said.
    some_then (kind_said rest) (λ k. Some (entry.Event (Make t k))) s said (λ k read is.
    let found = kind_found rest k read in
    said_words (codes "make") ws (decimal t ∷ rest) (entry.Event (Make t k)) s first is
    ((small, found.0), ap (λ (vs : List (List ℕ)). codes "make" ∷ decimal t ∷ vs) found.1)))

fire_found : (ws : List (List ℕ)) (s : Entry) → fire_in ws ≡ Some s → AreEntry s (codes "fire" ∷ ws)
unfolding fire_in
fire_found ws s e =
    number_then ws (λ c. word_first c.1 >>= λ word. how_said word.0 >>= λ how. if_last word.1 (entry.Event (Fire c.0 how))) s e (λ c rest1 small first said1.
    word_then rest1 (λ word. how_said word.0 >>= λ how. if_last word.1 (entry.Event (Fire c how))) s said1 (λ word rest2 second said2.
    some_then (how_said word) (λ how. if_last rest2 (entry.Event (Fire c how))) s said2 (λ how read said3.
    last_then rest2 (entry.Event (Fire c how)) s said3 (λ none is.
    let text = how_found word how read in
    let all : ws ≡ decimal c ∷ how_word how ∷ [] = cc in
    said_words (codes "fire") ws (decimal c ∷ how_word how ∷ []) (entry.Event (Fire c how)) s all (ap (λ (u : Entry). Some u) is) (small, refl)))))

settle_found : (ws : List (List ℕ)) (s : Entry) → settle_in ws ≡ Some s → AreEntry s (codes "settle" ∷ ws)
unfolding settle_in
settle_found ws s e =
    number_then ws (λ t. status_said t.1 >>= λ st. Some (entry.Event (Settle t.0 st))) s e (λ t rest small first said.
    some_then (status_said rest) (λ st. Some (entry.Event (Settle t st))) s said (λ st read is.
    let found = status_found rest st read in
    said_words (codes "settle") ws (decimal t ∷ rest) (entry.Event (Settle t st)) s first is
    ((small, found.0), ap (λ (vs : List (List ℕ)). codes "settle" ∷ decimal t ∷ vs) found.1)))

out_found : (ws : List (List ℕ)) (s : Entry) → out_in ws ≡ Some s → AreEntry s (codes "out" ∷ ws)
unfolding out_in
out_found ws s e = two_found (codes "out") ws (λ p. entry.Event (Out p.0 p.1)) s e (λ a b x y. ((x, y), refl))

skip_found : (ws : List (List ℕ)) (s : Entry) → skip_in ws ≡ Some s → AreEntry s (codes "skip" ∷ ws)
unfolding skip_in
skip_found ws s e = two_found (codes "skip") ws (λ p. entry.Event (Skip p.0 p.1)) s e (λ a b x y. ((x, y), refl))

end_found : (ws : List (List ℕ)) (s : Entry) → end_in ws ≡ Some s → AreEntry s (codes "end" ∷ ws)
unfolding end_in
end_found ws s e = two_found (codes "end") ws (λ p. entry.Event (End p.0 p.1)) s e (λ a b x y. ((x, y), refl))

add_found : (ws : List (List ℕ)) (s : Entry) → add_in ws ≡ Some s → AreEntry s (codes "add" ∷ ws)
unfolding add_in
add_found ws s e = two_found (codes "add") ws (λ p. entry.Event (Add p.0 p.1)) s e (λ a b x y. ((x, y), refl))

dec_found : (ws : List (List ℕ)) (s : Entry) → dec_in ws ≡ Some s → AreEntry s (codes "dec" ∷ ws)
unfolding dec_in
dec_found ws s e = one_found (codes "dec") ws (λ c. entry.Event (Dec c)) s e (λ a x. (x, refl))

pass_found : (ws : List (List ℕ)) (s : Entry) → pass_in ws ≡ Some s → AreEntry s (codes "pass" ∷ ws)
unfolding pass_in
pass_found ws s e = one_found (codes "pass") ws (λ c. entry.Event (Pass c)) s e (λ a x. (x, refl))

hooked_found : (ws : List (List ℕ)) (s : Entry) → hooked_in ws ≡ Some s → AreEntry s (codes "hooked" ∷ ws)
unfolding hooked_in
hooked_found ws s e = one_found (codes "hooked") ws (λ c. entry.Event (Hooked c)) s e (λ a x. (x, refl))

rel_found : (ws : List (List ℕ)) (s : Entry) → rel_in ws ≡ Some s → AreEntry s (codes "rel" ∷ ws)
unfolding rel_in
rel_found ws s e = one_found (codes "rel") ws (λ t. entry.Event (Rel t)) s e (λ a x. (x, refl))

-- ---- lines, by the first word

rare_found : (verb : List ℕ) (ws : List (List ℕ)) (s : Entry) → rare_said verb ws ≡ Some s → AreEntry s (verb ∷ ws)
unfolding rare_said
rare_found verb ws s e =
    chosen (bytes_eq verb (codes "make")) (make_in ws) _ (Some s) e (λ is said. with_verb verb (codes "make") ws s is (make_found ws s said)) (λ e1.
    chosen (bytes_eq verb (codes "skip")) (skip_in ws) _ (Some s) e1 (λ is said. with_verb verb (codes "skip") ws s is (skip_found ws s said)) (λ e2.
    chosen (bytes_eq verb (codes "close")) (if_last ws (entry.Event Close)) _ (Some s) e2 (λ is said. with_verb verb (codes "close") ws s is (none_found (codes "close") ws (entry.Event Close) s said (tt, refl))) (λ e3.
    chosen (bytes_eq verb (codes "stop")) (if_last ws (entry.Event Stop)) _ (Some s) e3 (λ is said. with_verb verb (codes "stop") ws s is (none_found (codes "stop") ws (entry.Event Stop) s said (tt, refl))) (λ e4.
    chosen (bytes_eq verb (codes "seal")) (if_last ws entry.Seal) None (Some s) e4 (λ is said. with_verb verb (codes "seal") ws s is (none_found (codes "seal") ws entry.Seal s said (tt, refl))) (λ e5.
    absurd cc)))))

completer_found : (verb : List ℕ) (ws : List (List ℕ)) (s : Entry) → completer_said verb ws ≡ Some s → AreEntry s (verb ∷ ws)
unfolding completer_said
completer_found verb ws s e =
    chosen (bytes_eq verb (codes "dec")) (dec_in ws) _ (Some s) e (λ is said. with_verb verb (codes "dec") ws s is (dec_found ws s said)) (λ e1.
    chosen (bytes_eq verb (codes "fire")) (fire_in ws) _ (Some s) e1 (λ is said. with_verb verb (codes "fire") ws s is (fire_found ws s said)) (λ e2.
    chosen (bytes_eq verb (codes "hooked")) (hooked_in ws) _ (Some s) e2 (λ is said. with_verb verb (codes "hooked") ws s is (hooked_found ws s said)) (λ e3.
    chosen (bytes_eq verb (codes "add")) (add_in ws) _ (Some s) e3 (λ is said. with_verb verb (codes "add") ws s is (add_found ws s said)) (λ e4.
    chosen (bytes_eq verb (codes "pass")) (pass_in ws) _ (Some s) e4 (λ is said. with_verb verb (codes "pass") ws s is (pass_found ws s said)) (λ e5.
    rare_found verb ws s e5)))))

pub said_found : (verb : List ℕ) (ws : List (List ℕ)) (s : Entry) → entry_said verb ws ≡ Some s → AreEntry s (verb ∷ ws)
unfolding entry_said
said_found verb ws s e =
    chosen (bytes_eq verb (codes "acc")) (acc_in ws) _ (Some s) e (λ is said. with_verb verb (codes "acc") ws s is (acc_found ws s said)) (λ e1.
    chosen (bytes_eq verb (codes "out")) (out_in ws) _ (Some s) e1 (λ is said. with_verb verb (codes "out") ws s is (out_found ws s said)) (λ e2.
    chosen (bytes_eq verb (codes "end")) (end_in ws) _ (Some s) e2 (λ is said. with_verb verb (codes "end") ws s is (end_found ws s said)) (λ e3.
    chosen (bytes_eq verb (codes "settle")) (settle_in ws) _ (Some s) e3 (λ is said. with_verb verb (codes "settle") ws s is (settle_found ws s said)) (λ e4.
    chosen (bytes_eq verb (codes "rel")) (rel_in ws) _ (Some s) e4 (λ is said. with_verb verb (codes "rel") ws s is (rel_found ws s said)) (λ e5.
    completer_found verb ws s e5)))))
