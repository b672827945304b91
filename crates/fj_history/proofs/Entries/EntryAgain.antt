-- The line of an entry is read as that entry.
use Rattle.std.proofs.Common.{◌≡◌, ℕ, ◌^◌, ◌<◌, true, List, [], ◌∷◌, Some, refl}
use Rattle.std.specs.Prelude.{codes}
use Rattle.std.specs.Fmt.{decimal}
use Rattle.std.specs.List.{list_all}
use Rattle.fj_rules.specs.declared.event.Event.TheVariants.{Acc, Make, Out, Skip, End, Add, Dec, Fire, Pass, Hooked, Settle, Close, Stop, Rel}
use Rattle.fj_rules.specs.declared.event.How.{How}
use Rattle.fj_rules.specs.declared.kind.Kind.{Kind}
use Rattle.fj_rules.specs.declared.owner.Owner.{Owner}
use Rattle.fj_rules.specs.declared.status.Status.{Status}
use Rattle.fj_rules.specs.Statuses.{status_words}
use Rattle.fj_lines.specs.Words.{joined}
use Rattle.fj_lines.specs.Tasks.{IsSmall}
use Rattle.fj_lines.proofs.Reading.NumberLaws.{number_again}
use Rattle.fj_lines.proofs.Reading.WordLaws.{is_word, number_is_word, one_is_words, two_are_words, words_again}
use Rattle.fj_lines.proofs.Reading.FormLaws.{one_again, two_again}
use Rattle.fj_history.specs.declared.entry.Entry.{Entry}
use Rattle.fj_history.specs.declared.entry.Entry.TheVariants as entry
use Rattle.fj_history.specs.Entries.{owner_word, owner_number, kind_words, how_word, entry_line, HasEventLine, HasEntryLine, entry_in}
use Rattle.fj_history.specs.EntryReadings.{acc_in, make_in, out_in, skip_in, end_in, add_in, dec_in, fire_in, pass_in, hooked_in, settle_in, rel_in, rare_said, completer_said, entry_said}
use Rattle.fj_history.proofs.Entries.PartLaws.{owner_again, owner_is_word, kind_again, kind_are_words, how_again, how_is_word, status_again, status_are_words}

acc_again : (t : ℕ) (o : Owner) (k : Kind) → HasEventLine (Acc t o k) → acc_in (decimal t ∷ owner_word o ∷ decimal (owner_number o) ∷ kind_words k) ≡ Some (entry.Event (Acc t o k))
unfolding acc_in
acc_again t o k fits = rw (number_again t fits.0, number_again (owner_number o) fits.1, owner_again o, kind_again k fits.2) refl

acc_are_words : (t : ℕ) (o : Owner) (k : Kind) → HasEventLine (Acc t o k) → list_all is_word (decimal t ∷ owner_word o ∷ decimal (owner_number o) ∷ kind_words k) ≡ true
acc_are_words t o k fits =
    let first = number_is_word t fits.0 in
    let second = number_is_word (owner_number o) fits.1 in
    rw (first, owner_is_word o, second, kind_are_words k fits.2) refl

make_again : (t : ℕ) (k : Kind) → HasEventLine (Make t k) → make_in (decimal t ∷ kind_words k) ≡ Some (entry.Event (Make t k))
unfolding make_in
make_again t k fits = rw (number_again t fits.0, kind_again k fits.1) refl

make_are_words : (t : ℕ) (k : Kind) → HasEventLine (Make t k) → list_all is_word (decimal t ∷ kind_words k) ≡ true
make_are_words t k fits =
    let first = number_is_word t fits.0 in
    rw (first, kind_are_words k fits.1) refl

fire_again : (c : ℕ) (how : How) → IsSmall c → fire_in (decimal c ∷ how_word how ∷ []) ≡ Some (entry.Event (Fire c how))
unfolding fire_in
fire_again c how fits = rw (number_again c fits, how_again how) refl

fire_are_words : (c : ℕ) (how : How) → IsSmall c → list_all is_word (decimal c ∷ how_word how ∷ []) ≡ true
fire_are_words c how fits =
    let first = number_is_word c fits in
    rw (first, how_is_word how) refl

settle_again : (t : ℕ) (s : Status) → HasEventLine (Settle t s) → settle_in (decimal t ∷ status_words s) ≡ Some (entry.Event (Settle t s))
unfolding settle_in
settle_again t s fits = rw (number_again t fits.0, status_again s fits.1) refl

settle_are_words : (t : ℕ) (s : Status) → HasEventLine (Settle t s) → list_all is_word (decimal t ∷ status_words s) ≡ true
settle_are_words t s fits =
    let first = number_is_word t fits.0 in
    rw (first, status_are_words s fits.1) refl

out_again : (a b : ℕ) → a < 2 ^ 32 → b < 2 ^ 32 → out_in (decimal a ∷ decimal b ∷ []) ≡ Some (entry.Event (Out a b))
unfolding out_in
out_again a b x y = rw (two_again a b x y) refl

skip_again : (a b : ℕ) → a < 2 ^ 32 → b < 2 ^ 32 → skip_in (decimal a ∷ decimal b ∷ []) ≡ Some (entry.Event (Skip a b))
unfolding skip_in
skip_again a b x y = rw (two_again a b x y) refl

end_again : (a b : ℕ) → a < 2 ^ 32 → b < 2 ^ 32 → end_in (decimal a ∷ decimal b ∷ []) ≡ Some (entry.Event (End a b))
unfolding end_in
end_again a b x y = rw (two_again a b x y) refl

add_again : (a b : ℕ) → a < 2 ^ 32 → b < 2 ^ 32 → add_in (decimal a ∷ decimal b ∷ []) ≡ Some (entry.Event (Add a b))
unfolding add_in
add_again a b x y = rw (two_again a b x y) refl

dec_again : (a : ℕ) → a < 2 ^ 32 → dec_in (decimal a ∷ []) ≡ Some (entry.Event (Dec a))
unfolding dec_in
dec_again a x = rw (one_again a x) refl

pass_again : (a : ℕ) → a < 2 ^ 32 → pass_in (decimal a ∷ []) ≡ Some (entry.Event (Pass a))
unfolding pass_in
pass_again a x = rw (one_again a x) refl

hooked_again : (a : ℕ) → a < 2 ^ 32 → hooked_in (decimal a ∷ []) ≡ Some (entry.Event (Hooked a))
unfolding hooked_in
hooked_again a x = rw (one_again a x) refl

rel_again : (a : ℕ) → a < 2 ^ 32 → rel_in (decimal a ∷ []) ≡ Some (entry.Event (Rel a))
unfolding rel_in
rel_again a x = rw (one_again a x) refl

said_again : (verb : List ℕ) (ws : List (List ℕ)) (s : Entry) → list_all is_word (verb ∷ ws) ≡ true → entry_said verb ws ≡ Some s → entry_in (joined (verb ∷ ws)) ≡ Some s
unfolding entry_in
said_again verb ws s are_words said =
    let all = words_again verb ws are_words in
    rw all said

-- the line of an entry is read as that entry
pub entry_again : (s : Entry) → HasEntryLine s → entry_in (entry_line s) ≡ Some s
unfolding entry_said completer_said rare_said
entry_again (entry.Event (Acc t o k)) fits = said_again (codes "acc") (decimal t ∷ owner_word o ∷ decimal (owner_number o) ∷ kind_words k) (entry.Event (Acc t o k)) (acc_are_words t o k fits) (acc_again t o k fits)
entry_again (entry.Event (Make t k)) fits = said_again (codes "make") (decimal t ∷ kind_words k) (entry.Event (Make t k)) (make_are_words t k fits) (make_again t k fits)
entry_again (entry.Event (Out t w)) fits = said_again (codes "out") (decimal t ∷ decimal w ∷ []) (entry.Event (Out t w)) (two_are_words t w fits.0 fits.1) (out_again t w fits.0 fits.1)
entry_again (entry.Event (Skip t w)) fits = said_again (codes "skip") (decimal t ∷ decimal w ∷ []) (entry.Event (Skip t w)) (two_are_words t w fits.0 fits.1) (skip_again t w fits.0 fits.1)
entry_again (entry.Event (End t w)) fits = said_again (codes "end") (decimal t ∷ decimal w ∷ []) (entry.Event (End t w)) (two_are_words t w fits.0 fits.1) (end_again t w fits.0 fits.1)
entry_again (entry.Event (Add c n)) fits = said_again (codes "add") (decimal c ∷ decimal n ∷ []) (entry.Event (Add c n)) (two_are_words c n fits.0 fits.1) (add_again c n fits.0 fits.1)
entry_again (entry.Event (Dec c)) fits = said_again (codes "dec") (decimal c ∷ []) (entry.Event (Dec c)) (one_is_words c fits) (dec_again c fits)
entry_again (entry.Event (Fire c how)) fits = said_again (codes "fire") (decimal c ∷ how_word how ∷ []) (entry.Event (Fire c how)) (fire_are_words c how fits) (fire_again c how fits)
entry_again (entry.Event (Pass c)) fits = said_again (codes "pass") (decimal c ∷ []) (entry.Event (Pass c)) (one_is_words c fits) (pass_again c fits)
entry_again (entry.Event (Hooked c)) fits = said_again (codes "hooked") (decimal c ∷ []) (entry.Event (Hooked c)) (one_is_words c fits) (hooked_again c fits)
entry_again (entry.Event (Settle t s)) fits = said_again (codes "settle") (decimal t ∷ status_words s) (entry.Event (Settle t s)) (settle_are_words t s fits) (settle_again t s fits)
entry_again (entry.Event Close) fits = said_again (codes "close") [] (entry.Event Close) refl refl
entry_again (entry.Event Stop) fits = said_again (codes "stop") [] (entry.Event Stop) refl refl
entry_again (entry.Event (Rel t)) fits = said_again (codes "rel") (decimal t ∷ []) (entry.Event (Rel t)) (one_is_words t fits) (rel_again t fits)
entry_again entry.Seal fits = said_again (codes "seal") [] entry.Seal refl refl
