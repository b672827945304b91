-- The line of an entry has at most as many bytes as a line may have, and none of them is a line feed.
use Rattle.std.proofs.Common.{◌≡◌, ℕ, ◌+◌, ◌≤◌, true, length, Option, Some, None, refl, arith}
use Rattle.std.specs.Prelude.{IfSome}
use Rattle.std.specs.List.{list_all}
use Rattle.fj_rules.specs.declared.event.Event.TheVariants.{Acc, Make, Out, Skip, End, Add, Dec, Fire, Pass, Hooked, Settle, Close, Stop, Rel}
use Rattle.fj_rules.specs.declared.event.How.{How}
use Rattle.fj_rules.specs.declared.event.How.TheVariants.{Zero, Complete}
use Rattle.fj_rules.specs.declared.kind.Kind.{Kind}
use Rattle.fj_rules.specs.declared.kind.Kind.TheVariants as kind
use Rattle.fj_rules.specs.declared.owner.Owner.{Owner}
use Rattle.fj_rules.specs.declared.owner.Owner.TheVariants.{Sub, Work}
use Rattle.fj_rules.specs.declared.status.Status.{Status}
use Rattle.fj_rules.specs.declared.status.Status.TheVariants.{Undone, Normal, Exceptional, Cancelled}
use Rattle.fj_rules.specs.Statuses.{status_words}
use Rattle.fj_lines.specs.Tasks.{IsSmall}
use Rattle.fj_lines.specs.Lines.{parent_word}
use Rattle.fj_lines.proofs.Reading.WordLaws.{lengths, length-joined-le}
use Rattle.fj_lines.proofs.Reading.LineLaws.{number_len, relay_len}
use Rattle.fj_lines.proofs.Reading.FeedLaws.{is_free, joined_free, number_free, relay_free}
use Rattle.fj_history.specs.declared.entry.Entry.{Entry}
use Rattle.fj_history.specs.declared.entry.Entry.TheVariants as entry
use Rattle.fj_history.specs.declared.read.TheConstants.{MAX_ENTRY}
use Rattle.fj_history.specs.Entries.{owner_word, owner_number, kind_words, how_word, entry_words, entry_line, HasSmallKind, HasSmallStatus, HasEntryLine}

-- ---- it is short

owner_len : (o : Owner) → length (owner_word o) ≤ 4
owner_len (Sub s) = omega arith
owner_len (Work w) = omega arith

parent_len : (parent : Option ℕ) → IfSome parent IsSmall → length (parent_word parent) ≤ 10
parent_len None fits = omega arith
parent_len (Some t) fits = number_len t fits

kind_short : (k : Kind) → HasSmallKind k → lengths (kind_words k) ≤ 38
kind_short kind.Plain fits = omega arith
kind_short (kind.Completer relay count parent) fits = omega (arith, parent_len parent fits.0, number_len count fits.1, relay_len relay)

how_len : (how : How) → length (how_word how) ≤ 8
how_len Zero = omega arith
how_len Complete = omega arith

status_short : (s : Status) → HasSmallStatus s → lengths (status_words s) ≤ 23
status_short Undone fits = omega arith
status_short Normal fits = omega arith
status_short Cancelled fits = omega arith
status_short (Exceptional code) fits = omega (arith, number_len code fits)

words_short : (e : Entry) → HasEntryLine e → lengths (entry_words e) ≤ MAX_ENTRY + 1
words_short (entry.Event (Acc t o k)) fits = omega (arith, number_len t fits.0, owner_len o, number_len (owner_number o) fits.1, kind_short k fits.2)
words_short (entry.Event (Make t k)) fits = omega (arith, number_len t fits.0, kind_short k fits.1)
words_short (entry.Event (Out t w)) fits = omega (arith, number_len t fits.0, number_len w fits.1)
words_short (entry.Event (Skip t w)) fits = omega (arith, number_len t fits.0, number_len w fits.1)
words_short (entry.Event (End t w)) fits = omega (arith, number_len t fits.0, number_len w fits.1)
words_short (entry.Event (Add c n)) fits = omega (arith, number_len c fits.0, number_len n fits.1)
words_short (entry.Event (Dec c)) fits = omega (arith, number_len c fits)
words_short (entry.Event (Fire c how)) fits = omega (arith, number_len c fits, how_len how)
words_short (entry.Event (Pass c)) fits = omega (arith, number_len c fits)
words_short (entry.Event (Hooked c)) fits = omega (arith, number_len c fits)
words_short (entry.Event (Settle t s)) fits = omega (arith, number_len t fits.0, status_short s fits.1)
words_short (entry.Event Close) fits = omega arith
words_short (entry.Event Stop) fits = omega arith
words_short (entry.Event (Rel t)) fits = omega (arith, number_len t fits)
words_short entry.Seal fits = omega arith

pub entry_short : (e : Entry) → HasEntryLine e → length (entry_line e) ≤ MAX_ENTRY
entry_short e fits = omega (arith, length-joined-le (entry_words e), words_short e fits)

-- ---- it has no line feed

owner_free : (o : Owner) → is_free (owner_word o) ≡ true
owner_free (Sub s) = refl
owner_free (Work w) = refl

parent_free : (parent : Option ℕ) → IfSome parent IsSmall → is_free (parent_word parent) ≡ true
parent_free None fits = refl
parent_free (Some t) fits = number_free t fits

kind_free : (k : Kind) → HasSmallKind k → list_all is_free (kind_words k) ≡ true
kind_free kind.Plain fits = refl
kind_free (kind.Completer relay count parent) fits = rw (parent_free parent fits.0, number_free count fits.1, relay_free relay) refl

how_free : (how : How) → is_free (how_word how) ≡ true
how_free Zero = refl
how_free Complete = refl

status_free : (s : Status) → HasSmallStatus s → list_all is_free (status_words s) ≡ true
status_free Undone fits = refl
status_free Normal fits = refl
status_free Cancelled fits = refl
status_free (Exceptional code) fits = rw (number_free code fits) refl

words_free : (e : Entry) → HasEntryLine e → list_all is_free (entry_words e) ≡ true
words_free (entry.Event (Acc t o k)) fits = rw (number_free t fits.0, owner_free o, number_free (owner_number o) fits.1, kind_free k fits.2) refl
words_free (entry.Event (Make t k)) fits = rw (number_free t fits.0, kind_free k fits.1) refl
words_free (entry.Event (Out t w)) fits = rw (number_free t fits.0, number_free w fits.1) refl
words_free (entry.Event (Skip t w)) fits = rw (number_free t fits.0, number_free w fits.1) refl
words_free (entry.Event (End t w)) fits = rw (number_free t fits.0, number_free w fits.1) refl
words_free (entry.Event (Add c n)) fits = rw (number_free c fits.0, number_free n fits.1) refl
words_free (entry.Event (Dec c)) fits = rw (number_free c fits) refl
words_free (entry.Event (Fire c how)) fits = rw (number_free c fits, how_free how) refl
words_free (entry.Event (Pass c)) fits = rw (number_free c fits) refl
words_free (entry.Event (Hooked c)) fits = rw (number_free c fits) refl
words_free (entry.Event (Settle t s)) fits = rw (number_free t fits.0, status_free s fits.1) refl
words_free (entry.Event Close) fits = refl
words_free (entry.Event Stop) fits = refl
words_free (entry.Event (Rel t)) fits = rw (number_free t fits) refl
words_free entry.Seal fits = refl

pub entry_free : (e : Entry) → HasEntryLine e → is_free (entry_line e) ≡ true
entry_free e fits = joined_free (entry_words e) (words_free e fits)
