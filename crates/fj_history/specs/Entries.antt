-- The lines of a history behind its heading: one for each event, and one for each seal.
use Rattle.std.specs.Prelude.{ℕ, List, [], ◌∷◌, ◌++◌, Option, IfSome, flat_map, codes, decimal}
use Rattle.fj_rules.specs.declared.event.Event.{Event}
use Rattle.fj_rules.specs.declared.event.Event.TheVariants.{Acc, Make, Out, Skip, End, Add, Dec, Fire, Pass, Hooked, Settle, Close, Stop, Rel}
use Rattle.fj_rules.specs.declared.event.How.{How}
use Rattle.fj_rules.specs.declared.event.How.TheVariants.{Zero, Complete}
use Rattle.fj_rules.specs.declared.kind.Kind.{Kind}
use Rattle.fj_rules.specs.declared.kind.Kind.TheVariants as kind
use Rattle.fj_rules.specs.declared.owner.Owner.{Owner}
use Rattle.fj_rules.specs.declared.owner.Owner.TheVariants.{Sub, Work}
use Rattle.fj_rules.specs.declared.status.Status.{Status}
use Rattle.fj_rules.specs.declared.status.Status.TheVariants.{Exceptional}
use Rattle.fj_rules.specs.Statuses.{status_words}
use Rattle.fj_lines.specs.declared.read.TheConstants.{LINE_FEED}
use Rattle.fj_lines.specs.Words.{joined, words, ◌>>=◌, word_first}
use Rattle.fj_lines.specs.Tasks.{IsSmall}
use Rattle.fj_lines.specs.Lines.{parent_word, relay_word}
use Rattle.fj_history.specs.declared.entry.Entry.{Entry}
use Rattle.fj_history.specs.declared.entry.Entry.TheVariants as entry
use Rattle.fj_history.specs.EntryReadings.{entry_said}

-- ---- words

-- whose queue it is, and by which number
abbrev pub owner_word : Owner → List ℕ
owner_word (Sub s) = codes "sub"
owner_word (Work w) = codes "work"

abbrev pub owner_number : Owner → ℕ
owner_number (Sub s) = s
owner_number (Work w) = w

-- a completer's parent or `-`, its count and its relay word come in the order of a fork
abbrev pub kind_words : Kind → List (List ℕ)
kind_words kind.Plain = codes "plain" ∷ []
kind_words (kind.Completer relay count parent) = codes "completer" ∷ parent_word parent ∷ decimal count ∷ relay_word relay ∷ []

abbrev pub how_word : How → List ℕ
how_word Zero = codes "zero"
how_word Complete = codes "complete"

-- an event: its name, and then what it names, in its order
abbrev pub event_words : Event → List (List ℕ)
event_words (Acc t o k) = codes "acc" ∷ decimal t ∷ owner_word o ∷ decimal (owner_number o) ∷ kind_words k
event_words (Make t k) = codes "make" ∷ decimal t ∷ kind_words k
event_words (Out t w) = codes "out" ∷ decimal t ∷ decimal w ∷ []
event_words (Skip t w) = codes "skip" ∷ decimal t ∷ decimal w ∷ []
event_words (End t w) = codes "end" ∷ decimal t ∷ decimal w ∷ []
event_words (Add c n) = codes "add" ∷ decimal c ∷ decimal n ∷ []
event_words (Dec c) = codes "dec" ∷ decimal c ∷ []
event_words (Fire c how) = codes "fire" ∷ decimal c ∷ how_word how ∷ []
event_words (Pass c) = codes "pass" ∷ decimal c ∷ []
event_words (Hooked c) = codes "hooked" ∷ decimal c ∷ []
event_words (Settle t s) = codes "settle" ∷ decimal t ∷ status_words s
event_words Close = codes "close" ∷ []
event_words Stop = codes "stop" ∷ []
event_words (Rel t) = codes "rel" ∷ decimal t ∷ []

abbrev pub entry_words : Entry → List (List ℕ)
entry_words (entry.Event e) = event_words e
entry_words entry.Seal = codes "seal" ∷ []

-- ---- lines

-- the line of an entry, without its line feed
abbrev pub entry_line : Entry → List ℕ
entry_line e = joined (entry_words e)

-- the lines of entries, each with its line feed
abbrev pub entries_text : List Entry → List ℕ
entries_text es = flat_map (λ e. entry_line e ++ LINE_FEED ∷ []) es

-- ---- what has a line: where each number has 32 bits at most, as in scripts

abbrev pub HasSmallKind : Kind → Type 0
HasSmallKind kind.Plain = Unit {0}
HasSmallKind (kind.Completer relay count parent) = IfSome parent IsSmall × IsSmall count

abbrev pub HasSmallStatus : Status → Type 0
HasSmallStatus (Exceptional code) = IsSmall code
HasSmallStatus _ = Unit {0}

abbrev pub HasEventLine : Event → Type 0
HasEventLine (Acc t o k) = IsSmall t × IsSmall (owner_number o) × HasSmallKind k
HasEventLine (Make t k) = IsSmall t × HasSmallKind k
HasEventLine (Out t w) = IsSmall t × IsSmall w
HasEventLine (Skip t w) = IsSmall t × IsSmall w
HasEventLine (End t w) = IsSmall t × IsSmall w
HasEventLine (Add c n) = IsSmall c × IsSmall n
HasEventLine (Dec c) = IsSmall c
HasEventLine (Fire c how) = IsSmall c
HasEventLine (Pass c) = IsSmall c
HasEventLine (Hooked c) = IsSmall c
HasEventLine (Settle t s) = IsSmall t × HasSmallStatus s
HasEventLine Close = Unit {0}
HasEventLine Stop = Unit {0}
HasEventLine (Rel t) = IsSmall t

abbrev pub HasEntryLine : Entry → Type 0
HasEntryLine (entry.Event e) = HasEventLine e
HasEntryLine entry.Seal = Unit {0}

-- the code of an event has 32 bits at most, if it has one
abbrev pub HasCode : Event → Type 0
HasCode (Settle t s) = HasSmallStatus s
HasCode _ = Unit {0}

abbrev pub HasEntryCode : Entry → Type 0
HasEntryCode (entry.Event e) = HasCode e
HasEntryCode entry.Seal = Unit {0}

-- so have those of all these events
abbrev pub AllHaveCodes : List Event → Type 0
AllHaveCodes [] = Unit {0}
AllHaveCodes (e ∷ es) = HasCode e × AllHaveCodes es

-- the entry of a line, if it has one: the result of the reader
unfoldable pub entry_in : List ℕ → Option Entry
entry_in line = do
  verb ← word_first (words line)
  entry_said verb.0 verb.1
