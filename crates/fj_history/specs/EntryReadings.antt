-- What the words of a line of a history mean, word by word. These mirror the reader, for its proof. `Entries` defines which lines there are;
-- `written`, `read` and `again` of `read_entry` say that these agree with it.
use Rattle.std.specs.Prelude.{ℕ, if◌then◌else◌, List, Option, Some, None, codes}
use Rattle.std.specs.Str.{bytes_eq}
use Rattle.fj_rules.specs.declared.event.Event.TheVariants.{Acc, Make, Out, Skip, End, Add, Dec, Fire, Pass, Hooked, Settle, Close, Stop, Rel}
use Rattle.fj_rules.specs.declared.event.How.{How}
use Rattle.fj_rules.specs.declared.event.How.TheVariants.{Zero, Complete}
use Rattle.fj_rules.specs.declared.kind.Kind.{Kind}
use Rattle.fj_rules.specs.declared.kind.Kind.TheVariants as kind
use Rattle.fj_rules.specs.declared.owner.Owner.{Owner}
use Rattle.fj_rules.specs.declared.owner.Owner.TheVariants.{Sub, Work}
use Rattle.fj_rules.specs.declared.status.Status.{Status}
use Rattle.fj_rules.specs.declared.status.Status.TheVariants.{Undone, Normal, Exceptional, Cancelled}
use Rattle.fj_lines.specs.Words.{◌>>=◌, number_in, word_first, number_first, if_last, one_number, two_numbers}
use Rattle.fj_lines.specs.Readings.Accept.{parent_said, count_and_relay}
use Rattle.fj_history.specs.declared.entry.Entry.{Entry}
use Rattle.fj_history.specs.declared.entry.Entry.TheVariants as entry

-- ---- parts

abbrev pub owner_said : List ℕ → ℕ → Option Owner
owner_said word n = if bytes_eq word (codes "sub") then Some (Sub n) else if bytes_eq word (codes "work") then Some (Work n) else None

-- behind `completer`
unfoldable pub completer_kind : List (List ℕ) → Option Kind
completer_kind ws = do
  word ← word_first ws
  parent ← parent_said number_in word.0
  said ← count_and_relay word.1
  Some (kind.Completer said.1 said.0 parent)

unfoldable pub kind_said : List (List ℕ) → Option Kind
kind_said ws =
    (word_first ws >>= λ word.
    if bytes_eq word.0 (codes "plain") then if_last word.1 kind.Plain
    else if bytes_eq word.0 (codes "completer") then completer_kind word.1
    else None)

abbrev pub how_said : List ℕ → Option How
how_said word = if bytes_eq word (codes "zero") then Some Zero else if bytes_eq word (codes "complete") then Some Complete else None

abbrev pub status_word_said : List ℕ → Option Status
status_word_said word =
    if bytes_eq word (codes "normal") then Some Normal
    else if bytes_eq word (codes "cancelled") then Some Cancelled
    else if bytes_eq word (codes "undone") then Some Undone
    else None

unfoldable pub status_said : List (List ℕ) → Option Status
status_said ws =
    (word_first ws >>= λ word.
    if bytes_eq word.0 (codes "exceptional") then (one_number word.1 >>= λ code. Some (Exceptional code))
    else (status_word_said word.0 >>= λ status. if_last word.1 status))

-- ---- events, by the words after the first

unfoldable pub acc_in : List (List ℕ) → Option Entry
acc_in ws = do
  t ← number_first ws
  word ← word_first t.1
  n ← number_first word.1
  owner ← owner_said word.0 n.0
  kind ← kind_said n.1
  Some (entry.Event (Acc t.0 owner kind))

unfoldable pub make_in : List (List ℕ) → Option Entry
make_in ws = do
  t ← number_first ws
  kind ← kind_said t.1
  Some (entry.Event (Make t.0 kind))

unfoldable pub out_in : List (List ℕ) → Option Entry
out_in ws = do
  said ← two_numbers ws
  Some (entry.Event (Out said.0 said.1))

unfoldable pub skip_in : List (List ℕ) → Option Entry
skip_in ws = do
  said ← two_numbers ws
  Some (entry.Event (Skip said.0 said.1))

unfoldable pub end_in : List (List ℕ) → Option Entry
end_in ws = do
  said ← two_numbers ws
  Some (entry.Event (End said.0 said.1))

unfoldable pub add_in : List (List ℕ) → Option Entry
add_in ws = do
  said ← two_numbers ws
  Some (entry.Event (Add said.0 said.1))

unfoldable pub dec_in : List (List ℕ) → Option Entry
dec_in ws = do
  c ← one_number ws
  Some (entry.Event (Dec c))

unfoldable pub fire_in : List (List ℕ) → Option Entry
fire_in ws = do
  c ← number_first ws
  word ← word_first c.1
  how ← how_said word.0
  if_last word.1 (entry.Event (Fire c.0 how))

unfoldable pub pass_in : List (List ℕ) → Option Entry
pass_in ws = do
  c ← one_number ws
  Some (entry.Event (Pass c))

unfoldable pub hooked_in : List (List ℕ) → Option Entry
hooked_in ws = do
  c ← one_number ws
  Some (entry.Event (Hooked c))

unfoldable pub settle_in : List (List ℕ) → Option Entry
settle_in ws = do
  t ← number_first ws
  status ← status_said t.1
  Some (entry.Event (Settle t.0 status))

unfoldable pub rel_in : List (List ℕ) → Option Entry
rel_in ws = do
  t ← one_number ws
  Some (entry.Event (Rel t))

-- ---- lines, by the first word and the words after it

-- those that are rare
unfoldable pub rare_said : List ℕ → List (List ℕ) → Option Entry
rare_said verb ws =
    if bytes_eq verb (codes "make") then make_in ws
    else if bytes_eq verb (codes "skip") then skip_in ws
    else if bytes_eq verb (codes "close") then if_last ws (entry.Event Close)
    else if bytes_eq verb (codes "stop") then if_last ws (entry.Event Stop)
    else if bytes_eq verb (codes "seal") then if_last ws entry.Seal
    else None

-- those of completers, and those above
unfoldable pub completer_said : List ℕ → List (List ℕ) → Option Entry
completer_said verb ws =
    if bytes_eq verb (codes "dec") then dec_in ws
    else if bytes_eq verb (codes "fire") then fire_in ws
    else if bytes_eq verb (codes "hooked") then hooked_in ws
    else if bytes_eq verb (codes "add") then add_in ws
    else if bytes_eq verb (codes "pass") then pass_in ws
    else rare_said verb ws

-- the entry of a first word and those after it, if it is a line. The most frequent come first
unfoldable pub entry_said : List ℕ → List (List ℕ) → Option Entry
entry_said verb ws =
    if bytes_eq verb (codes "acc") then acc_in ws
    else if bytes_eq verb (codes "out") then out_in ws
    else if bytes_eq verb (codes "end") then end_in ws
    else if bytes_eq verb (codes "settle") then settle_in ws
    else if bytes_eq verb (codes "rel") then rel_in ws
    else completer_said verb ws
