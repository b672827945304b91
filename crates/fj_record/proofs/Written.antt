-- Texts written one after another, and the fault that cuts one off.
use Rattle.std.proofs.Common.{ℕ, ◌≡◌, ◌+◌, ◌-◌, ◌<◌, List, [], ◌∷◌, ◌++◌, Option, length, map, take, drop, get_or, sym, ap, ◌∙◌, append_assoc, arith}
use Rattle.std.specs.Prelude.{Result, Ok, Err, IsErrAnd}
use Rattle.std.specs.Io.KnownBytes.{Appends}
use Rattle.std.proofs.Math.Seq.{take-add, take-append_seam}
use Rattle.std.proofs.lemmas.List.{append-nil, map-append, take-append-drop, take_more}
use Rattle.std.proofs.lemmas.Grind.{flat_map-append}
use Rattle.fj_lines.specs.declared.read.TheConstants.{LINE_FEED}
use Rattle.fj_history.specs.Entries.{entry_line, entries_text}
use Rattle.fj_history.specs.declared.entry.Entry.{Entry}
use Rattle.fj_history.specs.declared.entry.Entry.TheVariants as entry
use Rattle.fj_rules.specs.declared.epoch.Sealed.{Sealed}
use Rattle.fj_rules.specs.declared.event.Event.{Event}
use Rattle.fj_history.specs.Headings.{heading_line}
use Rattle.fj_rules.specs.declared.mode.Mode.{Mode}
use Rattle.fj_rules.specs.Bounds.{Bounds}
use Rattle.fj_record.specs.Texts.{part_entries, parts_entries, history_text}
use Rattle.fj_streams.specs.Beginnings.{AppendsSome}
use Rattle.fj_streams.specs.Calls.{Calls, IsFine}
use Rattle.fj_streams.proofs.Bytes.{appends_twice}
use Rattle.fj_streams.proofs.CallsMade.{fine_twice, fine_failed}
use Rattle.fj_record.specs.declared.fault.WriteFault.{WriteFault}
use Rattle.fj_record.specs.declared.fault.WriteFault.TheVariants.{Memory, Write}
use Rattle.fj_record.specs.Writes.{FaultTells, Writes}

-- ---- lines

pub lines_then : (xs ys : List Entry) → entries_text (xs ++ ys) ≡ entries_text xs ++ entries_text ys
lines_then xs ys = flat_map-append (λ (e : Entry). entry_line e ++ LINE_FEED ∷ []) xs ys

abbrev text_of : List Event → List ℕ
text_of events = entries_text (map entry.Event events)

events_then : (xs ys : List Event) → text_of (xs ++ ys) ≡ text_of xs ++ text_of ys
events_then xs ys = ap entries_text (map-append entry.Event xs ys) ∙ lines_then (map entry.Event xs) (map entry.Event ys)

-- the first n + m events, and the rest
pub events_more : (events : List Event) (n m : ℕ) → entries_text (map entry.Event (take (n + m) events)) ≡ entries_text (map entry.Event (take n events)) ++ entries_text (map entry.Event (take (n + m - n) (drop n events)))
events_more events n m =
    let count : n + m - n ≡ m = omega arith in
    rw count (ap text_of (take-add n m events) ∙ events_then (take n events) (take m (drop n events)))

pub events_whole : (events : List Event) (n m : ℕ) → entries_text (map entry.Event events) ≡ (entries_text (map entry.Event (take n events)) ++ entries_text (map entry.Event (take (n + m - n) (drop n events)))) ++ entries_text (map entry.Event (drop (n + m) events))
events_whole events n m =
    ap text_of (sym (take-append-drop (n + m) events)) ∙ events_then (take (n + m) events) (drop (n + m) events) ∙ ap (λ (t : List ℕ). t ++ text_of (drop (n + m) events)) (events_more events n m)

parts_then : (xs ys : List Sealed) → entries_text (parts_entries (xs ++ ys)) ≡ entries_text (parts_entries xs) ++ entries_text (parts_entries ys)
parts_then xs ys = ap entries_text (flat_map-append part_entries xs ys) ∙ lines_then (parts_entries xs) (parts_entries ys)

one_part : (part : Sealed) → entries_text (parts_entries (part ∷ [])) ≡ entries_text (part_entries part)
one_part part = ap entries_text (append-nil (part_entries part))

-- the first parts, the next one, and the rest
pub parts_whole : (parts : List Sealed) (i : ℕ) (part : Sealed) → i < length parts → part ≡ get_or parts i part → entries_text (parts_entries parts) ≡ (entries_text (parts_entries (take i parts)) ++ entries_text (part_entries part)) ++ entries_text (parts_entries (drop (i + 1) parts))
parts_whole parts i part lt is =
    let first : entries_text (parts_entries (take (i + 1) parts)) ≡ entries_text (parts_entries (take i parts)) ++ entries_text (part_entries part) =
    ap (λ (x : List Sealed). entries_text (parts_entries x)) (take_more parts i part lt ∙ ap (λ (x : Sealed). take i parts ++ x ∷ []) (sym is)) ∙ parts_then (take i parts) (part ∷ []) ∙ ap (λ (t : List ℕ). entries_text (parts_entries (take i parts)) ++ t) (one_part part) in
    ap (λ (x : List Sealed). entries_text (parts_entries x)) (sym (take-append-drop (i + 1) parts)) ∙ parts_then (take (i + 1) parts) (drop (i + 1) parts) ∙ ap (λ (t : List ℕ). t ++ entries_text (parts_entries (drop (i + 1) parts))) first

-- heading, parts, events
pub history_whole : (mode : Mode) (limits : Bounds) (parts : List Sealed) (events : List Event) → history_text (record { mode = mode; limits = limits }) parts events ≡ ((heading_line mode limits ++ LINE_FEED ∷ []) ++ entries_text (parts_entries parts)) ++ entries_text (map entry.Event events)
history_whole mode limits parts events =
    let head : List ℕ = heading_line mode limits ++ LINE_FEED ∷ [] in
    ap (λ (t : List ℕ). head ++ t) (lines_then (parts_entries parts) (map entry.Event events)) ∙ sym (append_assoc head (entries_text (parts_entries parts)) (text_of events))

-- ---- bytes

-- the whole of a text is a beginning of a longer one
first_part : (a b : Option (List ℕ)) (s u : List ℕ) → Appends a b s → AppendsSome a b (s ++ u)
first_part a b s u p = (length s, rw take-append_seam p)

-- a beginning of a text is one of a longer one
some_first : (a b : Option (List ℕ)) (s u : List ℕ) → AppendsSome a b s → AppendsSome a b (s ++ u)
some_first a b s u (k, p) =
    let whole : s ++ u ≡ take k s ++ (drop k s ++ u) = ap (λ (v : List ℕ). v ++ u) (sym (take-append-drop k s)) ∙ append_assoc (take k s) (drop k s) u in
    rw whole (first_part a b (take k s) (drop k s ++ u) p)

some_twice : (a b c : Option (List ℕ)) (s t : List ℕ) → Appends a b s → AppendsSome b c t → AppendsSome a c (s ++ t)
some_twice a b c s t p (k, q) =
    let whole : s ++ t ≡ (s ++ take k t) ++ drop k t = ap (λ (v : List ℕ). s ++ v) (sym (take-append-drop k t)) ∙ sym (append_assoc s (take k t) (drop k t)) in
    rw whole (first_part a c (s ++ take k t) (drop k t) (appends_twice a b c s (take k t) p q))

-- ---- calls

fault_later : (fault : WriteFault) (a b c : Option Calls) → IsFine a b → FaultTells fault b c → FaultTells fault a c
fault_later Memory a b c p q = fine_twice a b c p q
fault_later Write a b c p q = fine_failed a b c p q

-- ---- both

-- a text was written, and then another was to be
pub written_then : {A : Type 0} (result : Result A WriteFault) (a b c : Option (List ℕ)) (i j k : Option Calls) (s t : List ℕ) → Appends a b s × IsFine i j → Writes result b c j k t → Writes result a c i k (s ++ t)
written_then (Ok x) a b c i j k s t p q = (appends_twice a b c s t p.0 q.0, fine_twice i j k p.1 q.1)
written_then (Err fault) a b c i j k s t p q = (some_twice a b c s t p.0 q.0, fault_later fault i j k p.1 q.1)

-- a call that was to write a part of a text gave this fault, which is returned
pub returned : {A : Type 0} (result : Result A WriteFault) (fault : WriteFault) (a b : Option (List ℕ)) (i j : Option Calls) (t s u : List ℕ) → IsErrAnd result (λ e. e ≡ fault) → t ≡ s ++ u → AppendsSome a b s × FaultTells fault i j → Writes result a b i j t
returned (Ok x) fault a b i j t s u is whole p = absurd is
returned (Err e) fault a b i j t s u is whole p = rw (is, whole) (some_first a b s u p.0, p.1)
