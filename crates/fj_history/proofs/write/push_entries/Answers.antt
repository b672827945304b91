use Rattle.std.proofs.Common.{◌≡◌, ℕ, ◌+◌, ◌<◌, List, [], ◌∷◌, ◌++◌, length, map, take, get_or, sym, ap, ◌∙◌}
use Rattle.std.specs.Prelude.{string_bytes}
use Rattle.std.proofs.lemmas.List.{take_more, map-append, flat_map_more}
use Rattle.fj_rules.specs.declared.event.Event.{Event}
use Rattle.fj_lines.specs.declared.read.TheConstants.{LINE_FEED}
use Rattle.fj_history.specs.declared.entry.Entry.{Entry}
use Rattle.fj_history.specs.declared.entry.Entry.TheVariants as entry
use Rattle.fj_history.specs.Entries.{AllHaveCodes, HasCode, entry_line, entries_text}
use Rattle.fj_history.proofs.Entries.CodeLaws.{codes_then}
use Rattle.fj_history.proofs.write.push_entries.Goals as goal

-- the entries of one event more
entries_more : (events : List Event) (i : ℕ) (e : Event) → i < length events → e ≡ get_or events i e → map entry.Event (take (i + 1) events) ≡ map entry.Event (take i events) ++ entry.Event e ∷ []
entries_more events i e lt is =
    ap (map entry.Event) (take_more events i e lt) ∙ map-append entry.Event (take i events) (get_or events i e ∷ []) ∙ ap (λ (x : Event). map entry.Event (take i events) ++ entry.Event x ∷ []) (sym is)

-- the code of one event more
codes_more : (events : List Event) (i : ℕ) (e : Event) → i < length events → e ≡ get_or events i e → HasCode e → AllHaveCodes (take i events) → AllHaveCodes (take (i + 1) events)
codes_more events i e lt is code before = rw (take_more events i e lt ∙ ap (λ (x : Event). take i events ++ x ∷ []) (sym is)) (codes_then (take i events) (e ∷ []) before (code, tt))

pub loop-event-preserved : goal.loop-event-preserved
loop-event-preserved c =
    let events = c.args.events.now in
    let i = c.loop-event.event-index in
    let e = c.event-item.result in
    let old = string_bytes c.args.text.now in
    record {
      written =
          c.in_ok-push_line.ensures
          ∙ ap (λ (text : List ℕ). text ++ (entry_line (entry.Event e) ++ LINE_FEED ∷ [])) c.loop-event.invariant.written
          ∙ flat_map_more (λ (x : Entry). entry_line x ++ LINE_FEED ∷ []) old (map entry.Event (take i events)) (entry.Event e)
          ∙ ap (λ (es : List Entry). old ++ entries_text es) (sym (entries_more events i e c.loop-event-test.true c.event-item.is));
      codes = codes_more events i e c.loop-event-test.true c.event-item.is c.code_in-code.ensures c.loop-event.invariant.codes;
    }
