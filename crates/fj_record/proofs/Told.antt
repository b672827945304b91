-- The events of the lines of a history.
use Rattle.std.proofs.Common.{◌≡◌, List, [], ◌∷◌, ◌++◌, map, refl, sym, ap, ◌∙◌}
use Rattle.std.proofs.lemmas.Grind.{flat_map-append}
use Rattle.std.proofs.lemmas.List.{append-nil}
use Rattle.fj_rules.specs.declared.epoch.Sealed.{Sealed}
use Rattle.fj_rules.specs.declared.event.Event.{Event}
use Rattle.fj_rules.specs.Epochs.{IsPast}
use Rattle.fj_rules.specs.Parts.{Fits, events_in}
use Rattle.fj_rules.specs.Pasts.{Past, present}
use Rattle.fj_rules.proofs.Headline.Parting.{parts_joined}
use Rattle.fj_history.specs.declared.entry.Entry.{Entry}
use Rattle.fj_history.specs.declared.entry.Entry.TheVariants as entry
use Rattle.fj_record.specs.Texts.{event_told, events_told, history_entries, part_entries, parts_entries}

told_then : (xs ys : List Entry) → events_told (xs ++ ys) ≡ events_told xs ++ events_told ys
told_then xs ys = flat_map-append event_told xs ys

told_events : (events : List Event) → events_told (map entry.Event events) ≡ events
told_events [] = refl
told_events (e ∷ events) = ap (λ (es : List Event). e ∷ es) (told_events events)

told_part : (part : Sealed) → events_told (part_entries part) ≡ part.events.items
told_part part = told_then (map entry.Event part.events.items) (entry.Seal ∷ []) ∙ append-nil (events_told (map entry.Event part.events.items)) ∙ told_events part.events.items

told_parts : (parts : List Sealed) → events_told (parts_entries parts) ≡ events_in parts
unfolding events_in
told_parts [] = refl
told_parts (part ∷ parts) = told_then (part_entries part) (parts_entries parts) ∙ ap (λ (es : List Event). es ++ events_told (parts_entries parts)) (told_part part) ∙ ap (λ (es : List Event). part.events.items ++ es) (told_parts parts)

-- all parts, and what has happened since
pub told_whole : (parts : List Sealed) (past : Past) → IsPast past → Fits parts past → events_told (history_entries parts (present past)) ≡ past.events
told_whole parts past is fits =
    told_then (parts_entries parts) (map entry.Event (present past))
    ∙ ap (λ (es : List Event). es ++ events_told (map entry.Event (present past))) (told_parts parts)
    ∙ ap (λ (es : List Event). events_in parts ++ es) (told_events (present past))
    ∙ sym (parts_joined parts past is fits)
