-- What a trace writes is a history.
use Rattle.std.proofs.Common.{ℕ, ◌≡◌, ◌≤◌, ◌^◌, Bool, true, false, List, [], ◌∷◌, ◌++◌, map, Option, Some, None, refl, sym, ap, ◌∙◌, subst, arith, ⊎_elim, append_assoc}
use Rattle.std.specs.Prelude.{IfSome, if◌then◌else◌}
use Rattle.std.proofs.lemmas.List.{append-nil}
use Rattle.fj_rules.specs.declared.event.Event.{Event}
use Rattle.fj_rules.specs.declared.refusal.Refusal.{Refusal}
use Rattle.fj_rules.specs.declared.step.Step.{Step}
use Rattle.fj_rules.specs.Lists.{is_in}
use Rattle.fj_rules.specs.Tasks.{accepted, is_completer}
use Rattle.fj_rules.specs.Climbs.{climbed, climbed_by}
use Rattle.fj_rules.specs.Answers.{answer}
use Rattle.fj_rules.specs.Epochs.{IsPast, seal_refusal}
use Rattle.fj_rules.specs.Follows.{AllFollow, NamesCompleter}
use Rattle.fj_rules.specs.Pasts.{Past, grown}
use Rattle.fj_rules.proofs.Events.Growth.{accepted_more}
use Rattle.fj_rules.proofs.Events.Lawful.{allowed_more, front_cases}
use Rattle.fj_rules.proofs.Completers.Climbed.{climbs_more}
use Rattle.fj_rules.proofs.Steps.AnswersAllowed.{IsSound, past_sound}
use Rattle.fj_rules.proofs.Steps.Following.{answer_follows}
use Rattle.fj_history.specs.declared.entry.Entry.{Entry}
use Rattle.fj_history.specs.declared.entry.Entry.TheVariants as entry
use Rattle.fj_history.specs.Entries.{AllHaveCodes}
use Rattle.fj_check.specs.Entries.{AllMayCome, past_from}
use Rattle.fj_check.specs.Histories.{AllHaveLines}
use Rattle.fj_replay.specs.declared.asked.Asked.{Asked}
use Rattle.fj_replay.specs.declared.asked.Asked.TheVariants as ask
use Rattle.fj_replay.specs.Namings.{is_named}
use Rattle.fj_replay.specs.Plays.{Play, accepting, play_after, sealing}
use Rattle.fj_record.specs.Traces.{entries_of, seal_entry}
use Rattle.fj_record.proofs.Codes.{HasAskedCode, answer_has}
use Rattle.fj_record.proofs.Small.{IsNarrow, event_small}

-- ---- one line: its entries may come, and lead to what has happened after it

pub follow_come : (past : Past) (es : List Event) → AllFollow past es → AllMayCome past (map entry.Event es)
follow_come past [] follow = tt
follow_come past (e ∷ es) follow = (follow.0, follow_come (grown past (e ∷ [])) es follow.1)

events_lead : (past : Past) (es : List Event) → past_from past (map entry.Event es) ≡ grown past es
events_lead past [] = ap (λ (h : List Event). record past { events = h }) (sym (append-nil past.events))
events_lead past (e ∷ es) = events_lead (grown past (e ∷ [])) es ∙ ap (λ (h : List Event). record past { events = h }) (append_assoc past.events (e ∷ []) es)

-- these entries may come, and lead there
abbrev Lead : Past → List Entry → Past → Type 0
Lead past es later = AllMayCome past es × (past_from past es ≡ later)

step_leads : (past : Past) (wanted : Step) → IsPast past → Lead past (map entry.Event (answer past wanted).1) (grown past (answer past wanted).1)
step_leads past wanted run = (follow_come past (answer past wanted).1 (answer_follows past wanted run), events_lead past (answer past wanted).1)

pub line_leads : (play : Play) (asked : Asked) → IsPast play.past → Lead play.past (entries_of play asked) (play_after play asked).past
line_leads play (ask.Step wanted) run = step_leads play.past wanted run
line_leads play (ask.Accept name wanted) run = go (is_named play.naming name)
  where
    go : (taken : Bool) → Lead play.past (if taken then [] else map entry.Event (answer play.past wanted).1) (if taken then play else accepting play name (answer play.past wanted)).past
    go true = (tt, refl)
    go false = step_leads play.past wanted run
line_leads play ask.Seal run = go (seal_refusal play.past) refl
  where
    go : (refusal : Option Refusal) → seal_refusal play.past ≡ refusal → Lead play.past (seal_entry refusal) (sealing play.past refusal)
    go None is = ((is, tt), refl)
    go (Some refusal) is = (tt, refl)
line_leads play ask.Epoch run = (tt, refl)

-- ---- each has a line

names_climb : (h : List Event) (e : Event) → NamesCompleter h e → (c : ℕ) → is_in c (climbed (e ∷ [])) ≡ true → is_completer h c ≡ true
unfolding climbed
names_climb h e names c there = ⊎_elim (λ is. go (climbed_by e) names is) (λ none. absurd cc) (front_cases c (climbed_by e) [] there)
  where
    go : (said : Option ℕ) → IfSome said (λ d. is_completer h d ≡ true) → said ≡ Some c → is_completer h c ≡ true
    go None names is = absurd cc
    go (Some d) names is = let same : d ≡ c = cc in subst (λ (t : ℕ). is_completer h t ≡ true) same names

one_grows : (h : List Event) (e : Event) → accepted h ≤ accepted (h ++ e ∷ [])
one_grows h e = let more = accepted_more h e in omega (arith, more)

pub grows : (h es : List Event) → accepted h ≤ accepted (h ++ es)
grows h [] = rw (append-nil h) (omega arith)
grows h (e ∷ es) =
    let one = one_grows h e in
    let others = rw (append_assoc h (e ∷ []) es) at (grows (h ++ e ∷ []) es) in
    omega (arith, one, others)

pub events_small : (past : Past) (es : List Event) → IsNarrow past.pool → IsSound past.pool past.events → AllFollow past es → AllHaveCodes es → accepted (past.events ++ es) ≤ 2 ^ 32 → AllHaveLines (map entry.Event es)
events_small past [] narrow sound follow codes few = tt
events_small past (e ∷ es) narrow sound follow codes few =
    let h = past.events in
    let rest = rw (← append_assoc h (e ∷ []) es) at few in
    let one = one_grows h e in
    let others = grows (h ++ e ∷ []) es in
    let next : IsSound past.pool (h ++ e ∷ []) = record {
      allowed = allowed_more past.pool [] h e sound.allowed follow.0.allowed;
      climbs = climbs_more h (e ∷ []) sound.climbs (names_climb h e follow.0.names);
    } in (
      event_small past.pool h e narrow sound.allowed sound.climbs follow.0.allowed follow.0.names codes.0 (omega (arith, rest, one, others)) (omega (arith, rest, others)),
      events_small (grown past (e ∷ [])) es narrow next follow.1 codes.1 rest,
    )

step_small : (past : Past) (wanted : Step) → IsPast past → IsNarrow past.pool → AllHaveCodes (answer past wanted).1 → accepted (grown past (answer past wanted).1).events ≤ 2 ^ 32 → AllHaveLines (map entry.Event (answer past wanted).1)
step_small past wanted run narrow codes few = events_small past (answer past wanted).1 narrow (past_sound past run) (answer_follows past wanted run) codes few

pub line_small : (play : Play) (asked : Asked) → IsPast play.past → IsNarrow play.past.pool → HasAskedCode asked → accepted (play_after play asked).past.events ≤ 2 ^ 32 → AllHaveLines (entries_of play asked)
line_small play (ask.Step wanted) run narrow code few = step_small play.past wanted run narrow (answer_has play.past wanted code) few
line_small play (ask.Accept name wanted) run narrow code few = go (is_named play.naming name) few
  where
    go : (taken : Bool) → accepted (if taken then play else accepting play name (answer play.past wanted)).past.events ≤ 2 ^ 32 → AllHaveLines (if taken then [] else map entry.Event (answer play.past wanted).1)
    go true few = tt
    go false few = step_small play.past wanted run narrow (answer_has play.past wanted code) few
line_small play ask.Seal run narrow code few = go (seal_refusal play.past)
  where
    go : (refusal : Option Refusal) → AllHaveLines (seal_entry refusal)
    go None = (tt, tt)
    go (Some refusal) = tt
line_small play ask.Epoch run narrow code few = tt
