-- The new events of a line are the tail of the history behind it.
use Rattle.std.proofs.Common.{◌≡◌, Bool, true, false, List, [], ◌++◌, length, map, drop, Option, Some, None, refl, sym, ap, ◌∙◌, append_assoc}
use Rattle.std.specs.Prelude.{if◌then◌else◌}
use Rattle.std.proofs.lemmas.List.{append-nil}
use Rattle.std.proofs.Math.Seq.{drop-append_seam}
use Rattle.fj_rules.specs.declared.event.Event.{Event}
use Rattle.fj_rules.specs.declared.refusal.Refusal.{Refusal}
use Rattle.fj_rules.specs.declared.said.Said.{Said}
use Rattle.fj_rules.specs.Answers.{answer}
use Rattle.fj_rules.specs.Epochs.{IsPast, seal_refusal}
use Rattle.fj_rules.specs.Pasts.{Past, grown, present}
use Rattle.fj_rules.proofs.Headline.Parting.{past_begins}
use Rattle.fj_history.specs.declared.entry.Entry.TheVariants as entry
use Rattle.fj_replay.specs.declared.asked.Asked.{Asked}
use Rattle.fj_replay.specs.declared.asked.Asked.TheVariants as ask
use Rattle.fj_replay.specs.declared.replied.Replied.TheVariants.{Said as Says, NameTaken}
use Rattle.fj_replay.specs.Namings.{is_named}
use Rattle.fj_replay.specs.Plays.{Play, accepting, play_after, replied, seal_reply, sealing}
use Rattle.fj_record.specs.Traces.{entries_of, seal_entry}

present_more : (past : Past) (es : List Event) → IsPast past → present (grown past es) ≡ present past ++ es
present_more past es run =
    let whole : past.events ++ es ≡ past.sealed ++ (present past ++ es) = ap (λ (h : List Event). h ++ es) (past_begins past run) ∙ append_assoc past.sealed (present past) es in
    ap (drop (length past.sealed)) whole ∙ drop-append_seam past.sealed (present past ++ es)

-- what a line adds to the history where the machine replied to it
pub said_adds : (play : Play) (asked : Asked) (said : Said) → IsPast play.past → replied play asked ≡ Says said
    → (es : List Event) × (present (play_after play asked).past ≡ present play.past ++ es) × (map entry.Event es ≡ entries_of play asked)
said_adds play (ask.Step wanted) said run is = ((answer play.past wanted).1, present_more play.past (answer play.past wanted).1 run, refl)
said_adds play (ask.Accept name wanted) said run is = go (is_named play.naming name) is
  where
    es : List Event
    es = (answer play.past wanted).1

    go : (taken : Bool) → (if taken then NameTaken else Says (answer play.past wanted).0) ≡ Says said
        → (fs : List Event) × (present (if taken then play else accepting play name (answer play.past wanted)).past ≡ present play.past ++ fs) × (map entry.Event fs ≡ (if taken then [] else map entry.Event es))
    go true is = absurd cc
    go false is = (es, present_more play.past es run, refl)
said_adds play ask.Seal said run is = go (seal_refusal play.past) is
  where
    go : (refusal : Option Refusal) → seal_reply play.past refusal ≡ Says said → (fs : List Event) × (present (sealing play.past refusal) ≡ present play.past ++ fs) × (map entry.Event fs ≡ seal_entry refusal)
    go None is = absurd cc
    go (Some refusal) is = ([], sym (append-nil (present play.past)), refl)
said_adds play ask.Epoch said run is = absurd cc
