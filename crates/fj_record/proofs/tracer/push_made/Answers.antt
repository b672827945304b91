use Rattle.std.proofs.Common.{◌≡◌, ◌++◌, ◌∙◌, length, drop, ap, sym, arith, length-append, string_bytes, List, map}
use Rattle.std.proofs.Math.Seq.{drop-append_seam}
use Rattle.fj_rules.specs.declared.event.Event.{Event}
use Rattle.fj_rules.specs.Pasts.{present}
use Rattle.fj_history.specs.declared.entry.Entry.TheVariants as entry
use Rattle.fj_history.specs.Entries.{entries_text}
use Rattle.fj_replay.specs.Plays.{Play}
use Rattle.fj_record.specs.Traces.{entries_of}
use Rattle.fj_record.proofs.Tails.{said_adds}
use Rattle.fj_record.proofs.tracer.push_made.Goals as goal
use Rattle.fj_record.proofs.tracer.push_made.Goals.{After-history}

-- the history of before, and what was added
adds : (c : After-history) → (es : List Event) × (c.history.result.now ≡ c.history-before.result.now ++ es) × (map entry.Event es ≡ entries_of c.args.player.now c.args.asked)
adds c =
    let added = said_adds c.args.player.now c.args.asked c.in-Said.field-0 c.history-before.ensures.run (sym c.in_ok-make.ensures.reply ∙ c.in-Said.is) in (
      added.0,
      c.history.ensures.events ∙ ap (λ (play : Play). present play.past) c.in_ok-make.ensures.play ∙ added.1 ∙ ap (λ (before : List Event). before ++ added.0) (sym c.history-before.ensures.events),
      added.2,
    )

pub since-requires : goal.since-requires
since-requires c =
    let added = adds c in
    let long = ap length added.1 ∙ length-append c.history-before.result.now added.0 in
    omega (arith, long)

pub returns-in_ok-push_entries-in-Said-clause-text : goal.returns-in_ok-push_entries-in-Said-clause-text
returns-in_ok-push_entries-in-Said-clause-text c =
    let added = adds (goal.at.returns-in_ok-push_entries-in-Said-clause-text c).After-history in
    let tail = c.since.ensures ∙ ap (drop (length c.history-before.result.now)) added.1 ∙ drop-append_seam c.history-before.result.now added.0 in
    c.in_ok-push_entries-in-Said.ensures.written ∙ ap (λ (es : List Event). string_bytes c.args.text.now ++ entries_text (map entry.Event es)) tail ∙ ap (λ es. string_bytes c.args.text.now ++ entries_text es) added.2
