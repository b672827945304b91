use Rattle.std.proofs.Common.{⊎_elim, inl, inr, refl, subst}
use Rattle.std.specs.Io.KnownBytes.{Appends}
use Rattle.fj_rules.specs.Pasts.{Past}
use Rattle.fj_check.proofs.Found.{read_checked}
use Rattle.fj_views.specs.Tables.{table_text}
use Rattle.fj_commands.proofs.Checked.{view_ended, failed_unfinished, fault_ended, fault_unfinished}
use Rattle.fj_commands.proofs.view_command.run_view.Goals as goal

pub returns-in-Err-notes_of-clause-ends : goal.returns-in-Err-notes_of-clause-ends
returns-in-Err-notes_of-clause-ends g c = (
  inl (inr (c.told_of_none.ensures, c.in-Err-notes_of.ensures), refl, refl),
  λ asked zero. absurd (failed_unfinished c.told_of_none.result c.told_of_none.ensures zero),
)

pub returns-in-Err-notes_of-clause-failed : goal.returns-in-Err-notes_of-clause-failed
returns-in-Err-notes_of-clause-failed g c = λ five. inr c.in-Err-notes_of.ensures

pub returns-in-Ok-read_story-clause-ends : goal.returns-in-Ok-read_story-clause-ends
returns-in-Ok-read_story-clause-ends g c =
    let story = c.in-Ok-read_story.story in
    let read = c.in-Ok-read_story.ensures.ok in
    let checked = read_checked story _ _ read in (
      inr (view_ended checked.0 c.shown.result _ _ _ _ checked.1 c.shown.ensures.written c.shown.ensures.status),
      λ asked zero.
          let tabled = c.shown.ensures.text _ (c.text_of.ensures (c.in-Ok.ensures.tasks asked)) zero in
          (story, read, subst (λ (p : Past). Appends (g.W.Sink.contents c.args.out.now) (g.W.Sink.contents c.shown.new.out) (table_text p.events)) c.set_notes.ensures tabled),
    )

pub returns-in-Ok-read_story-clause-failed : goal.returns-in-Ok-read_story-clause-failed
returns-in-Ok-read_story-clause-failed g c = λ five. inl (inr (c.shown.ensures.failed five))

pub returns-in-Err-read_story-clause-ends : goal.returns-in-Err-read_story-clause-ends
returns-in-Err-read_story-clause-ends g c = (
  inr (fault_ended c.in-Err-read_story.fault c.told_of_fault.result _ _ _ _ c.in-Err-read_story.ensures.err c.told_of_fault.ensures.ends),
  λ asked zero. absurd (fault_unfinished c.in-Err-read_story.fault c.told_of_fault.result _ _ c.told_of_fault.ensures.ends zero),
)

pub returns-in-Err-read_story-clause-failed : goal.returns-in-Err-read_story-clause-failed
returns-in-Err-read_story-clause-failed g c = λ five.
    inl (⊎_elim (λ read. inl (c.in-Err-read_story.ensures.failed read)) (λ written. inr written) (c.told_of_fault.ensures.failed five))
