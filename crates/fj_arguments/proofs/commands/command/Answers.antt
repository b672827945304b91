use Rattle.fj_arguments.proofs.commands.command.Goals as goal

pub returns : goal.returns
returns c =
    let recorded = c.with_plain-with_record.ensures _ (c.with_texts-texts.ensures _ c.with_runs.ensures) in
    c.with_one.ensures _ _ recorded c.view.ensures.app
