use Rattle.fj_arguments.proofs.commands.with_texts.Goals as goal

pub returns : goal.returns
returns c = λ line is.
    let traced = c.with_plain-with_trace.ensures _ (c.with_plain-with_check.ensures line is) in
    c.with_plain.ensures _ (c.with_plain-with_test.ensures _ traced)
