use Rattle.std.proofs.Common.{◌++◌, ap, ◌∙◌}
use Rattle.std.specs.Prelude.{ℕ, List, string_bytes}
use Rattle.std.proofs.lemmas.Fmt.{contents_after_writes}
use Rattle.fj_views.specs.Tables.{table_text}
use Rattle.fj_commands.proofs.view_command.text_of.Goals as goal

pub returns-in-Ok : goal.returns-in-Ok
returns-in-Ok c = λ is.
    let text = table_text c.args.story.now.events in
    contents_after_writes _ string_bytes (λ w bs v took. took) _ text _ (c.in-Ok.ensures is) ∙ ap (λ (start : List ℕ). start ++ text) c.new-text.ensures.bytes
