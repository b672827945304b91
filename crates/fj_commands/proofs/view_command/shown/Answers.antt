use Rattle.std.proofs.Common.{string_bytes, refl}
use Rattle.fj_commands.proofs.view_command.shown.Goals as goal

pub returns-in-Ok-clause-written : goal.returns-in-Ok-clause-written
returns-in-Ok-clause-written g c = λ zero. (string_bytes c.in-Ok.text, (c.answered.ensures.job (string_bytes c.in-Ok.text) refl).written zero)
