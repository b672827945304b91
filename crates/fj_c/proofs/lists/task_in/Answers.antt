use Rattle.std.proofs.Common.{ap, ◌∙◌}
use Rattle.fj_codes.specs.Codings.{reply}
use Rattle.fj_codes.specs.declared.codes.TheConstants.{TASK}
use Rattle.fj_c.proofs.Nth.{nth_some, nth_none}
use Rattle.fj_c.proofs.lists.task_in.Goals as goal

pub returns-in-Some : goal.returns-in-Some
returns-in-Some c = c.new.ensures ∙ ap (reply TASK) c.t.view_is ∙ nth_some _ _ _ _ c.in-Some.ensures.ran

pub returns-in-None : goal.returns-in-None
returns-in-None c = c.new-in-None.ensures ∙ nth_none _ _ _ c.in-None.ensures.ran
