use Rattle.std.proofs.Common.{sym, ap, ◌∙◌}
use Rattle.fj_rules.specs.Pasts.{Past}
use Rattle.fj_check.specs.Entries.{past_after}
use Rattle.fj_story.proofs.looking.Seen.go_on.Goals as goal

pub tell-requires-clause-may : goal.tell-requires-clause-may
tell-requires-clause-may c = rw c.requires c.in-Ok.ensures.may

pub tell-requires-clause-after : goal.tell-requires-clause-after
tell-requires-clause-after c = c.in-Ok.ensures.past ∙ ap (λ (p : Past). past_after p c.in-Ok.entry) (sym c.requires)
