use Rattle.std.proofs.Common.{rules}
use Rattle.fj_lines.proofs.Reading.HeadLaws.{head_again}
use Rattle.fj_history.specs.Headings.{heading}
use Rattle.fj_history.proofs.heading.push_heading.Goals as goal

pub returns-clause-read : goal.returns-clause-read
returns-clause-read c = head_again (heading c.args.mode c.args.limits) (search rules)
