use Rattle.fj_lines.proofs.Reading.WordLaws.{is_last_at}
use Rattle.fj_lines.proofs.read.words.at_end.Goals as goal

pub returns : goal.returns
returns c = is_last_at c.args.behind.now c.is_empty.result c.is_empty.ensures
