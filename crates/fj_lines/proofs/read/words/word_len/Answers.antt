use Rattle.std.proofs.Common.{rules, tests}
use Rattle.std.proofs.lemmas.Iterator.{YieldsList-from_slice}
use Rattle.std.proofs.lemmas.Iterator.Search.{position_from_yields_List}
use Rattle.fj_lines.proofs.Reading.WordLaws.{is_space, first_place}
use Rattle.fj_lines.proofs.read.words.word_len.Goals as goal

pub returns : goal.returns
returns c =
    let line = c.args.line.now in
    first_place line c.position.result c.unwrap_or.result
    (position_from_yields_List is_space _ _ c.position.result c.position.ensures.ran (YieldsList-from_slice line cc) (λ x b q k. search (rules, tests)))
    c.unwrap_or.ensures
