use Rattle.std.proofs.Common.{arith}
use Rattle.fj_lines.proofs.Reading.WordLaws.{words_cut, first_place-le}
use Rattle.fj_lines.proofs.read.words.first_word.Goals as goal

pub split_at-requires : goal.split_at-requires
split_at-requires c = omega (arith, c.word_len.ensures, first_place-le c.args.line.now)

pub returns : goal.returns
returns c = rw (c.split_at.ensures.front, c.split_at.ensures.back, c.word_len.ensures) (words_cut c.args.line.now)
