use Rattle.std.proofs.Common.{rules}
use Rattle.fj_agreement.proofs.Steps.{begins, halves}
use Rattle.fj_agreement.proofs.new_pair.pair.Goals as goal

pub of_words-requires : goal.of_words-requires
of_words-requires g c = begins _

pub split_seat-other_token-requires : goal.split_seat-other_token-requires
split_seat-other_token-requires g c =
    (search rules, search rules, halves _ _ (search rules))
