use Rattle.fj_fronts.proofs.Steps.{begins}
use Rattle.fj_fronts.proofs.opened.Opened.new.Goals as goal

pub of_words-requires : goal.of_words-requires
of_words-requires g c = begins
