-- The headline holds of the history of every run.
use Rattle.fj_rules.specs.Headline.{Headline}
use Rattle.fj_rules.specs.Pasts.{Past}
use Rattle.fj_rules.specs.Epochs.{IsPast}
use Rattle.fj_rules.proofs.Steps.AnswersAllowed.{history_allowed}
use Rattle.fj_rules.proofs.Events.Lawful.{handed_once, left_in_order}
use Rattle.fj_rules.proofs.Places.OnePlace.{one_place}
use Rattle.fj_rules.proofs.Completers.Firings.{none_after_shutdown, fired_once, fired_at_zero}

pub headline : (past : Past) → IsPast past → Headline past.pool past.events
headline past run =
    let pool = past.pool in
    let h = past.events in
    let so = history_allowed past run in
    record {
      allowed = so;
      place = one_place pool h so;
      handed_once = handed_once pool h so;
      order = left_in_order pool h so;
      shutdown = none_after_shutdown pool h so;
      fired_once = fired_once pool h so;
      fired_at_zero = fired_at_zero pool h so;
    }
