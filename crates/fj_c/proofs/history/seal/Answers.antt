use Rattle.std.proofs.Common.{List, ap, ◌∙◌, inl, length}
use Rattle.fj_rules.specs.declared.event.Event.{Event}
use Rattle.fj_codes.specs.Codings.{reply}
use Rattle.fj_codes.specs.declared.codes.TheConstants.{DONE}
use Rattle.fj_c.proofs.history.seal.Goals as goal

pub returns-in-Ok : goal.returns-in-Ok
returns-in-Ok c =
    let said = c.in-Ok.ensures in
    inl (record {
      code = c.new.ensures ∙ ap (λ (events : List Event). reply DONE (length events)) (c.as_slice.ensures.value ∙ said.events);
      may = said.may;
      sealed = said.sealed;
      part = c.in-Ok.part;
      events = said.events;
      gone = said.gone;
      fits = said.fits;
    })
