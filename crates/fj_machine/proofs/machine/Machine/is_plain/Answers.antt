use Rattle.std.proofs.Common.{◌≡◌, false, refl, ap}
use Rattle.std.specs.Prelude.{not}
use Rattle.fj_rules.specs.Tasks.{is_kept}
use Rattle.fj_ledger.specs.Holds.{TellsOf}
use Rattle.fj_machine.proofs.Outcomes.Found.{found_kept, found_completer}
use Rattle.fj_machine.proofs.machine.Machine.is_plain.Goals as goal

pub returns-in-Some : goal.returns-in-Some
returns-in-Some c =
    let h = c.self.inside.ledger.events in
    let r = c.in-Some.record.now in
    let found : TellsOf h c.args.t r = c.in-Some.ensures.record in
    rw (← c.self.view_is, found_kept h c.args.t r found, found_completer h c.args.t r found) (ap not c.is_completer.ensures)

pub returns-in-None : goal.returns-in-None
returns-in-None c =
    let none : is_kept c.self.inside.ledger.events c.args.t ≡ false = c.in-None.ensures.record in
    rw (← c.self.view_is, none) refl
