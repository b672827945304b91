-- A machine may go to another thread.
use denote.Param.Send.{IsSend, sendable}
use Rattle.fj_ledger.proofs.Crossing.{ledger_send}
use Rattle.fj_machine.specs.contracts.machine.Machine as Machine

pub machine_send : IsSend Machine.the_row
machine_send = search (sendable, ledger_send) depth 40
