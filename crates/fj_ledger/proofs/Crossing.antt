-- A ledger may go to another thread.
use denote.Param.Send.{IsSend, sendable}
use denote.Model.Marks.{tied_send}
use denote.Model.Local.{Parts, rows}
use Rattle.std.proofs.Crossing.{crosses}
use Rattle.std.proofs.option.Option.TheSendSync.{the_send as option_send}
use Rattle.fj_rules.proofs.event.Event.TheSendSync.{the_send as event_send}
use Rattle.fj_rules.proofs.limits.Limits.TheSendSync.{the_send as limits_send}
use Rattle.fj_rules.proofs.ids.Serial.TheSendSync.{the_send as serial_send}
use Rattle.fj_queues.proofs.queues.Queues.TheSendSync.{the_send as queues_send}
use Rattle.fj_tree.proofs.tree.Tree.TheSendSync.{the_send as tree_send}
use Rattle.fj_queues.proofs.stacks.Stacks.TheSendSync.{the_send as stacks_send}
use Rattle.fj_queues.proofs.open.OpenTasks.TheSendSync.{the_send as open_send}
use Rattle.fj_ledger.proofs.ledger.hook.Hook.TheSendSync.{the_send as hook_send}
use Rattle.fj_ledger.specs.contracts.log.Log as Log
use Rattle.fj_ledger.specs.contracts.log.Log.TheKnot as knot
use Rattle.fj_ledger.specs.declared.log.Log.TheDeep.{the_members, member-Log}
use Rattle.fj_ledger.specs.contracts.ledger.Ledger as Ledger

layer : (p : Parts knot.frame) → IsSend (knot.view-Log p)
layer p = search (sendable, crosses, event_send, option_send) depth 40

keeps-log : (p : Parts knot.frame) → ((j : the_members) → IsSend (rows knot.frame p j)) → (i : the_members) → IsSend (rows knot.frame (knot.step p) i)
keeps-log p s member-Log = record { owned = (layer p).owned; leaving = λ k d w. tt }

log_send : IsSend Log.the_row
log_send = tied_send knot.frame knot.step knot.sizes keeps-log member-Log

pub ledger_send : IsSend Ledger.the_row
ledger_send = search (sendable, crosses, limits_send, log_send, queues_send, stacks_send, option_send, hook_send, tree_send, open_send, serial_send) depth 40
