-- A handle may go to another thread: it owns a machine, and the right to free it.
use mir.Raw.{raw}
use base.Shift.{Keyless}
use denote.Memory.{lone}
use denote.Param.Send.{IsSend, owning_send, struct_send, sendable}
use denote.Builtin.{RawPtr}
use denote.RawPtr.{Ptr}
use denote.Struct.Struct.{exits_of}
use denote.Struct.Owning.{shape, fields, to}
use Rattle.std_alloc.proofs.SendSync.{quiet, lies}
use Rattle.std.specs.Prelude.{Option, Some, None}
use Rattle.std.specs.declared.alloc.Global.{Global}
use Rattle.std.proofs.alloc.Global.TheSendSync as heap
use Rattle.std.proofs.Crossing.{frees}
use Rattle.fj_rules.specs.Pasts.{Past}
use Rattle.fj_machine.specs.contracts.machine.Machine as machine
use Rattle.fj_machine.proofs.Crossing.{machine_send}
use Rattle.fj_c.specs.Held.{held_if}
use Rattle.fj_c.specs.contracts.pointer.Handle.{the_row, the_type}

held_keyless : (a : Global) (p : Ptr) (k : Option Past) → Keyless (held_if a p k)
held_keyless a p None = tt
held_keyless a p (Some x) = (lies machine.the_row machine_send p x, frees.frees a (raw (lone (machine.the_row).mir)) p)

pub send : IsSend the_row
send =
    let address : IsSend RawPtr = search sendable in
    owning_send the_type (address, (heap.the_field_send, tt)) (λ d. held_keyless d.alloc d.at d.past)
    (λ k. quiet (to the_type) (exits_of k (fields the_type)) ((struct_send (shape the_type) (address, (heap.the_field_send, tt))).leaving k))
