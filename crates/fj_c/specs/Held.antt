-- What a handle owns: the machine at its address, and the right to free its block; or nothing.
use base.Fml.{Fml, feq}
use denote.RawPtr.{Ptr, null_ptr}
use Rattle.std.specs.Prelude.{Option, Some, None}
use Rattle.std.specs.contracts.alloc.Global
use Rattle.std.specs.contracts.impls.GlobalAllocator.TheImpl
use Rattle.std.specs.Box.Ownership.{box_owns}
use Rattle.fj_rules.specs.Pasts.{Past}
use Rattle.fj_machine.specs.contracts.machine.Machine as machine

abbrev pub held : (Global.the_row).Denot → Ptr → Past → Fml
held a p x = box_owns (TheImpl.ghosts.dealloc_token a) machine.the_row p x

abbrev pub held_if : (Global.the_row).Denot → Ptr → Option Past → Fml
held_if a p None = feq Ptr p null_ptr
held_if a p (Some x) = held a p x
