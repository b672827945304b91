use Rattle.std.proofs.Common.{◌≡◌, take}
use Rattle.fj_slots.specs.Shelves.{entries, without_entries}
use Rattle.fj_slots.proofs.serial_map.SerialMap.sweep.Given as goal

abbrev pub invariant-loop-number : goal.invariant-loop-number
invariant-loop-number g l = (entries l.self ≡ without_entries (entries l.initial.self) (take l.number-index l.numbers)) × (l.self.room ≡ l.initial.self.room) × (l.number-index ≡ 0 → l.self ≡ l.initial.self)
