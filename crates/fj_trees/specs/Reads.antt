-- What the result of reading a tree says of the calls of the reader.
use Rattle.std.specs.Prelude.{Option}
use Rattle.fj_streams.specs.Calls.{Calls, HasFailed, IsFine}
use Rattle.fj_trees.specs.declared.tree_fault.TreeFault.{TreeFault}
use Rattle.fj_trees.specs.declared.tree_fault.TreeFault.TheVariants.{Line, Memory, Read}

-- only `Read` says that the reader failed
abbrev pub ReaderTells : TreeFault → Option Calls → Option Calls → Type 0
ReaderTells (Line n) old new = IsFine old new
ReaderTells Memory old new = IsFine old new
ReaderTells Read old new = HasFailed old new
