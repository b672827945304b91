-- The ways from a record over its parents.

-- the parent of a record is a completer that is kept
pub mod Parents
-- the path from a record to its root
pub mod Paths
-- a climb without completion actions
pub mod Climbing
-- one that writes what it passes
pub mod Passing
-- the relay of a status
pub mod Relaying
