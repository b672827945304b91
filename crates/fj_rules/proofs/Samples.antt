-- Sample scripts, computed by the definitions.

-- whether an event may follow, as a test
pub mod AllowedTest
-- that it says what the definition says
pub mod AllowedTested
-- what a script comes to
pub mod Scripts
-- Submit, Fork, Trigger
pub mod Accepts
-- Poll, Help, Join
pub mod Takes
-- End
pub mod Ends
-- HookDone
pub mod Hooks
-- Add, QuietRoot
pub mod Completers
-- Fault, Cancel
pub mod Settles
-- Shutdown, Stop
pub mod Shuts
-- IsQuiescent, and the lists of tasks
pub mod Queries
-- Release
pub mod Releases
-- of several refusals the first is told
pub mod RefusalOrder
-- histories that are refused
pub mod RefusedHistories
