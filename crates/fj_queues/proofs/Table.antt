-- The queues of all owners in one table.

-- the owners of a table
pub mod Owners
-- one of several queues is read or changed
pub mod QueueWrites
-- what a push and a take do to the table
pub mod QueueSteps
-- cells go from the free ones to an owner, and back
pub mod TableSteps
-- how many numbers stand in all queues
pub mod Counts
-- the scan for the first queue that is not empty
pub mod Scans
-- the numbers at the ends of a queue
pub mod EndsSeen
