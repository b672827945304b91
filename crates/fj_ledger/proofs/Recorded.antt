-- What the record of a task says.

-- the record that a search has found
pub mod Located
-- what it says still holds after an event that does not touch its task
pub mod Telling
-- the records of all kept tasks, after one event more
pub mod Records
-- a call of the tree that is not refused
pub mod Refused
-- the count of children tells whether a kept task names it as the parent
pub mod KeptChildren
-- what an arrival at it does
pub mod ArrivalsTold
