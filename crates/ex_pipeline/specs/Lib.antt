-- The maps of the stages.
pub mod Stages
-- What the body of a stage asks.
pub mod Asks
-- How far a stage has come.
pub mod Courses
-- Why an event has no level.
pub mod Faults
