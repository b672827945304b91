-- The artifact of a target.
pub mod Artifacts
-- What the body of a target asks.
pub mod Asks
-- How far a target has come.
pub mod Courses
-- Why nothing was built.
pub mod Faults
