-- The answer of a run.
pub mod Runs
-- what a body asks as a certain task
pub mod Asks
-- what a player sees of its pool
pub mod Playing
