-- What a body of a job still has to do.
pub mod Recursions
-- The tasks that it has forked.
pub mod Asks
-- What it asks next, by its stage and what it hears.
pub mod Stages
