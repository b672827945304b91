-- what threads sleep for
pub mod Sought
-- the state of a place
pub mod Places
-- which threads sleep
pub mod Sleeping
-- which threads are woken
pub mod Waking
