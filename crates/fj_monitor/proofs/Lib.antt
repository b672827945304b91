-- what a caller has seen told
mod Telling
-- That it may go to another thread.
pub mod Crossing
