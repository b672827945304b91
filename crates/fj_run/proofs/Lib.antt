-- What a pool owns may go to another thread.
pub mod Crossing
-- Which tickets were drawn.
pub mod Tickets
-- What a player saw told is in the record.
pub mod Outcomes
