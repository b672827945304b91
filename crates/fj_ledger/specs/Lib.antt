pub mod Arriving
pub mod Climbing
pub mod Closing
pub mod Holds
pub mod InHands
pub mod Logs
pub mod Sources
-- Counts of tasks.
pub mod Counts
