-- A graph that grows, and ranks that tell that it has no cycle.
pub mod Growing
-- One more step.
pub mod Steps
