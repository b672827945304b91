-- Which tasks may be releasable.
pub mod DueTasks
-- One taken task after another is released.
pub mod Waits
