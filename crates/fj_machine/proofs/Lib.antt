-- What any step comes to.
pub mod Outcomes
-- What each step comes to, by the words of `src/steps/`.
pub mod ByStep
-- One step or move more of a run.
pub mod MoreSteps
-- That it may go to another thread.
pub mod Crossing
-- Sample runs with seals, computed by the definitions.
pub mod Samples
