-- Results are kept, and taken out.
pub mod Results
-- A task is released.
pub mod Releases
-- What stands in a list from a place on.
pub mod FromPlace
-- One task after another is released.
pub mod Chains
-- Which taken tasks may be such that they can be released, step by step.
pub mod DueTasks
-- A task is released, and then those above it.
pub mod Upwards
-- What the releases of a call leave of a store.
pub mod Waits
-- A plain task whose result was taken is released at once.
pub mod PlainTasks
-- What a poll and a help hear of a choice.
pub mod Polling
-- Steps that hand no task out and end no body.
pub mod Calms
-- Which bodies no worker holds, once a body has ended without a result.
pub mod Ended
-- A body ends without a result.
pub mod Completing
-- Why an ending is refused.
pub mod Refused
-- The end of the submissions.
pub mod Shutting
-- Which tasks a step makes normal.
pub mod Normals
-- Which completion actions a step ends.
pub mod HooksEnded
-- A completion action ends, and that of the parent begins or does not.
pub mod HookDone
-- No result is lost.
pub mod NoneLost
-- What has happened is handed out in parts.
pub mod Sealing
-- A hand fits as before.
pub mod Bare
-- That it may go to another thread.
pub mod Crossing
-- A join or a take finds no result.
pub mod NoResult
