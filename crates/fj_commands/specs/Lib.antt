-- an answer on a line of its own
pub mod Answers
-- the meaning of exit statuses
pub mod Statuses
-- why the exit status is 5
pub mod Failures
