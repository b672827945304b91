-- The events of each step are allowed, and tell what its reply tells.

-- what holds where a step is not refused
pub mod Standing
-- Submit, Fork, Trigger
pub mod AcceptsAllowed
-- Poll, Help, Join
pub mod TakesAllowed
-- arrivals and climbs
pub mod ClimbsAllowed
-- End and HookDone
pub mod EndsAllowed
-- Add, QuietRoot
pub mod CompletersAllowed
-- Fault, Cancel, and an end that fails
pub mod SettlesAllowed
-- Shutdown, Stop
pub mod ShutsAllowed
-- Release
pub mod ReleasesAllowed
-- every step
pub mod StepsAllowed
-- every answer, and so the history of a run
pub mod AnswersAllowed
-- the events of a step count, fire and pass completers only
pub mod StepsClimb
-- the events and the reply of a step tell the same
pub mod StepsTell
-- where `none` is replied, every queue is empty
pub mod NothingChosen
-- what the replies say of the events
pub mod Replies
-- what an answer says, step by step
pub mod Answered
-- the past of a run after one step more, and how long its history is
pub mod RunsGrow
-- why a submission is refused
pub mod SubmitRefused
-- which tasks the events of a step are about
pub mod AboutTasks
-- steps of workers leave what submitters pushed, and whether it is shut
pub mod Inside
-- steps that hand nothing out and end nothing leave each hand as it was
pub mod KeepsHands
-- a hook that a step hands out goes to its worker, whose hand is empty
pub mod HandsFree
-- the events of each step follow, and so those of every run
pub mod Following
