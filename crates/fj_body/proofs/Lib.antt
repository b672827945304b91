-- Which bodies no worker holds, event by event.
pub mod Bodies
-- A task whose completion action is in a hand is not released.
pub mod InHands
-- A task gives one result at most.
pub mod Given
-- Where a body goes when its task ends, is settled, fires or is passed.
pub mod Closes
-- What holds of every store, step by step.
pub mod Stored
-- A task is taken from its queue.
pub mod Taking
-- A plain task's body ends.
pub mod Endings
-- What a call leaves of the submissions, and of a stuck store.
pub mod Frames
-- What each action of a body leaves of the store and of the hands.
pub mod Acts
-- The bodies of open tasks that went are dropped.
pub mod Sweeps
-- What follows the end of a body or of a hook.
pub mod Following
-- A hook ends.
pub mod HookEndings
-- What the step of one worker leaves of the hands of the others.
pub mod Others
