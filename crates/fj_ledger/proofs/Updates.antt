-- All that is kept is what the history says, after each update.

-- of a new ledger
pub mod Fresh
-- each part, after an event that says nothing to it
pub mod Parts
-- all parts together, after one event more
pub mod Growing
-- a task was accepted, or a trigger made
pub mod Accepted
-- a task was taken from its queue
pub mod Taken
-- a body has ended
pub mod BodyEnded
-- a completion action has ended
pub mod HookEnds
-- a pending count was raised or has fallen
pub mod Counted
-- what a record says of a task that was settled, fired or passed
pub mod Settled
-- a task was settled, fired or passed
pub mod Spent
-- a released task was settled
pub mod SettledInHand
-- a task was released
pub mod Released
-- the pool was shut
pub mod Shut
-- the history was handed out
pub mod Sealed
