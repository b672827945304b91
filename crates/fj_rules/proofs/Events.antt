-- What one more event changes, and what it leaves.

-- each definition after one more event
pub mod Growth
-- what holds of each history whose events were allowed
pub mod Lawful
-- a task is accepted
pub mod NewTasks
-- what tasks are stays
pub mod KindsKept
-- how far tasks have come
pub mod Statuses
-- pending counts
pub mod Pending
-- the queues
pub mod Queues
-- a task leaves its queue
pub mod Taking
-- stacks and statuses after a body ended
pub mod Ends
-- a task whose body ends is open or gone
pub mod Opening
-- a completer is spent
pub mod Spending
-- several tasks become exceptional, one after another
pub mod Settling
-- a task is forgotten
pub mod Releasing
-- a stop
pub mod Stopping
-- a shutdown
pub mod Closing
-- events that leave every task where it is
pub mod Calm
-- completion actions in hands
pub mod Hands
-- a task comes to be such that it can be released
pub mod Releasable
