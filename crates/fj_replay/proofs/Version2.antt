-- The replies to a script of version 1, and to the same script as version 2.

-- the numbers of tasks: those below the number of accepted ones
pub mod Accepted
-- a task that a reply tells of was accepted
pub mod Told
-- an answer does not depend on which number is asked that no task has
pub mod Unknown
-- the names of numbered tasks, and their places in a table
pub mod Names
-- lines without a line feed, and what is cut of them
pub mod FeedFree
-- a step of version 1, and its line of version 2
pub mod Asked
-- the replies stay what they were, but for the names
pub mod Replies
