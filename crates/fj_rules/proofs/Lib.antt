-- Lists of numbers, and the owners of queues.
pub mod Lists
-- What one more event changes, and what it leaves.
pub mod Events
-- Where each task is, and how many are kept.
pub mod Places
-- Arrivals at completers, and the paths over their parents.
pub mod Completers
-- The events of each step are allowed, and tell what its reply tells.
pub mod Steps
-- What holds of each run.
pub mod Headline
-- Results of several makings.
pub mod Making
-- Sample scripts, computed by the definitions.
pub mod Samples
