-- What is known of the history of each ledger.
pub mod Histories
-- All that is kept is what the history says, after each update.
pub mod Updates
-- What the record of a task says.
pub mod Recorded
-- What records say of the path over the parents.
pub mod Paths
-- Lists that are kept.
pub mod Lists
-- That it may go to another thread.
pub mod Crossing
