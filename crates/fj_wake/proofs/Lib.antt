-- A core with the account of who sleeps may go to another thread.
pub mod Crossing
-- Who waits after a call waited before.
pub mod Fewer
-- What has still to come after some events.
pub mod Lasting
