-- which events concern those who sleep
pub mod News
-- who waits for what
pub mod Waiting
