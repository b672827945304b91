-- what the end of a command says of its exit status
pub mod Ended
-- a job that did not fail, and a tree that was not read
pub mod Failed
-- how a job over a range ended
pub mod JobEnds
