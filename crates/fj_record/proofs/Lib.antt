-- texts written one after another
pub mod Written
-- the events of the lines
pub mod Told
-- runs of which nothing was sealed
pub mod Unsealed
-- their text is a history
pub mod Recorded
-- each entry of a run has a line
pub mod Small
pub mod Codes
-- what a trace writes is a history
pub mod Traced
pub mod Printed
pub mod Whole
-- the new events of a line are the tail of the history
pub mod Tails
