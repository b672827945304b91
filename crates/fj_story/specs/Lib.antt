-- what a history says of each task
pub mod Rows
-- what one more event changes of that
pub mod Changes
-- what a table keeps
pub mod Tabled
