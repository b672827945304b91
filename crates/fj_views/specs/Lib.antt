-- the text of the table of tasks
pub mod Tables
