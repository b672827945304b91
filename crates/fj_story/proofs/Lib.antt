-- the numbers of events after one more
pub mod Numbers
-- what a history says of a number that it has not accepted
pub mod Unsaid
-- what one more event leaves of the rows
pub mod RowsKept
-- what one more event changes of a row
pub mod RowsChanged
-- all rows after one more event
pub mod Tabling
-- the story that was read
pub mod Read
