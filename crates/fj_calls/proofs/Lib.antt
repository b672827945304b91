-- an entry of a list after one was set
pub mod SetAt
-- the table of first bookings
mod Index
-- what an action leaves of the hands of the other workers
pub mod Others
