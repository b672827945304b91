-- the seats of a new pool
mod Seating
-- the tickets, the lanes and the end that a record tells of
mod Records
-- as many submissions were booked as the machine accepted
mod Accepted
-- where all that was admitted was taken in, the lanes are empty
mod Emptied
-- what calls leave of what the workers hold, and what their ends know of it
mod Holdings
-- That it may go to another thread.
pub mod Crossing
