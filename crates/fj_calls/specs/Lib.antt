-- what was taken in, and under which tickets
pub mod Booked
-- the closing number
pub mod Closings
-- the sealed parts
pub mod Archives
-- the core
pub mod Cores
-- the closing number is set, and what is due is made
pub mod Closes
-- a parcel is taken in
pub mod Intakes
-- a submission is cancelled from outside
pub mod Cancels
-- the history is sealed, and the part kept
pub mod Sealing
-- the hand of one worker
pub mod Hands
-- what a worker may wait for
pub mod Joins
