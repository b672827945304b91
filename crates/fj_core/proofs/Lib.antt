-- the bookings beside the lanes
mod Lanes
-- where the closing number is reached
mod Reached
-- what a call of the store leaves of the core
mod Frames
-- what the step that is due leaves
mod Shutting
-- an intake
mod TakingIn
-- the parts that are kept
mod Parts
-- That it may go to another thread.
pub mod Crossing
