-- calls from outside, by one ticket or by several
pub mod Asked
-- a core that continues another one
pub mod Continuing
-- the lanes of a pool stay
pub mod Lanes
-- submissions are taken in
pub mod Looking
-- what a body asks and hears, and why a worker leaves
pub mod Turning
-- what a worker does in one holding of the lock
pub mod Working
-- what a call leaves of what the workers hold
pub mod Keeping
-- what stands where no value is
pub mod Moments
