-- a submitter's ends of gate and lane
pub mod Seats
-- the lanes of a pool
pub mod Lanes
-- a dummy name
pub mod Names
