-- the parts of a pool, before it is opened
pub mod Parts
-- what is left of a pool
pub mod Winding
-- what a worker holds
pub mod Holdings
-- what a pool does at one moment
pub mod Glances
