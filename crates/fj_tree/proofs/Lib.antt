-- Records are read and changed.
pub mod Records
-- Numbers, and where their records are.
pub mod Index
-- The ways from a record over its parents.
pub mod Ascents
