-- Records are read and changed.

-- one record is changed
pub mod Children
-- one record is read or changed
pub mod Writes
-- some records are changed in one way, each of them once
pub mod Written
-- all records are changed, key by key
pub mod Sweeping
-- how many slots pass a test
pub mod Counts
-- a record is put in
pub mod Growing
-- a record is taken out
pub mod Shrinking
