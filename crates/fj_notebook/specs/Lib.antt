-- what is heard and asked by a body inside another
pub mod Wraps
-- what is known after notes were to be written
pub mod Writes
