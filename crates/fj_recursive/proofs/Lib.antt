-- The left halves, and everything right of them.
pub mod Tails
-- The tasks of the left halves.
pub mod Joins
-- What a body asks next.
pub mod Stages
