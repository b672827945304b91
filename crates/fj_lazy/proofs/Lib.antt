-- Parts around a value.
pub mod Around
-- The tasks of parts that were forked.
pub mod Joins
-- What is asked, and the turns that are left.
pub mod Asking
-- What a lazy body has in hand.
pub mod Gives
-- What is joined.
pub mod Joined
-- Where a descent stops.
pub mod Stops
