-- Where an entry stands in a list.
pub mod Found
-- A number that stands once is taken out of a list.
pub mod TakenOut
-- What stands under each number of a shelf, from how it is kept.
pub mod Standing
-- Whether something stands under a number of a shelf.
pub mod Looking
-- The marks of the numbers in a list.
pub mod Marking
-- Numbers and bodies side by side, as a hand has them.
pub mod Beside
-- A list that goes on with one value up to a length, as the slots do.
pub mod Padded
