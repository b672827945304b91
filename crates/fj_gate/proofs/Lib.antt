-- sums and joined lists over all seats, after a change of one of them
pub mod Lists
-- what the rule says of each seat, and of the word
pub mod Seats
-- the rule holds again after a change of one seat
pub mod Kept
-- each step on the word keeps the rule, and tells its seat what it says
pub mod Steps
-- the closer gives parts away to entrants, and takes them back
pub mod Parting
-- the tickets of several entrants, joined
pub mod Drawn
