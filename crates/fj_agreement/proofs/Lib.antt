-- sums over lists, and a change of one seat
pub mod Seats
-- each step keeps the rule
pub mod Steps
