-- sums that wrap
pub mod Sums
