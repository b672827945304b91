-- which events are counted as what
pub mod Tallies
-- how one event changes each count
pub mod Counting
