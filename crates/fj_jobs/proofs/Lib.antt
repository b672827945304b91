-- Half of the blocks of a range.
pub mod Blocks
-- Numbers in a row, in two parts.
pub mod Stretches
-- Sums of numbers in a row.
pub mod Sums
-- Least values and first hits.
pub mod Residues
-- Values that nothing on their right changes.
pub mod Finals
-- How many numbers in a row pass a test.
pub mod Counts
-- Queries over ranges.
pub mod Queries
