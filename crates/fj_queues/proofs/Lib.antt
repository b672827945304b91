-- Cells that are linked to one another.
pub mod Chains
-- The queues of all owners in one table.
pub mod Table
-- A number that stands in a list at most once is taken out.
pub mod TakenOut
