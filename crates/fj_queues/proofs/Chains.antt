-- Cells that are linked to one another.

-- cells that lead to one another and follow one another
pub mod Links
-- a chain gains a cell at its new end, or loses the one at either end
pub mod ChainEnds
-- the chains of all owners
pub mod TableLinks
-- a walk over the cells of one queue
pub mod Walks
