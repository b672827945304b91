-- Bytes up to a separator.
pub mod Splits
-- The lines of nodes.
pub mod NodeLines
-- The bytes of a tree, read one after another.
pub mod TreeBytes
-- Bytes that are read in parts.
pub mod Inputs
-- The values of the nodes of a tree.
pub mod TreeValues
-- The sums over the children of each node, the last node first.
pub mod TreeSums
-- The children of a node, one after another.
pub mod Children
-- The nodes of a tree are joined to their children.
pub mod Joins
-- The value of a node is summed, child by child.
pub mod Sums
-- Bodies come nearer to their end.
pub mod Turns
