pub mod Separators
pub mod Trees
pub mod TreeReaders
pub mod Reads
pub mod TreeValues
pub mod TreeSums
-- the nodes of a tree with their first children and their next siblings
pub mod Families
-- partial sums of the values of nodes
pub mod Tallies
-- how far a body that folds a node has come
pub mod Courses
-- what the body of a node asks next, by its stage and what it hears
pub mod Stages
