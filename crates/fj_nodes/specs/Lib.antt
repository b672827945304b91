-- the inputs of nodes, and cycles
pub mod Graphs
-- whether the work of a node was called
pub mod Fates
-- the steps of a run, and what became of each node
pub mod Courses
