pub use Rattle.fj_nodes.specs.Graphs
pub use Rattle.fj_nodes.specs.Fates
pub use Rattle.fj_nodes.specs.Courses
-- the one turn of a body
pub mod Turns
-- why a graph was not run to its end
pub mod Refusals
