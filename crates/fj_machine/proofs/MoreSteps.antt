-- One step or move more of a run.

-- one step
pub mod Running
-- one move
pub mod MovesMore
-- what one move hands out
pub mod HandedMore
