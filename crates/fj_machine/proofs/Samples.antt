-- Sample runs with seals, computed by the definitions.

-- what moves come to
pub mod Moves
-- seals, and what they hand out
pub mod Seals
