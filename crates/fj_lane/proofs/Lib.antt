-- the walks over the counted misses
pub mod Walks
-- each step at a lane keeps its rule
pub mod Kept
