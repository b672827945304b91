-- what is under way
pub mod UnderWays
