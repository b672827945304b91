-- the lines of one task more
pub mod Lines
