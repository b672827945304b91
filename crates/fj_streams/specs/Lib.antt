pub mod Calls
pub mod Beginnings
-- the lines of bytes
pub mod Cuts
-- what a filter does at each line, and where that leads
pub mod Rules
-- what a result says of the bytes that were read
pub mod Faults
-- what a fault says of the calls of the reader and of the writer
pub mod Tells
-- where memory ran out
pub mod Starving
-- what a line buffer keeps, and what bytes do to it
pub mod Kept
pub mod Buffers
