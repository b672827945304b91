pub mod Texts
pub mod Writes
-- what a trace does at a line of a script, and what it writes
pub mod Traces
pub mod Traced
-- no line is longer than 66 bytes
pub mod LongLines
