-- which entries may come
pub mod Entries
-- which bytes are a history
pub mod Histories
-- what a check says of the bytes that it read
pub mod Checks
-- what a check does at a line
pub mod Rules
-- no line is longer than 68 bytes
pub mod LongLines
