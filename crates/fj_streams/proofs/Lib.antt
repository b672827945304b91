-- two reads or two writes, one after the other
pub mod Bytes
-- the calls of a reader or a writer, one after another
pub mod CallsMade
-- bytes that are read in two parts, and their lines
pub mod Lines
-- where more lines lead, behind good ones
pub mod States
-- a buffer takes more bytes
pub mod Steps
-- what a buffer has found when it stops
pub mod FaultsFound
-- where memory ran out
pub mod Starving
-- however a filter ends, a beginning of the text was written
pub mod Begun
-- what a fault tells of the calls of the reader and of the writer
pub mod CallsTold
