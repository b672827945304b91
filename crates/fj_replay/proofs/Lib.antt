-- where more lines lead, behind good ones
pub mod Stages
-- names and their places in a table
pub mod NameTables
-- what is replied to a script of version 1, by itself
pub mod Version1
-- what is replied to a script of version 2, by itself
pub mod NamedText
-- what each line keeps, every play has
pub mod Kept
-- what has happened in a play is the history of a run
pub mod Runs
-- each name stands at the number of its task
pub mod Named
-- the replies are the answers to the moves that lines ask for
pub mod Moves
-- how a replay or an upgrade ends, by how its filter does
pub mod Ends
-- where a replay runs out of memory
pub mod Starving
-- a script that is whole, as a replay and as an upgrade tell it
pub mod Whole
-- however a replay or an upgrade ends, a beginning of what it writes was written
pub mod Begun
-- the replies to a script of version 1, and to the same script as version 2
pub mod Version2
-- a reader of bytes in memory does not fail
pub mod NeverRead
-- samples of version 2, computed by the definitions
pub mod Samples
