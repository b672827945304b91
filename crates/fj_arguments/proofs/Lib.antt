-- the number that was read for an option is that of its text
pub mod Numbers
-- a flag is given where its text is true
pub mod Flags
-- what the arguments do not ask for
pub mod Unasked
-- what the kind of an error says of the words
pub mod Answered
