-- Samples of version 2, computed by the definitions.

-- what lines of version 2 come to
pub mod Played
-- names, and what they stand for
pub mod Names
-- seals
pub mod Seals
-- the words that are names, the line `fj 2`, and the lines of replies
pub mod Words
