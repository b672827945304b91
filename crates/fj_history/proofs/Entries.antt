-- Entries and their lines.

-- owners, kinds, statuses, and why a completion action was handed out
pub mod PartLaws
-- a line that is read is written so
pub mod EntryFound
-- a line that is written is read so
pub mod EntryAgain
-- how long a line is, and that it has no line feed
pub mod LineLaws
-- the line of an entry, both ways
pub mod EntryLaws
-- events that have codes of 32 bits
pub mod CodeLaws
