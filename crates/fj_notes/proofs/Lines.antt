-- Notes and their lines.

-- nanoseconds and their texts
pub mod NanosLaws
-- milestones and labels as parts of a line
pub mod PartLaws
-- a line that is read is written so
pub mod NoteFound
-- a line that is written is read so
pub mod NoteAgain
-- the line of a note, both ways, and how long it is
pub mod NoteLaws
