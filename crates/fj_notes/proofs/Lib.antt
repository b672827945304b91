-- labels as texts
pub mod Labels
-- notes and their lines
pub mod Lines
-- notes that were read to the end of an input
pub mod WholeNotes
