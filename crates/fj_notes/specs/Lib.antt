-- how tasks are called
pub mod Labels
-- the lines of notes
pub mod Notes
-- what their words mean, as the reader goes
pub mod NoteReadings
-- reading notes to the end of an input
pub mod Reading
