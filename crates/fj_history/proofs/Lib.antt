-- Entries and their lines.
pub mod Entries
