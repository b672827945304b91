pub mod Words
pub mod Names
pub mod Tasks
pub mod Readings
pub mod Replies
pub mod Shown
pub mod Lines
pub mod Headings
