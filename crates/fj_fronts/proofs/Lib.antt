pub mod Logs
pub mod Steps
