pub mod Logs
pub mod Rule
