pub mod Numbers
pub mod Rule
pub mod Steps
pub mod Ends
